-- A word is a number below 2^64, bit for bit the Rust's i64 (RULES 1.1). Here is what a field of its bits is, and what sign extension is.
-- Byte lanes and the parts of registers are fields of 8 to 64 bits, flags are fields of 1: one law serves them all.
use Rattle.std.specs.Prelude.{ℕ, ◌+◌, ◌-◌, ◌*◌, ◌/◌, ◌%◌, ◌^◌, cond, nat_lt}

-- the n bits of x from bit f on
unfoldable pub cut : ℕ → ℕ → ℕ → ℕ
cut x f n = x / 2 ^ f % 2 ^ n

-- x with the n bits from bit f on replaced by the low n bits of v
unfoldable pub put : ℕ → ℕ → ℕ → ℕ → ℕ
put x f n v = x / 2 ^ (f + n) * 2 ^ (f + n) + (v % 2 ^ n * 2 ^ f + x % 2 ^ f)

-- byte lane j of a word; lane 0 is the lowest (RULES 2.3)
abbrev pub lane : ℕ → ℕ → ℕ
lane j x = cut x (8 * j) 8

-- the low n bits of x read as a signed number, as a word (RULES 1.4); no bits read 0
unfoldable pub extend : ℕ → ℕ → ℕ
extend n x = cond (nat_lt (x % 2 ^ n) (2 ^ (n - 1))) (x % 2 ^ n) (x % 2 ^ n + (2 ^ 64 - 2 ^ n))
