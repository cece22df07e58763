-- Hexadecimal text, lowercase (RULES 6.2): a fixed number of digits, and the least number of them, are one definition.
use Rattle.std.specs.Prelude.{cond, List, [], ◌∷◌, ℕ, zero, suc, ◌+◌, ◌-◌, ◌*◌, ◌/◌, ◌%◌, ◌^◌, max, ltb}
use Rattle.std.specs.Int.Count.{count_leading_zeros}

-- the byte of a digit: 0 to 9, then a to f
abbrev pub hex_byte : ℕ → ℕ
hex_byte d = cond (ltb d 10) (48 + d) (87 + d)

-- the n lowest digits of x, highest first
unfoldable pub hex_digits : ℕ → ℕ → List ℕ
hex_digits zero x = []
hex_digits (suc n) x = hex_byte (x / 2 ^ (4 * n) % 16) ∷ hex_digits n x

-- how many bits a word takes, up to its highest set bit
abbrev pub bits_of : ℕ → ℕ
bits_of x = 64 - count_leading_zeros 64 x

-- no leading zeros: the digit count follows from the highest set bit, and 0 takes one digit (RULES 6.2)
abbrev pub digits_of : ℕ → ℕ
digits_of x = max 1 ((bits_of x + 3) / 4)

abbrev pub hex_text : ℕ → List ℕ
hex_text x = hex_digits (digits_of x) x
