-- The numbers of operand text (RULES 6.2, 6.4, 6.5), digit by digit: which byte may begin one, which may go on, and what the digits mean
-- (RULES 6.10, 6.11).
use Rattle.std.specs.Prelude.{Option, Some, None, cond, ℕ, ◌+◌, ◌-◌, ◌*◌, ltb, leb}
use Rattle.reading_numbers.specs.declared.Numeral.{Numeral}
use Rattle.reading_numbers.specs.declared.Numeral.TheVariants.{Immediate, Above, Below, Scale}

abbrev pub radix_of : Numeral → ℕ
radix_of Immediate = 16
radix_of Above = 16
radix_of Below = 16
radix_of Scale = 10

-- a minus does not stand before 0
abbrev pub least_of : Numeral → ℕ
least_of Immediate = 0
least_of Above = 0
least_of Below = 1
least_of Scale = 0

-- an immediate has 64 bits; a displacement is at least -2^31 and below 2^31; a scale is a byte
abbrev pub most_of : Numeral → ℕ
most_of Immediate = 18446744073709551615
most_of Above = 2147483647
most_of Below = 2147483648
most_of Scale = 255

-- the value of a digit, lowercase hex or decimal, or 16
unfoldable pub digit_value : ℕ → ℕ
digit_value b = cond (ltb b 48) 16 (cond (leb b 57) (b - 48) (cond (ltb b 97) 16 (cond (leb b 102) (b - 87) 16)))

-- the number of one digit
unfoldable pub first_digit : Numeral → ℕ → Option ℕ
first_digit n b = cond (ltb (digit_value b) (radix_of n)) (cond (leb (least_of n) (digit_value b)) (Some (digit_value b)) None) None

-- the number with one digit more: nothing goes on from a lone 0, and the number stays within its bound
unfoldable pub next_digit : Numeral → ℕ → ℕ → Option ℕ
next_digit n v b =
    let more = v * radix_of n + digit_value b in
    cond (ltb (digit_value b) (radix_of n)) (cond (ltb 0 v) (cond (leb more (most_of n)) (Some more) None) None) None

-- ---- what a number means; one past its bound is never read, and means 0
-- the 32 bits of v, and of -v
unfoldable pub positive_bits : ℕ → ℕ
positive_bits v = cond (leb v (most_of Above)) v 0

unfoldable pub negative_bits : ℕ → ℕ
negative_bits v = cond (leb v (most_of Below)) (cond (ltb 0 v) (4294967296 - v) 0) 0

unfoldable pub scale_of : ℕ → ℕ
scale_of v = cond (leb v (most_of Scale)) v 0
