-- Decimal text belongs to its number alone: read back digit by digit it gives the number. By the number of digits, each case arithmetic.
-- Assumes nothing.
use mathlib.Core.Path.{◌≡◌, sym, ap, ◌∙◌}
use mathlib.Core.List.{List, [], ◌∷◌}
use Prim.Native.Nat.{ℕ, ◌+◌, ◌-◌, ◌*◌, ◌<◌}
use native.Mathlib.Omega.{arith}
use Rattle.std.proofs.lemmas.Bool.Decides.{nat_tests}
use Rattle.text_pieces.specs.Ascii.{decimal_text}

-- the number of a text of digits, highest first, after those of acc
unfoldable pub read_decimal : ℕ → List ℕ → ℕ
read_decimal acc [] = acc
read_decimal acc (b ∷ t) = read_decimal (acc * 10 + (b - 48)) t

-- read back, the text of x is x; three digits are all that the text has room for
pub decimal_back : (x : ℕ) → x < 1000 → read_decimal 0 (decimal_text x) ≡ x
unfolding read_decimal
decimal_back x u = grind (arith, nat_tests)

-- each number's decimal text belongs to it alone
pub decimal_one : (x y : ℕ) → x < 1000 → y < 1000 → decimal_text x ≡ decimal_text y → x ≡ y
decimal_one x y u v e = sym (decimal_back x u) ∙ ap (read_decimal 0) e ∙ decimal_back y v
