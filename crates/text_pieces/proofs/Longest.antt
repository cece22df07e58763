-- How long the pieces can be: a branch's bound is that of the longer side, a sum's the sum of the bounds. Assumes nothing.
use mathlib.Core.Bool.{Bool, true, false, cond}
use mathlib.Core.List.{List, ◌++◌}
use mathlib.Core.Path.{◌≡◌, refl, ap}
use Prim.Native.Nat.{ℕ, zero, suc, ◌+◌, ◌≤◌}
use native.Mathlib.Omega.{arith}
use lib.ListN.{length, length-append}
use Rattle.std.proofs.lemmas.Bool.Decides.{nat_tests}
use Rattle.text_pieces.specs.Ascii.{decimal_text}
use Rattle.text_pieces.specs.Hex.{hex_digits, hex_text}
use Rattle.text_pieces.proofs.HexLaws.{digits_most}

-- the longer of two branches
pub either : (m : ℕ) (b : Bool) (s t : List ℕ) → length s ≤ m → length t ≤ m → length (cond b s t) ≤ m
either m true s t p q = p
either m false s t p q = q

-- two texts one after the other
pub joined : (m n : ℕ) (s t : List ℕ) → length s ≤ m → length t ≤ n → length (s ++ t) ≤ m + n
joined m n s t p q = rw length-append (omega arith)

pub length_digits : (k x : ℕ) → length (hex_digits k x) ≡ k
unfolding hex_digits
length_digits zero x = refl
length_digits (suc k) x = ap suc (length_digits k x)

pub hex_most : (x : ℕ) → length (hex_text x) ≤ 16
hex_most x = rw length_digits (digits_most x)

pub decimal_most : (x : ℕ) → length (decimal_text x) ≤ 3
decimal_most x = grind (arith, nat_tests)
