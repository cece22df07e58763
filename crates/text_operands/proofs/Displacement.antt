-- A displacement and its distance from 0: which text it has on either side of 0, and that eight digits are enough. Assumes nothing.
use mathlib.Core.Bool.{true, false}
use mathlib.Core.List.{◌++◌}
use mathlib.Core.Path.{◌≡◌, refl, ap}
use Prim.Native.Nat.{ℕ, ◌^◌, ◌≤◌}
use native.Mathlib.Nat.{not-suc-le-zero}
use native.Mathlib.Omega.{arith}
use borrow.Author.Tests.{ltb-true}
use lib.IntN.{ℤ, pos, negsuc, nat_abs}
use lib.ListN.{length}
use lib.Signed.{lt_z, nat_abs-le}
use mir.Facts.{to_z-of_z}
use mir.Syntax.{w32}
use mir.Val.{SFits, to_z, of_z}
use Rattle.text_pieces.specs.Ascii.{ascii}
use Rattle.text_pieces.specs.Hex.{hex_text}
use Rattle.text_operands.specs.Operands.{displacement_text}
use Rattle.text_pieces.proofs.HexLaws.{digits_under}
use Rattle.text_pieces.proofs.Longest.{length_digits}

abs_small : {z : ℤ} → SFits w32 z → nat_abs z ≤ 2 ^ 31
abs_small {z} f = nat_abs-le z f.sfits

zero_one : ◌≡◌ {A = ℕ} 0 1 → ⊥
zero_one e = omega arith

not_negative : (z : ℤ) → lt_z z (pos 0) ≡ false → z ≡ pos (nat_abs z)
not_negative (pos n) t = refl
not_negative (negsuc n) t = let e : ◌≡◌ {A = ℕ} 0 1 = cc in absurd (zero_one e)

pub whole : (z : ℤ) (f : SFits w32 z) → to_z w32 (of_z w32 z) ≡ z
whole z f = to_z-of_z f

pub shown_below : (z : ℤ) → lt_z z (pos 0) ≡ true → displacement_text z ≡ ascii "-0x" ++ hex_text (nat_abs z)
shown_below (pos n) t = absurd (not-suc-le-zero (ltb-true n 0 t))
shown_below (negsuc n) t = refl

pub shown_above : (z : ℤ) → lt_z z (pos 0) ≡ false → displacement_text z ≡ ascii "0x" ++ hex_text (nat_abs z)
shown_above z t = ap displacement_text (not_negative z t)

-- of a displacement at most eight digits are shown
pub eight : {z : ℤ} → SFits w32 z → length (hex_text (nat_abs z)) ≤ 8
eight {z} f = rw length_digits (digits_under 8 (nat_abs z) (omega arith) (omega arith) (omega (arith, abs_small f)))
