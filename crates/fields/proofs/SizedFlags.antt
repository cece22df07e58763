-- The two flag forms of a result, by all its 64 bits and at its size. Sign and Parity look at the low bits alone, so the forms differ in
-- Zero at most, and there only where the low bits are 0 and the result is not. Assumes nothing.
use mathlib.Core.Bool.{Bool, true, false}
use mathlib.Core.Logic.{◌⊎◌, inl, inr}
use mathlib.Core.Path.{◌≡◌, sym, ap, ◌∙◌}
use Prim.Native.Nat.{ℕ, ◌+◌, ◌-◌, ◌*◌, ◌%◌, ◌≤◌}
use native.Mathlib.Nat.{mod-eq_of_lt}
use native.Mathlib.Omega.{arith}
use borrow.Author.Tests.{eqb-true, eqb-false, ne_eqb}
use lib.Count.{ones}
use lib.Dec.{eqb}
use lib.Pow.{pow_pos}
use Rattle.utils.specs.Word.{cut, extend}
use Rattle.std.proofs.lemmas.Bool.{cases_Bool}
use Rattle.utils.proofs.Extend.{extend_zero}
use Rattle.utils.proofs.Field.{cut_bottom, cut_mod}
use Rattle.instruction_set.specs.Sizes.{bytes_of}
use Rattle.instruction_set.specs.declared.ArgumentSize.{ArgumentSize}
use Rattle.instruction_set.specs.declared.Flags.TheVariants.{Parity, Zero, Sign}
use Rattle.instruction_set.proofs.Bounds.{bytes_some}
use Rattle.fields.specs.FlagBits.{bit_set, flag_of, put_flag, sign_in, even_ones, result_flags}
use Rattle.fields.specs.FlagBits.{computed_flags, sized_flags}
use Rattle.fields.specs.Parts.{low_bits}
use Rattle.fields.proofs.FlagLaws.{flag_back, flag_other, flag_stands, flag_again, flag_swap}

module _ (s : ArgumentSize) (v : ℕ) where
  abbrev w : ℕ
  w = 8 * bytes_of s

  -- ---- Sign and Parity are those of the low bits
  low_field : (f n : ℕ) → f + n ≤ w → cut (low_bits s v) f n ≡ cut v f n
  low_field f n h = ap (λ (y : ℕ). cut y f n) (cut_bottom v w) ∙ cut_mod v w f n h

  pub sign_low : sign_in s (low_bits s v) ≡ sign_in s v
  unfolding bit_set
  sign_low = ap (λ (y : ℕ). eqb y 1) (low_field (w - 1) 1 (omega (arith, bytes_some s)))

  pub parity_low : even_ones (low_bits s v) ≡ even_ones v
  unfolding even_ones
  parity_low =
      ap (λ (y : ℕ). eqb (ones y % 2) 0)
      (sym (cut_bottom (low_bits s v) 8) ∙ low_field 0 8 (omega (arith, bytes_some s)) ∙ cut_bottom v 8)

  -- so the sized form is the old one of the low bits
  pub sized_of_low : (x : ℕ) → computed_flags x (low_bits s v) s ≡ sized_flags x v s
  sized_of_low x = rw (sign_low, parity_low)

  -- ---- and it is the old one with Zero set anew
  pub zero_anew : (x : ℕ) → sized_flags x v s ≡ put_flag (computed_flags x v s) Zero (eqb (low_bits s v) 0)
  zero_anew x =
      let zero = put_flag x Zero (eqb v 0) in
      let b = eqb (low_bits s v) 0 in
      sym
      (flag_swap (put_flag zero Sign (sign_in s v)) Parity Zero (even_ones v) b (inr (omega arith))
      ∙ ap (λ (y : ℕ). put_flag y Parity (even_ones v))
      (flag_swap zero Sign Zero (sign_in s v) b (inl (omega arith))
      ∙ ap (λ (y : ℕ). put_flag y Sign (sign_in s v)) (flag_again x Zero (eqb v 0) b)))

  -- ---- which changes nothing where the low bits are 0 only if the result is
  low_zero : v ≡ 0 → low_bits s v ≡ 0
  low_zero e = ap (low_bits s) e ∙ cut_bottom 0 w ∙ mod-eq_of_lt (pow_pos w)

  pub zero_told : (low_bits s v ≡ 0 → v ≡ 0) → eqb (low_bits s v) 0 ≡ eqb v 0
  zero_told h = go (cases_Bool (eqb (low_bits s v) 0))
    where
      go : (eqb (low_bits s v) 0 ≡ true) ⊎ (eqb (low_bits s v) 0 ≡ false) → eqb (low_bits s v) 0 ≡ eqb v 0
      go (inl t) = let e : v ≡ 0 = h (eqb-true (low_bits s v) 0 t) in rw (t, e)
      go (inr n) = n ∙ sym (ne_eqb v 0 (λ e. eqb-false (low_bits s v) 0 n (low_zero e)))

  -- ---- as of a result that is extended from its size, by zeros or by its sign
  pub zero_extended : v ≡ low_bits s v → low_bits s v ≡ 0 → v ≡ 0
  zero_extended h e = h ∙ e

  pub sign_extended : v ≡ extend w (low_bits s v) → low_bits s v ≡ 0 → v ≡ 0
  sign_extended h e = h ∙ ap (extend w) e ∙ extend_zero w

-- ---- Zero is as told
pub result_zero : (x : ℕ) (b : Bool) (v : ℕ) (s : ArgumentSize) → flag_of (result_flags x b v s) Zero ≡ b
result_zero x b v s =
    flag_other (put_flag (put_flag x Zero b) Sign (sign_in s v)) Parity Zero (even_ones v) (inr (omega arith))
    ∙ flag_other (put_flag x Zero b) Sign Zero (sign_in s v) (inl (omega arith)) ∙ flag_back x Zero b

-- ---- flags that stand already as a result tells them stay as they are
pub result_stands : (x : ℕ) (b : Bool) (v : ℕ) (s : ArgumentSize) → flag_of x Zero ≡ b → flag_of x Sign ≡ sign_in s v
    → flag_of x Parity ≡ even_ones v → result_flags x b v s ≡ x
result_stands x b v s zero sign parity =
    ap (λ (y : ℕ). put_flag (put_flag y Sign (sign_in s v)) Parity (even_ones v)) (flag_stands x Zero b zero)
    ∙ ap (λ (y : ℕ). put_flag y Parity (even_ones v)) (flag_stands x Sign (sign_in s v) sign) ∙ flag_stands x Parity (even_ones v) parity
