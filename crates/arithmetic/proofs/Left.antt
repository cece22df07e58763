-- What an operation leaves in rflags, for those who go on from it: Carry, Parity, Zero and Sign are the sum's, so that a flag call on its
-- value changes nothing. Assumes nothing.
use Rattle.std.proofs.Common.{◌≡◌, ℕ, ◌+◌, ◌-◌, ◌%◌, ◌^◌, Bool, true, false, cond, eqb, sym, ap, ◌∙◌, inl, arith}
use native.Mathlib.Nat.{mod-mod}
use Rattle.instruction_set.specs.declared.ArgumentSize.{ArgumentSize}
use Rattle.instruction_set.specs.declared.Flags.TheVariants.{Carry, Parity, Zero, Sign, Overflow}
use Rattle.fields.specs.FlagBits.{bool_bit, flag_of, sign_in, even_ones, sized_flags}
use Rattle.fields.specs.Parts.{low_bits}
use Rattle.fields.proofs.FlagLaws.{flag_back, flag_other}
use Rattle.fields.proofs.SizedFlags.{sign_low, parity_low, result_stands}
use Rattle.arithmetic.specs.Sums.{added, subtracted, is_difference, worked_of, flags_of}
use Rattle.arithmetic.specs.declared.Operation.{Operation}
use Rattle.arithmetic.specs.declared.Sum.{Sum}

module _ (x : ℕ) (z : ArgumentSize) (r : Sum) where
  pub carry_left : flag_of (flags_of x z r) Carry ≡ r.carry
  unfolding flags_of
  carry_left =
      flag_other _ Overflow Carry r.overflow (inl (omega arith))
      ∙ flag_other _ Sign Carry (sign_in z r.value) (inl (omega arith))
      ∙ flag_other _ Zero Carry (eqb r.value 0) (inl (omega arith))
      ∙ flag_other _ Parity Carry (even_ones r.value) (inl (omega arith))
      ∙ flag_back x Carry r.carry

  parity_left : flag_of (flags_of x z r) Parity ≡ even_ones r.value
  unfolding flags_of
  parity_left =
      flag_other _ Overflow Parity r.overflow (inl (omega arith))
      ∙ flag_other _ Sign Parity (sign_in z r.value) (inl (omega arith))
      ∙ flag_other _ Zero Parity (eqb r.value 0) (inl (omega arith))
      ∙ flag_back _ Parity (even_ones r.value)

  zero_left : flag_of (flags_of x z r) Zero ≡ eqb r.value 0
  unfolding flags_of
  zero_left =
      flag_other _ Overflow Zero r.overflow (inl (omega arith))
      ∙ flag_other _ Sign Zero (sign_in z r.value) (inl (omega arith))
      ∙ flag_back _ Zero (eqb r.value 0)

  sign_left : flag_of (flags_of x z r) Sign ≡ sign_in z r.value
  unfolding flags_of
  sign_left = flag_other _ Overflow Sign r.overflow (inl (omega arith)) ∙ flag_back _ Sign (sign_in z r.value)

  -- v is the value, whatever stands above its low bits
  pub flags_stand : (v : ℕ) → low_bits z v ≡ r.value → sized_flags (flags_of x z r) v z ≡ flags_of x z r
  flags_stand v e =
      result_stands (flags_of x z r) (eqb (low_bits z v) 0) v z
      (zero_left ∙ ap (λ (y : ℕ). eqb y 0) (sym e))
      (sign_left ∙ ap (sign_in z) (sym e) ∙ sign_low z v)
      (parity_left ∙ ap even_ones (sym e) ∙ parity_low z v)

-- what is worked out has no more bits than the width
pub worked_low : (o : Operation) (w a b : ℕ) (c : Bool) → (worked_of o w a b c).value % 2 ^ w ≡ (worked_of o w a b c).value
unfolding worked_of added subtracted
worked_low o w a b c = go (is_difference o)
  where
    go : (d : Bool) → (cond d (subtracted w a b (bool_bit c)) (added w a b (bool_bit c))).value % 2 ^ w
        ≡ (cond d (subtracted w a b (bool_bit c)) (added w a b (bool_bit c))).value
    go true = mod-mod (a + 2 ^ w - (b + bool_bit c)) (2 ^ w)
    go false = mod-mod (a + b + bool_bit c) (2 ^ w)
