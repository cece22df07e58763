-- The two forms of the flag call: they differ in Zero at most (`zero_anew`), and there only where the low bits are 0 and the result is not
-- (`zero_told`). An extended result is never one of these. What an operation answers is extended from its size, and its flags are those of
-- the low bits, so that they stand. Assumes nothing.
use mathlib.Core.Bool.{Bool, true, false, cond}
use mathlib.Core.List.{[], ◌∷◌}
use mathlib.Core.Logic.{inl, inr}
use mathlib.Core.Path.{◌≡◌, refl, sym, ap, ◌∙◌}
use Prim.Native.Nat.{ℕ, ◌*◌}
use native.Mathlib.Decide.{ℕ_discrete}
use native.Mathlib.Omega.{arith}
use borrow.Author.Tests.{ne_eqb}
use lib.Count.{ones, ones_in}
use lib.Dec.{eqb}
use lib.ListN.{get_or, length}
use Rattle.utils.specs.Outcome.{Outcome, gives}
use Rattle.utils.specs.Word.{cut, put, extend}
use Rattle.utils.proofs.Extend.{extend_back}
use Rattle.utils.proofs.Field.{cut_bottom, cut_all}
use Rattle.instruction_set.specs.Sizes.{bytes_of}
use Rattle.instruction_set.specs.declared.ArgumentSize.{ArgumentSize}
use Rattle.instruction_set.specs.declared.ArgumentSize.TheVariants.{Bit64}
use Rattle.fields.specs.FlagBits.{bit_set, put_flag, even_ones, result_flags}
use Rattle.fields.specs.Parts.{low_bits}
use Rattle.fields.proofs.SizedFlags.{zero_anew, zero_told, zero_extended, sign_extended, result_zero}
use Rattle.arithmetic.specs.Sums.{gives_value, worked_at, computed_of}
use Rattle.arithmetic.specs.declared.Sum.{Sum}
use Rattle.arithmetic.proofs.Left.{flags_stand, worked_low}
use Rattle.arithmetic.proofs.Widths.{bits_within}
use Rattle.machine_state.specs.Answers.{Value, word, given_values}
use Rattle.machine_state.specs.Machine.{with_flags}
use Rattle.machine_state.specs.Memory.{leaves}
use Rattle.machine_state.specs.Operating.{operated}
use Rattle.machine_state.specs.declared.Given.TheVariants.{Nothing, Word}
use Rattle.machine_state.specs.declared.Event.TheVariants.{Quiet}
use Rattle.calls.specs.Step.{step}
use Rattle.promises.specs.SizedFlags.{FormsAlike, FormsAgree, OneAtBit64, ZeroAlone, DifferExactly, AnswersTold, sized_examples}
use Rattle.promises.specs.Table.{values_of, all_computed, all_stated}

pub zero_alone : ZeroAlone
unfolding step
zero_alone z v m s l = ap (λ (x : ℕ). leaves (with_flags m x) s l Quiet (gives [])) (zero_anew z v m.rflags)

alike : (z : ArgumentSize) (v : ℕ) → (low_bits z v ≡ 0 → v ≡ 0) → FormsAlike z v
unfolding step
alike z v h m s l = ap (λ (b : Bool). leaves (with_flags m (result_flags m.rflags b v z)) s l Quiet (gives [])) (zero_told z v h)

pub forms_agree : FormsAgree
forms_agree z v (inl h) = alike z v (zero_extended z v h)
forms_agree z v (inr h) = alike z v (sign_extended z v h)

pub one_at_bit64 : OneAtBit64
one_at_bit64 v h = forms_agree Bit64 v (inl (sym (cut_all v 64 h)))

pub differ_exactly : DifferExactly
unfolding step
differ_exactly z v = (
  λ only. record {
    old = λ m s l. result_zero m.rflags (eqb v 0) v z ∙ ne_eqb v 0 only.1;
    sized = λ m s l. result_zero m.rflags (eqb (low_bits z v) 0) v z ∙ ap (λ (y : ℕ). eqb y 0) only.0;
  },
  λ not-only. alike z v (λ low. go (ℕ_discrete v 0) (λ some. not-only (low, some))),
)
  where
    go : Dec (v ≡ 0) → ((v ≡ 0 → ⊥) → ⊥) → v ≡ 0
    go (yes e) h = e
    go (no n) h = absurd (h n)

-- ---- the value that an operation answers
value_said_lem : (b : Bool) (x v : ℕ) → gives (given_values (cond b (Word x) Nothing)) ≡ gives (word v ∷ []) → x ≡ v
value_said_lem true x v e = ap (λ (o : Outcome Value). get_or (values_of o.values) 0 0) e
value_said_lem false x v e = absurd (omega (arith, ap (λ (o : Outcome Value). length (values_of o.values)) e))

pub answers_told : AnswersTold
unfolding step operated computed_of
answers_told o z a b v m s l e =
    record {
      alike = forms_agree z v (inr (sym is ∙ ap (extend w) (sym low)));
      stand = λ t k. ap (λ (x : ℕ). leaves (with_flags m x) t k Quiet (gives [])) (flags_stand m.rflags z r v low);
    }
  where
    w : ℕ
    w = 8 * bytes_of z

    r : Sum
    r = worked_at m.rflags o z a b

    is : extend w r.value ≡ v
    is = value_said_lem (gives_value o) (extend w r.value) v e

    low : low_bits z v ≡ r.value
    low =
        ap (low_bits z) (sym is) ∙ cut_bottom (extend w r.value) w ∙ extend_back w r.value (bits_within z) ∙ worked_low o w _ _ _

-- ---- the examples, all in one claim, which the checker computes
pub sized_examples_hold : all_computed sized_examples ≡ all_stated sized_examples
unfolding step bit_set put_flag even_ones ones ones_in cut put
sized_examples_hold = refl
