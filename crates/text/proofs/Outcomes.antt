-- Each answer's outcome belongs to it alone, so that a contract which gives the outcome gives the answer; and a text call's contract
-- fixes the answer and the buffer. By cases. Assumes nothing.
use Rattle.std.specs.Prelude.{Result, Ok, Err}
use mathlib.Core.List.{List, [], ◌∷◌}
use mathlib.Core.Path.{◌≡◌, refl, sym, ap, ◌∙◌}
use Prim.Native.Nat.{ℕ, ◌≤◌}
use native.Mathlib.Omega.{arith}
use Rattle.utils.proofs.Outcomes.{same_number, same_values, given_not_refused}
use Rattle.instruction_set.proofs.Arms.{number_one}
use Rattle.instruction_set.proofs.Outcomes.{above_seven}
use Rattle.instruction_set.specs.contracts.Refusal.{enum}
use Rattle.instruction_set.specs.Arguments.{arguments_number}
use Rattle.text.specs.Answers.{TextOrRefusal, TextWritten, text_number, text_outcome}
use Rattle.text.specs.declared.Refusal.{Refusal}
use Rattle.text.specs.declared.Refusal.TheVariants as refusal

some_number : (r : Refusal) → 1 ≤ text_number r
some_number refusal.NoScale = omega arith
some_number refusal.TooLong = omega arith
some_number (refusal.Arguments a) = omega (arith, above_seven a)

refusal_one : (r s : Refusal) → text_number r ≡ text_number s → r ≡ s
refusal_one refusal.NoScale refusal.NoScale e = refl
refusal_one refusal.NoScale refusal.TooLong e = absurd (omega arith)
refusal_one refusal.NoScale (refusal.Arguments b) e = absurd (omega (arith, above_seven b))
refusal_one refusal.TooLong refusal.NoScale e = absurd (omega arith)
refusal_one refusal.TooLong refusal.TooLong e = refl
refusal_one refusal.TooLong (refusal.Arguments b) e = absurd (omega (arith, above_seven b))
refusal_one (refusal.Arguments a) refusal.NoScale e = absurd (omega (arith, above_seven a))
refusal_one (refusal.Arguments a) refusal.TooLong e = absurd (omega (arith, above_seven a))
refusal_one (refusal.Arguments a) (refusal.Arguments b) e = ap refusal.Arguments (number_one enum tt arguments_number tt a b e)

pub text_outcome_lem : (a b : Result ℕ Refusal) → text_outcome a ≡ text_outcome b → a ≡ b
text_outcome_lem (Ok m) (Ok n) e = let v = same_values e in cc
text_outcome_lem (Ok m) (Err s) e = absurd (given_not_refused (m ∷ []) [] (text_number s) (some_number s) e)
text_outcome_lem (Err r) (Ok n) e = absurd (given_not_refused (n ∷ []) [] (text_number r) (some_number r) (sym e))
text_outcome_lem (Err r) (Err s) e = ap Err (refusal_one r s (same_number e))

-- no two answers, and no two buffers, meet one contract
pub said_one : {o : TextOrRefusal} {d d' d'' : List ℕ} {a b : Result ℕ Refusal}
    → TextWritten o d d' (text_outcome a) → TextWritten o d d'' (text_outcome b) → (a ≡ b) × (d' ≡ d'')
said_one {a = a} {b} s t = (text_outcome_lem a b (s.answer ∙ sym t.answer), s.bytes ∙ sym t.bytes)
