-- Each answer's outcome belongs to it alone, so that a contract which gives the outcome gives the answer. By cases. Assumes nothing.
use Rattle.std.specs.Prelude.{Result, Ok, Err}
use mathlib.Core.List.{[], ◌∷◌}
use mathlib.Core.Path.{◌≡◌, sym, ap}
use Prim.Native.Nat.{◌≤◌, ◌<◌}
use native.Mathlib.Omega.{arith}
use lib.Dec.{ltb, ltb→lt}
use Rattle.utils.proofs.Outcomes.{same_number, same_values, given_not_refused}
use Rattle.instruction_set.specs.Arguments.{arguments_number, one_outcome, two_outcome, size_outcome}
use Rattle.instruction_set.specs.declared.ArgumentSize.{ArgumentSize}
use Rattle.instruction_set.specs.declared.InstructionArgument.{InstructionArgument}
use Rattle.instruction_set.specs.declared.Refusal.{Refusal}
use Rattle.instruction_set.proofs.Arms.{number_one, all}
use Rattle.instruction_set.specs.contracts.Refusal.{enum}

-- the numbers are 8 to 11
pub above_seven : (r : Refusal) → 7 < arguments_number r
above_seven r = ltb→lt 7 (arguments_number r) (all enum (λ e. ltb 7 (arguments_number e)) tt r)

some_number : (r : Refusal) → 1 ≤ arguments_number r
some_number r = omega (arith, above_seven r)

refusal_one : (r s : Refusal) → arguments_number r ≡ arguments_number s → r ≡ s
refusal_one = number_one enum tt arguments_number tt

pub one_outcome_lem : (a b : Result InstructionArgument Refusal) → one_outcome a ≡ one_outcome b → a ≡ b
one_outcome_lem (Ok a) (Ok b) e = let v = same_values e in cc
one_outcome_lem (Ok a) (Err s) e = absurd (given_not_refused (a ∷ []) [] (arguments_number s) (some_number s) e)
one_outcome_lem (Err r) (Ok b) e = absurd (given_not_refused (b ∷ []) [] (arguments_number r) (some_number r) (sym e))
one_outcome_lem (Err r) (Err s) e = ap Err (refusal_one r s (same_number e))

pub two_outcome_lem : (a b : Result (InstructionArgument × InstructionArgument) Refusal) → two_outcome a ≡ two_outcome b → a ≡ b
two_outcome_lem (Ok (a, a')) (Ok (b, b')) e = let v = same_values e in cc
two_outcome_lem (Ok (a, a')) (Err s) e = absurd (given_not_refused (a ∷ a' ∷ []) [] (arguments_number s) (some_number s) e)
two_outcome_lem (Err r) (Ok (b, b')) e = absurd (given_not_refused (b ∷ b' ∷ []) [] (arguments_number r) (some_number r) (sym e))
two_outcome_lem (Err r) (Err s) e = ap Err (refusal_one r s (same_number e))

pub size_outcome_lem : (a b : Result ArgumentSize Refusal) → size_outcome a ≡ size_outcome b → a ≡ b
size_outcome_lem (Ok a) (Ok b) e = let v = same_values e in cc
size_outcome_lem (Ok a) (Err s) e = absurd (given_not_refused (a ∷ []) [] (arguments_number s) (some_number s) e)
size_outcome_lem (Err r) (Ok b) e = absurd (given_not_refused (b ∷ []) [] (arguments_number r) (some_number r) (sym e))
size_outcome_lem (Err r) (Err s) e = ap Err (refusal_one r s (same_number e))
