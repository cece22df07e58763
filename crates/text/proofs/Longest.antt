-- How long the texts of operands can be (RULES 6.9; the state's bound is `state_most`, in text_state): an operand's bound, by cases on
-- what is told. Assumes nothing.
use Rattle.std.specs.Prelude.{Option, Some, None}
use mathlib.Core.Bool.{Bool, true, false}
use mathlib.Core.List.{List, [], ◌∷◌}
use Prim.Native.Nat.{ℕ, ◌≤◌}
use native.Mathlib.Omega.{arith}
use lib.ListN.{length}
use Rattle.utils.specs.Outcome.{Outcome, accepted, first_if}
use Rattle.instruction_set.specs.Arguments.{selected_size}
use Rattle.instruction_set.specs.Operands.{lacks_scale, some_lacks_scale}
use Rattle.instruction_set.specs.declared.ArgumentSize.{ArgumentSize}
use Rattle.instruction_set.specs.declared.InstructionArgument.{InstructionArgument}
use Rattle.instruction_set.specs.declared.InstructionArguments.{InstructionArguments}
use Rattle.text_operands.proofs.Longest.{Narrow, SomeNarrow, list_most}
use Rattle.text_operands.specs.Operands.{list_text}
use Rattle.text.specs.Answers.{TextOrRefusal, text_is, refused_with}
use Rattle.text.specs.Arguments.{unless3, list_answer, at_size, arguments_answer, arguments_text}

-- the length of what is told; a refusal has none
abbrev pub length_of : TextOrRefusal → ℕ
length_of (text_is t) = length t
length_of (refused_with n) = 0

unless_most : (b : Bool) (o : TextOrRefusal) {m : ℕ} → length_of o ≤ m → length_of (unless3 b o) ≤ m
unless_most true o h = omega arith
unless_most false o h = h

told_most : (size : ArgumentSize) (x : InstructionArgument) (y : Option InstructionArgument) → Narrow x → SomeNarrow y
    → length_of (list_answer size x y) ≤ 57
told_most size x y n m =
    unless_most (lacks_scale x) _ (unless_most (some_lacks_scale y) (text_is (list_text size x y)) (list_most size x y n m))

sized_most : (o : Outcome ArgumentSize) (x : InstructionArgument) (y : Option InstructionArgument) → Narrow x → SomeNarrow y
    → length_of (at_size o (λ s. list_answer s x y)) ≤ 57
sized_most o x y n m = go (accepted o) o.values
  where
    go : (b : Bool) (ss : List ArgumentSize) → length_of (first_if b ss (λ s. list_answer s x y) (refused_with o.number)) ≤ 57
    go true (s ∷ ss) = told_most s x y n m
    go true [] = omega arith
    go false ss = omega arith

pub arguments_most : (a : InstructionArguments) → SomeNarrow a.first_argument → SomeNarrow a.second_argument
    → length_of (arguments_text a) ≤ 57
arguments_most a n m = go a.first_argument a.second_argument (selected_size a) n m
  where
    go : (f g : Option InstructionArgument) (o : Outcome ArgumentSize) → SomeNarrow f → SomeNarrow g
        → length_of (arguments_answer f g o) ≤ 57
    go None None o n m = omega arith
    go None (Some y) o n m = omega arith
    go (Some x) y o n m = sized_most o x y n m
