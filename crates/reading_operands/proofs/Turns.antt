-- The loop over the text follows the definition, byte by byte. Assumes nothing.
use Rattle.std.specs.Prelude.{Some, None}
use mathlib.Core.List.{List}
use mathlib.Core.Path.{◌≡◌, ap, ◌∙◌}
use Prim.Native.Nat.{ℕ, ◌+◌, ◌≤◌, ◌<◌}
use native.Mathlib.Numerals.{add-one}
use lib.ListN.{length, get_or, drop, drop_of_length-le}
use lib.Seq.{drop-cons}
use Rattle.instruction_set.specs.declared.InstructionArgument.{InstructionArgument}
use Rattle.reading_operands.specs.Reader.{ReaderState, state, first_ended, second_begun, step_taken, advanced, stopped_at, read_from, ended}
use Rattle.reading_operands.specs.Steps.{stepped}
use Rattle.reading_operands.specs.declared.Lead.TheVariants as lead
use Rattle.reading_operands.specs.declared.Phase.{Phase}
use Rattle.reading_operands.specs.declared.Phase.TheVariants as phase

-- ---- one byte, by what the functions say
module _ (x : ReaderState) (b : ℕ) where
  pub went_on : (p : Phase) → stepped x.phase b ≡ Some p → advanced x b ≡ Some (state x.first p)
  unfolding advanced
  went_on p e = ap (step_taken x b) e

  pub halted : stepped x.phase b ≡ None → first_ended x.first x.phase b ≡ None → advanced x b ≡ None
  unfolding advanced
  halted e f = ap (step_taken x b) e ∙ ap second_begun f

  pub second_goes : (a : InstructionArgument) → stepped x.phase b ≡ None → first_ended x.first x.phase b ≡ Some a →
      advanced x b ≡ Some (state (Some a) (phase.Lead lead.Nothing))
  unfolding advanced
  second_goes a e f = ap (step_taken x b) e ∙ ap second_begun f

-- ---- the text from byte k on
module _ (t : List ℕ) (k : ℕ) (x : ReaderState) where
  pub goes_on : k < length t → (y : ReaderState) → advanced x (get_or t k 0) ≡ Some y →
      read_from (drop (k + 1) t) (k + 1) y ≡ read_from (drop k t) k x
  unfolding read_from
  goes_on inside y e = rw (add-one k, drop-cons t k 0 inside, e)

  pub stops : k < length t → advanced x (get_or t k 0) ≡ None → read_from (drop k t) k x ≡ stopped_at k
  unfolding read_from
  stops inside e = rw (drop-cons t k 0 inside, e)

  pub ends : length t ≤ k → read_from (drop k t) k x ≡ ended k x
  unfolding read_from
  ends h = rw (drop_of_length-le t {i = k} h)

-- one turn of the loop, and its end
pub ruleset turns = (goes_on, stops, ends)
