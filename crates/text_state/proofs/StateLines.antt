-- The lines of the state, as the loop writes them: the next one, and what is left. Assumes nothing.
use mathlib.Core.List.{List, ◌++◌}
use mathlib.Core.Path.{◌≡◌}
use Prim.Native.Nat.{ℕ, ◌+◌, ◌<◌}
use native.Mathlib.Numerals.{add-one}
use lib.ListN.{length, drop, get_or}
use lib.Seq.{drop-cons}
use Rattle.instruction_set.specs.declared.Register.{Register}
use Rattle.text_pieces.specs.Ascii.{ascii}
use Rattle.text_state.specs.Lines.{line_of, lines_after}

pub next_line : (regs : List ℕ) (rs : List Register) (k : ℕ) (d : Register) → k < length rs
    → lines_after regs (drop k rs) ≡ ascii "\n" ++ (line_of regs (get_or rs k d) ++ lines_after regs (drop (k + 1) rs))
unfolding lines_after
next_line regs rs k d h = rw (add-one, drop-cons rs k d)
