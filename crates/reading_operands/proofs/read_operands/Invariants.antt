-- The invariant: what is left of the text, read from the state at this offset, gives what the whole text gives. Assumes nothing.
use mathlib.Core.Path.{◌≡◌}
use lib.ListN.{drop}
use Rattle.reading_operands.specs.Reader.{read_from, reader_answer}
use Rattle.reading_operands.proofs.read_operands.Given as goal

abbrev pub invariant-loop-offset : goal.invariant-loop-offset
invariant-loop-offset l = read_from (drop l.offset l.text) l.offset l.state ≡ reader_answer l.text
