-- `put_bytes` meets its contract. The loop's invariant: what is left to write is the text from the loop's byte on. Assumes nothing.
use lib.ListN.{drop}
use Rattle.text_pieces.proofs.Writing.{Rest}
use Rattle.text_pieces.proofs.put_bytes.Given as goal

abbrev pub invariant-loop-b : goal.invariant-loop-b
invariant-loop-b l = Rest l.initial.out l.at l.s l.out l.o (drop l.b-index l.s)
