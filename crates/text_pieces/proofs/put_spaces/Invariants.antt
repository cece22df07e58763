-- `put_spaces` meets its contract. The loop's invariant: as many spaces are left to write as rounds. Assumes nothing.
use Prim.Native.Nat.{◌-◌}
use Rattle.text_pieces.proofs.Writing.{Rest}
use lib.ListN.{replicate}
use Rattle.text_pieces.proofs.put_spaces.Given as goal

abbrev pub invariant-loop : goal.invariant-loop
invariant-loop l = Rest l.initial.out l.at (replicate l.n 32) l.out l.o (replicate (l.n - l.counter) 32)
