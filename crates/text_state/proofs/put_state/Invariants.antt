-- `put_state` meets its contract. The loop's invariant: what is left to write are the lines from the loop's register on, each after a
-- newline. Assumes nothing.
use Rattle.text_pieces.proofs.Writing.{Rest}
use Rattle.text_state.specs.Lines.{lines_after, others}
use lib.ListN.{drop}
use Prim.Native.Nat.{◌+◌, ◌*◌, ◌≤◌}
use Rattle.text_state.proofs.put_state.Given as goal

abbrev pub invariant-loop-register : goal.invariant-loop-register
invariant-loop-register l =
    Rest l.initial.out l.initial.o (lines_after l.regs others) l.out l.o (lines_after l.regs (drop l.register-index others))
    × (l.o ≤ 33 + 34 * l.register-index)
