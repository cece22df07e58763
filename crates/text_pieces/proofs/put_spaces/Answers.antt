-- `put_spaces` meets its contract: one space more is written, and at the end none is left. Assumes nothing.
use mathlib.Core.Path.{◌≡◌}
use Prim.Native.Nat.{◌+◌, ◌-◌}
use native.Mathlib.Omega.{arith}
use lib.ListN.{length-replicate}
use Rattle.text_pieces.proofs.Writing.{spaces_pos, onward, finish}
use Rattle.text_pieces.proofs.put_spaces.Goals as goal

pub loop-preserved : goal.loop-preserved
loop-preserved c =
    let n = c.args.n in
    let k = c.loop.counter in
    let e : n - k - 1 ≡ n - (k + 1) = omega arith in
    rw e at (onward (rw (spaces_pos (n - k) (omega arith)) at c.loop.invariant) c.put_byte-o.ensures)

pub returns : goal.returns
returns c =
    let z : c.args.n - c.loop.counter ≡ 0 = omega arith in
    finish (rw z at c.loop.invariant) (rw length-replicate (omega arith))
