-- `put_bytes` meets its contract: one byte more is written, and at the end none is left. Assumes nothing.
use mathlib.Core.List.{[], ◌∷◌, ◌++◌}
use mathlib.Core.Path.{◌≡◌}
use Prim.Native.Nat.{◌+◌}
use native.Mathlib.Numerals.{add-one}
use native.Mathlib.Omega.{arith}
use lib.ListN.{length, drop, get_or}
use lib.Seq.{drop-cons, drop-length}
use Rattle.text_pieces.proofs.Writing.{onward, finish}
use Rattle.text_pieces.proofs.put_bytes.Goals as goal

pub loop-b-preserved : goal.loop-b-preserved
loop-b-preserved c =
    let k = c.loop-b.b-index in
    let s = c.args.s.now in
    let e : drop k s ≡ (get_or s k 0 ∷ []) ++ drop (k + 1) s = rw add-one (drop-cons s k 0 (omega arith)) in
    onward (rw e at c.loop-b.invariant) c.put_byte-o.ensures

pub returns : goal.returns
returns c =
    let s = c.args.s.now in
    let z : c.loop-b.b-index ≡ length s = omega arith in
    finish (rw (z, drop-length s) at c.loop-b.invariant) (omega arith)
