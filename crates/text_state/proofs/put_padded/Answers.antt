-- `put_padded` meets its contract: the name's length is the distance of the two offsets. Assumes nothing.
use native.Mathlib.Omega.{arith}
use lib.ListN.{length, length-append, length-replicate}
use Rattle.text_names.specs.Names.{name_of}
use Rattle.text_pieces.proofs.Writing.{◌then◌, tight, place_near, forward, reach}
use mathlib.Core.Path.{◌≡◌}
use Prim.Native.Nat.{◌-◌}
use Rattle.text_state.proofs.put_padded.Goals as goal

pub overflow_sub-o : goal.overflow_sub-o
overflow_sub-o c =
    forward c.put_name-o.ensures

pub overflow_sub-o-2 : goal.overflow_sub-o-2
overflow_sub-o-2 c =
    omega (arith, reach c.put_name-o.ensures)

pub returns : goal.returns
returns c =
    let a = c.args in
    let p = c.put_name-o.ensures in
    let near = place_near a.at (length (name_of a.register)) (omega (arith, p.most)) in
    let e : c.put_name-o.result - a.at ≡ length (name_of a.register) = omega (arith, p.next) in
    tight (p then (rw e at c.put_spaces.ensures))
    (simp (length-append, length-replicate) (omega (arith, p.most)))
