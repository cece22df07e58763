-- `copy` gives `FilledIf`: one byte more with each turn. Assumes nothing.
use mathlib.Core.Path.{sym, ◌∙◌}
use Prim.Native.Nat.{ℕ}
use native.Mathlib.Omega.{arith}
use lib.ListN.{length-take, length-drop}
use Rattle.byte_runs.proofs.Puts.{room_le, put_done, put_copy}
use Rattle.std.proofs.lemmas.Bool.{and_from}
use Rattle.byte_runs.proofs.copy.Goals as goal

pub returns : goal.returns
returns c =
    let a = c.args in
    let s = sym c.has_room.ensures ∙ c.if-not-has_room.false in
    let d = sym c.has_room-else-not-has_room.ensures ∙ c.if-not-has_room-2.false in
    put_done (and_from _ _ s d)
    (put_copy a.dst.now a.src.now c.loop-k.byte-items a.at a.from a.n _ (omega arith) (room_le _ _ _ d)
    (omega (arith, length-take {A = ℕ}, length-drop {A = ℕ}))
    (λ k lt. c.loop-k.invariant k (omega (arith, length-take {A = ℕ}, length-drop {A = ℕ}))))
