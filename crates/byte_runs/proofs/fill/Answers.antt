-- `fill` gives `FilledIf`: the part is one byte over and over (`put_fill`). Assumes nothing.
use mathlib.Core.Path.{sym, ◌∙◌}
use Prim.Native.Nat.{ℕ, ◌+◌, ◌≤◌}
use native.Mathlib.Omega.{arith}
use lib.ListN.{length, length-take, length-drop}
use Rattle.byte_runs.proofs.Puts.{room_le, put_done, put_fill}
use Rattle.byte_runs.proofs.fill.Goals as goal

pub returns : goal.returns
returns c =
    let a = c.args in
    let e = sym c.has_room.ensures ∙ c.if-not-has_room.false in
    let h : a.at + a.n ≤ length a.out.now = room_le _ _ _ e in
    put_done e
    (put_fill _ _ _ _ _ _ _ (omega arith) (omega (arith, length-take {A = ℕ}, length-drop {A = ℕ})) h (c.fill.ensures.after (λ y q. q)))
