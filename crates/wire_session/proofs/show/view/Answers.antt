-- `view` lends the page of zeros that the header describes, if it is no longer than it may be. Assumes nothing.
use mathlib.Core.Path.{◌≡◌, ◌∙◌}
use Prim.Native.Nat.{ℕ, ◌-◌, ◌%◌, ◌≤◌}
use borrow.Author.Tests.{le-ltb}
use lib.ListN.{length, take, set, replicate, length-replicate}
use Rattle.std.proofs.lemmas.List.{take-replicate}
use Rattle.wire_session.proofs.Showing.{none_set}
use Rattle.wire_session.proofs.show.view.Goals.{in-Some, in_default}
use Rattle.wire_session.proofs.show.view.Goals as goal

pub returns : goal.returns
returns c =
    let z = c.args.header.first.base in
    let v = c.args.header.first.value % 256 in
    let few = c.if-z-gt4097.false in
    let zeros : take z (replicate {A = ℕ} 4097 0) ≡ replicate {A = ℕ} z 0 = take-replicate z 4097 0 few in
    let last : c.match-last_mut.zeros ≡ set (replicate z 0) (z - 1) v =
    elim c.match-last_mut.branch [
      | in-Some w ↦ rw (zeros, length-replicate) at w.zeros-is
      | in_default w ↦
          let none : length (take z (replicate {A = ℕ} 4097 0)) ≤ 0 = w.in_default.ensures.item.3 in
          w.zeros-is ∙ zeros ∙ rw zeros at (none_set (replicate 4097 0) z v (rw (zeros, length-replicate) at none))
    ] in
    rw (le-ltb 4097 z few) (rw (c.page_view-view.ensures, last) at c.shown.ensures)
