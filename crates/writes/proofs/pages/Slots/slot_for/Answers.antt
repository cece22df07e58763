-- `slot_for` gives the slot of the page in the store that `with_page` makes: found as it is, or taken.
use mathlib.Core.Path.{sym, ap, ◌∙◌}
use native.Mathlib.Omega.{arith}
use native.Mathlib.Numerals.{add-one}
use Rattle.byte_runs.proofs.Puts.{put_was, room_yes}
use Rattle.store.specs.Store.{pages_in_use, found_in}
use Rattle.store.proofs.Slot.{with_here, with_missing, found_taken, room_missing, seek_missing}
use Rattle.writes.specs.Slots.{store_in}
use Rattle.writes.proofs.pages.Slots.slot_for.Goals as goal

-- found
pub returns-in-Some-clause-kept : goal.returns-in-Some-clause-kept
returns-in-Some-clause-kept c = sym (with_here (store_in c.args.self.now) _ _ (sym c.in-Some.ensures))

-- taken
pub returns-clause-kept : goal.returns-clause-kept
returns-clause-kept c =
    let s = store_in c.args.self.now in
    let h = c.args.self.now.sound in
    let r = room_missing s h c.args.page c.requires (sym c.in_default.ensures) in
    rw (add-one s.used, put_was c.fill.ensures (room_yes _ _ _ (omega (arith, h.sized, r))))
    (sym (with_missing s c.args.page (sym c.in_default.ensures)))

pub returns-clause-found : goal.returns-clause-found
returns-clause-found c =
    let s = store_in c.args.self.now in
    let h = c.args.self.now.sound in
    let r = room_missing s h c.args.page c.requires (sym c.in_default.ensures) in
    ap (λ x. found_in (pages_in_use x) c.args.page) (returns-clause-kept c)
    ∙ found_taken s h c.args.page r (sym c.in_default.ensures) (seek_missing s h c.args.page (sym c.in_default.ensures))
