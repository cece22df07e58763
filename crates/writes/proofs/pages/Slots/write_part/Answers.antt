-- `write_part` gives `written` for one page's bytes, which go to the slot of the page (Turns.part_put).
use native.Mathlib.Omega.{arith}
use Rattle.byte_runs.proofs.Puts.{put_copied}
use Rattle.store.proofs.Read.{slot_held}
use Rattle.writes.proofs.Turns.{part_put}
use Rattle.writes.specs.Slots.{store_in}
use Rattle.writes.proofs.pages.Slots.write_part.Goals as goal

-- the slot lies within the bytes
pub overflow_mul-slot : goal.overflow_mul-slot
overflow_mul-slot c =
    let t = c.slot_for-slot.new.self in
    let h = slot_held (store_in t) t.sound _ _ c.slot_for-slot.ensures.found in omega (arith, t.sound.sized, t.sound.small)

pub overflow_add-slot : goal.overflow_add-slot
overflow_add-slot c =
    let t = c.slot_for-slot.new.self in
    let h = slot_held (store_in t) t.sound _ _ c.slot_for-slot.ensures.found in omega (arith, t.sound.sized, t.sound.small)

pub returns-clause-bytes : goal.returns-clause-bytes
returns-clause-bytes c =
    let t = c.slot_for-slot.new.self in
    let h = slot_held (store_in t) t.sound _ _ c.slot_for-slot.ensures.found in
    part_put (store_in c.args.self.now) (store_in t) _ _ _ c.args.part.now _ c.args.self.now.sound c.requires.room c.requires.some
    c.requires.inside c.slot_for-slot.ensures.kept c.slot_for-slot.ensures.found
    (put_copied c.args.part.now 0 c.copy.ensures (omega arith) (omega (arith, h, c.requires.inside)))
