-- `read_part` gives the bytes of memory: those of the slot found, or zeros.
use Rattle.std.proofs.Common.{sym, ◌∙◌, arith}
use Rattle.store.proofs.Read.{slot_held}
use Rattle.walk.proofs.Turns.{part_here, part_absent}
use Rattle.walk.specs.Private.{store_in}
use Rattle.walk.proofs.read.Pages.read_part.Goals as goal

-- a slot that is found lies within the bytes
pub overflow_mul-from : goal.overflow_mul-from
overflow_mul-from c =
    let h = slot_held (store_in c.args.self.now) c.args.self.now.sound _ _ (sym c.in-Some.ensures) in omega arith

pub overflow_add-from : goal.overflow_add-from
overflow_add-from c =
    let h = slot_held (store_in c.args.self.now) c.args.self.now.sound _ _ (sym c.in-Some.ensures) in omega arith

pub overflow_add-from-in-Some : goal.overflow_add-from-in-Some
overflow_add-from-in-Some c =
    let h = slot_held (store_in c.args.self.now) c.args.self.now.sound _ _ (sym c.in-Some.ensures) in omega arith

pub slice_bounds-copy_from_slice-end : goal.slice_bounds-copy_from_slice-end
slice_bounds-copy_from_slice-end c =
    let h = slot_held (store_in c.args.self.now) c.args.self.now.sound _ _ (sym c.in-Some.ensures) in omega arith

-- the bytes of the slot found
pub returns-in-Some : goal.returns-in-Some
returns-in-Some c = c.copy_from_slice.ensures.after ∙ part_here _ _ _ _ _ _ (omega arith) c.args.self.now.sound c.in-Some.ensures c.requires

-- zeros
pub returns-in-None : goal.returns-in-None
returns-in-None c = c.fill.ensures.after (λ y e. e) ∙ part_absent _ _ _ _ c.in-None.ensures c.requires
