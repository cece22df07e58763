-- `mem_write_phys` owes `Stored`: nothing of what is no store, copied at once into the slot of its page (Stores.stored_here), or by
-- `write_counted`.
use mathlib.Core.Path.{sym, ◌∙◌}
use native.Mathlib.Omega.{arith}
use Rattle.byte_runs.proofs.Puts.{put_copied}
use Rattle.store.proofs.Read.{sound_facts, slot_held}
use Rattle.store.proofs.Absent.{slot_at}
use Rattle.writes.proofs.Stores.{stored_none, stored_here}
use Rattle.writes.proofs.mem_write_phys.Goals as goal

-- no store
pub returns-then-not-is_store : goal.returns-then-not-is_store
returns-then-not-is_store c = stored_none _ _ _ (sym c.is_store.ensures ∙ c.if-not-is_store.true)

-- a slot that is found lies within the bytes
pub overflow_mul-slot : goal.overflow_mul-slot
overflow_mul-slot c =
    let h = sound_facts _ (sym c.is_store.ensures ∙ c.if-not-is_store.false) in
    let w = slot_held _ h _ _ (slot_at _ _ _ _ (sym c.in-Some.ensures)).1 in omega arith

pub overflow_add-slot : goal.overflow_add-slot
overflow_add-slot c =
    let h = sound_facts _ (sym c.is_store.ensures ∙ c.if-not-is_store.false) in
    let w = slot_held _ h _ _ (slot_at _ _ _ _ (sym c.in-Some.ensures)).1 in omega arith

pub write_counted-requires : goal.write_counted-requires
write_counted-requires c = sound_facts _ (sym c.is_store.ensures ∙ c.if-not-is_store.false)

-- into the slot of the one page
pub returns-in-Some : goal.returns-in-Some
returns-in-Some c =
    let h = sound_facts _ (sym c.is_store.ensures ∙ c.if-not-is_store.false) in
    let q = sym c.in-Some.ensures in
    let w = slot_at _ _ _ _ q in
    stored_here _ h _ _ c.args.«data».now _ q
    (put_copied c.args.«data».now _ c.copy.ensures (omega arith) (omega (arith, slot_held _ h _ _ w.1, w.0)))
