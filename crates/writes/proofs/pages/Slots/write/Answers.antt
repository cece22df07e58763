-- `write` gives `written`: after each turn the store is that of the first `done` bytes (Turns.write_more), and there is room for the next
-- part (Turns.ready_part).
use Rattle.store.proofs.Parts.{part_of, reached_first, reached_next}
use Rattle.writes.specs.Writes.{byte_of}
use Rattle.writes.specs.Slots.{store_in}
use Rattle.writes.proofs.Turns.{ready_part, write_more}
use Rattle.store.specs.Store.{Store, written}
use Rattle.store.specs.Facts.{Room}
use Rattle.std.proofs.lemmas.List.{length-take, length-drop}
use lib.ListN.{length}
use native.Mathlib.Omega.{arith}
use mathlib.Core.Path.{◌≡◌, refl, sym, ap, subst, ◌∙◌}
use Prim.Native.Nat.{ℕ}
use Rattle.writes.proofs.pages.Slots.write.Goals as goal

pub loop-done-init : goal.loop-done-init
unfolding written
loop-done-init c = record { at = reached_first _ _; same = record { dir = refl; bytes = refl }; bytes = refl }

pub overflow_add-done : goal.overflow_add-done
overflow_add-done c =
    let part = part_of _ _ _ c.part_length-n.ensures c.loop-done.invariant.at.inside (omega arith) in omega (arith, part.within)

pub slice_bounds-write_part-end : goal.slice_bounds-write_part-end
slice_bounds-write_part-end c =
    let part = part_of _ _ _ c.part_length-n.ensures c.loop-done.invariant.at.inside (omega arith) in omega (arith, part.within)

-- there is room for the part
pub write_part-requires-clause-room : goal.write_part-requires-clause-room
write_part-requires-clause-room c =
    let part = part_of _ _ _ c.part_length-n.ensures c.loop-done.invariant.at.inside (omega arith) in
    subst (λ (x : Store). Room x c.loop-done.page) (sym c.loop-done.invariant.bytes)
    (ready_part _ _ _ _ _ _ _ _ c.requires c.loop-done.invariant.at c.loop-done-test.true part).room

pub write_part-requires-clause-some : goal.write_part-requires-clause-some
write_part-requires-clause-some c =
    let part = part_of _ _ _ c.part_length-n.ensures c.loop-done.invariant.at.inside (omega arith) in
    omega (arith, part.some, part.within, length-take {A = ℕ}, length-drop {A = ℕ})

pub write_part-requires-clause-inside : goal.write_part-requires-clause-inside
write_part-requires-clause-inside c =
    let part = part_of _ _ _ c.part_length-n.ensures c.loop-done.invariant.at.inside (omega arith) in
    omega (arith, part.inside, part.within, length-take {A = ℕ}, length-drop {A = ℕ})

pub loop-done-smaller : goal.loop-done-smaller
loop-done-smaller c =
    let part = part_of _ _ _ c.part_length-n.ensures c.loop-done.invariant.at.inside (omega arith) in omega (arith, part.within, part.some)

-- one part more
pub loop-done-preserved : goal.loop-done-preserved
loop-done-preserved c =
    let m = c.loop-done.invariant in
    let lt = c.loop-done-test.true in
    let part = part_of _ _ _ c.part_length-n.ensures m.at.inside (omega arith) in
    record {
      at = reached_next _ _ _ _ _ _ m.at lt part;
      same = record { dir = c.write_part.ensures.same.dir ∙ m.same.dir; bytes = c.write_part.ensures.same.bytes ∙ m.same.bytes };
      bytes = write_more _ _ _ _ c.args.«data».now _ _ _ c.part_length-n.result _
          (omega arith) (omega (arith, part.within)) (m.at.address lt)
          m.bytes c.write_part.ensures.bytes;
    }

pub returns-clause-bytes : goal.returns-clause-bytes
returns-clause-bytes c =
    let e : c.loop-done.done ≡ length c.args.«data».now = omega (arith, c.loop-done.invariant.at.within) in
    c.loop-done.invariant.bytes
    ∙ ap (λ (k : ℕ). written (store_in c.args.self.now) c.args.p (byte_of c.args.«data».now) k) e
