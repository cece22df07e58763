-- `read` gives `read_at`: after each turn the first `done` bytes of out are those from p on (Turns.read_more).
use Rattle.byte_runs.specs.Runs.{filled}
use Rattle.store.proofs.Parts.{part_of, reached_first, reached_next}
use Rattle.walk.proofs.Turns.{read_more, read_end}
use Rattle.std.proofs.Common.{ℕ, ◌≡◌, length, refl, ◌∙◌, arith, length-take, length-drop}
use borrow.Rule.Slice.PartMut.{same_len_mid}
use Rattle.walk.proofs.read.Pages.read.Goals as goal

pub loop-done-init : goal.loop-done-init
unfolding filled
loop-done-init c = (reached_first _ _, refl, refl)

pub overflow_add-done : goal.overflow_add-done
overflow_add-done c =
    let part = part_of _ _ _ c.part_length-n.ensures c.loop-done.invariant.0.inside (omega arith) in omega (arith, part.within)

pub slice_bounds-read_part-end : goal.slice_bounds-read_part-end
slice_bounds-read_part-end c =
    let part = part_of _ _ _ c.part_length-n.ensures c.loop-done.invariant.0.inside (omega arith) in omega (arith, part.within)

pub read_part-requires : goal.read_part-requires
read_part-requires c =
    let part = part_of _ _ _ c.part_length-n.ensures c.loop-done.invariant.0.inside (omega arith) in
    omega (arith, part.inside, part.within, length-take {A = ℕ}, length-drop {A = ℕ})

pub loop-done-smaller : goal.loop-done-smaller
loop-done-smaller c =
    let part = part_of _ _ _ c.part_length-n.ensures c.loop-done.invariant.0.inside (omega arith) in omega (arith, part.within, part.some)

-- one part more
pub loop-done-preserved : goal.loop-done-preserved
loop-done-preserved c =
    let lt = rw c.loop-done.invariant.1 at c.loop-done-test.true in
    let part = part_of _ _ _ (rw c.loop-done.invariant.1 at c.part_length-n.ensures) c.loop-done.invariant.0.inside (omega (arith, lt)) in (
      reached_next _ _ _ _ _ _ c.loop-done.invariant.0 lt part,
      same_len_mid _ _ _ _ c.read_part.auto.part ∙ c.loop-done.invariant.1,
      read_more _ _ _ _ _ _ _ _ _ _ _ (omega arith) (omega (arith, part.within, length-take {A = ℕ}, length-drop {A = ℕ}))
          (omega (arith, part.within, c.loop-done.invariant.1))
          (c.loop-done.invariant.0.address lt) c.loop-done.invariant.2 c.read_part.ensures,
    )

pub returns : goal.returns
returns c =
    let e : c.loop-done.done ≡ length c.args.out.now = omega (arith, c.loop-done.invariant.0.within) in
    read_end _ _ _ _ _ e c.loop-done.invariant.2
