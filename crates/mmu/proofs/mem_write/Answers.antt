-- `mem_write` owes `Wrote`: one law of Answers for each of its returns.
use Rattle.mmu.proofs.Answers.{refused_alike, wrote_refused_for, wrote_empty, wrote_there}
use Rattle.store.proofs.Read.{sound_facts}
use Rattle.std.proofs.lemmas.Grind.{common_steps}
use native.Mathlib.Omega.{arith}
use borrow.Author.Tests.{eqb-true, eqb-false}
use mathlib.Core.Path.{sym, ◌∙◌}
use Rattle.mmu.proofs.mem_write.Goals as goal

-- refused with 4 or 5
pub returns-in-Err : goal.returns-in-Err
returns-in-Err c = wrote_refused_for _ _ _ _ _ c.refused.ensures (refused_alike _ _ _ _ _ (omega arith) c.in-Err.ensures.told)

-- no bytes
pub returns-then-is_empty : goal.returns-then-is_empty
returns-then-is_empty c =
    let none = eqb-true _ _ (sym c.is_empty.ensures ∙ c.if-is_empty.true) in
    wrote_empty _ _ c.args.«data».now c.in_default.ensures.sound.0 (grind (arith, common_steps))

-- a store, and 1 to 4,096 bytes
pub write_at-requires : goal.write_at-requires
write_at-requires c =
    let some = eqb-false _ _ (sym c.is_empty.ensures ∙ c.if-is_empty.false) in
    let short = c.in_default.ensures.sound.1 in
    (sound_facts _ c.in_default.ensures.sound.0, grind (arith, common_steps), omega arith)

-- the place to which the walk leads
pub returns : goal.returns
returns c = wrote_there _ _ c.in_default.ensures.sound.0 c.translate_virtual_to_physical_address-p.ensures c.write_at.ensures
