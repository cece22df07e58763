-- `write_at` owes `Wrote`: done, or refused with 6, as `mem_write_phys` says (Answers.wrote_placed, wrote_lacking).
use Rattle.std.proofs.Common.{◌≡◌, refl, ◌∙◌, true, false}
use native.Mathlib.Omega.{arith}
use Rattle.store.specs.Store.{store_of}
use Rattle.store.proofs.Read.{sound_true}
use Rattle.mmu.proofs.Answers.{wrote_placed, wrote_lacking, lacking_small}
use Rattle.mmu.proofs.write_at.Goals as goal

pub overflow_cast-lacking : goal.overflow_cast-lacking
overflow_cast-lacking c =
    let w = rw c.in-Err-Lacking.field-0-is at c.in-Err-Lacking.ensures in
    let h = lacking_small _ (store_of _ _ _) _ c.args.«data».now _ c.requires.0 c.requires.2 w in omega arith

-- written
pub returns-in-Ok : goal.returns-in-Ok
returns-in-Ok c = wrote_placed _ _ _ c.args.«data».now _ _ c.requires.0 c.requires.2 c.in-Ok.ensures refl c.shown_at.ensures

-- that it is no store is not said of a store
pub returns-in-Err-NoStore : goal.returns-in-Err-NoStore
returns-in-Err-NoStore c =
    let w = rw c.in-Err-NoStore.field-0-is at c.in-Err-NoStore.ensures in
    let e : false ≡ true = w.sound ∙ sound_true _ c.requires.0 in absurd cc

-- no room
pub returns-in-Err-Lacking : goal.returns-in-Err-Lacking
returns-in-Err-Lacking c =
    let w = rw c.in-Err-Lacking.field-0-is at c.in-Err-Lacking.ensures in
    wrote_lacking _ (store_of _ _ _) _ c.args.«data».now _ _ _ c.requires.0 c.requires.2 w refl refl c.refused-in-Err-Lacking.ensures
