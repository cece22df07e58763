-- The test of the code is the invariant.
use Rattle.std.proofs.Common.{sym, ◌∙◌}
use Rattle.store.proofs.Read.{sound_facts}
use Rattle.walk.proofs.read.Pages.new.Goals as goal

pub invariant_of-result : goal.invariant_of-result
invariant_of-result c = record { sound = sound_facts _ (sym c.is_store.ensures ∙ c.if-not-is_store.false) }
