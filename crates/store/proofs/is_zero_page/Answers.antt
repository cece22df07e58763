-- `is_zero_page` gives `zero_page`: the length is tested, and then all bytes in one fold (Zeros, `zero_fold`).
use Rattle.std.proofs.Common.{◌&&◌, true, eqb, ◌∙◌, rules, tests}
use Rattle.std.proofs.lemmas.Iterator.{YieldsList-from_slice}
use Rattle.std.proofs.lemmas.Iterator.Consumers.{fold_from_yields_List}
use Rattle.store.specs.View.{zero_page}
use Rattle.store.proofs.Zeros.{zero_fold}
use borrow.Author.Tests.{eq-eqb}
use Rattle.store.proofs.is_zero_page.Goals as goal

pub returns-then-z-eq-PAGE_SIZE : goal.returns-then-z-eq-PAGE_SIZE
unfolding zero_page
returns-then-z-eq-PAGE_SIZE c =
    rw (eq-eqb _ _ c.if-z-eq-PAGE_SIZE.true)
    (fold_from_yields_List _ (λ a x. a && eqb x 0) _ _ c.fold.ensures.ran (YieldsList-from_slice c.args.z.now cc)
    (λ a x b q k. search (rules, tests)) ∙ zero_fold c.args.z.now true)
