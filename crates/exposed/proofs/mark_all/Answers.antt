-- `exposed::mark_all` meets its contract: four spans, marked one after the other. Assumes nothing.
use Rattle.exposed.proofs.Marking.{mark_four}
use Rattle.exposed.proofs.mark_all.Goals as goal

pub returns : goal.returns
returns c =
    mark_four c.args.spans _ _ _ _ _ c.args.value c.mark.ensures c.mark-2.ensures
    c.mark-3.ensures c.mark-4.ensures
