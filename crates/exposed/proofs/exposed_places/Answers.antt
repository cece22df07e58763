-- `exposed::exposed_places` meets its contract: each turn goes through one call more, and in the end through all (`Listing`).
-- Assumes nothing.
use Rattle.std.proofs.Common.{take, ℕ, ◌≡◌, ap, ◌∙◌, rules, arith}
use Rattle.std.proofs.lemmas.List.{take_min}
use Rattle.std.proofs.lemmas.Iterator.Consumers.{YieldsList-end}
use Rattle.std.proofs.lemmas.Iterator.Adapters.{YieldsList-from_rev_slice}
use Rattle.effects.specs.Rows.{Inside}
use Rattle.effects.proofs.Inside.{reads_inside, rewrites_inside}
use Rattle.exposed.proofs.Marking.{listing_none, listing_more, listing_step, listing_all, listing_done, listing_refused}
use Rattle.exposed.proofs.exposed_places.Goals as goal

pub returns-then-count-gt-MOST : goal.returns-then-count-gt-MOST
returns-then-count-gt-MOST c = listing_refused c.args.calls.now c.args.count (omega arith)

pub loop-call-init : goal.loop-call-init
loop-call-init c = listing_none

pub mark_all-requires : goal.mark_all-requires
mark_all-requires c =
    let w : Inside c.rewrites_of-rewrites.result = rw c.rewrites_of-rewrites.ensures (rewrites_inside _) in
    let r : Inside c.reads_of-reads.result = rw c.reads_of-reads.ensures (reads_inside _) in
    search rules

pub mark_all-requires-in-loop-call : goal.mark_all-requires-in-loop-call
mark_all-requires-in-loop-call c = rw c.reads_of-reads.ensures (reads_inside _)

pub loop-call-preserved : goal.loop-call-preserved
loop-call-preserved c =
    listing_step (λ r. r.now) c.loop-call.yielded c.in-Some.call _
    (listing_more c.in-Some.call.now _ c.loop-call.on _ _ _ _ c.reads_of-reads.ensures c.rewrites_of-rewrites.ensures c.mark_all.ensures
    c.mark_all-in-loop-call.ensures c.loop-call.invariant)

pub returns : goal.returns
returns c =
    let listed = c.args.calls.now in
    let short : take c.min.result listed ≡ take c.args.count listed =
    ap (λ (n : ℕ). take n listed) c.min.ensures ∙ take_min c.args.count listed in
    let all = YieldsList-end (YieldsList-from_rev_slice (take c.min.result listed) cc) c.loop-call.yielded _ c.loop-call.yielded_by _ _
    c.in-None.is c.next.ensures.steps in
    listing_done listed c.args.count c.loop-call.on (omega arith)
    (rw short at (listing_all _ (take c.min.result listed) _ all.0 c.loop-call.invariant))
