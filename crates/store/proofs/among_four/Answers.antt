-- `among_four` gives the first of the four slots that holds the page (Seek.seek_four).
use Rattle.std.proofs.Common.{◌≡◌, ◌+◌, ◌-◌, take, drop, arith, rules, tests}
use Rattle.std.proofs.lemmas.Iterator.{IsFirst-from_position, YieldsList-from_slice}
use Rattle.store.proofs.Seek.{seek_four}
use Rattle.store.proofs.among_four.Goals as goal

pub returns : goal.returns
returns c =
    let a = c.args in
    seek_four a.dir.now a.page a.i (a.i + 4 - a.i) c.position.result (omega arith) c.requires.1 c.requires.0
    (IsFirst-from_position _ _ c.position.result (λ x. x ≡ a.page) (λ x. x ≡ a.page → ⊥) c.position.ensures.ran
    (YieldsList-from_slice (take (a.i + 4 - a.i) (drop a.i a.dir.now)) cc) (λ x q k. search (rules, tests))
    (λ x q k. search (rules, tests)))
