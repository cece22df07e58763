-- `count_absent` gives `absent_of` of the pages touched: it counts those that the search does not find (`absent_run`).
use Rattle.std.proofs.Common.{sym, ◌∙◌, ℕ, ◌+◌, ◌-◌, ◌/◌, ◌%◌, take, rules, tests}
use Rattle.std.specs.Prelude.{is_none}
use Rattle.std.proofs.lemmas.List.Sums.{length-filter}
use Rattle.std.proofs.lemmas.Iterator.{YieldsList-from_range}
use Rattle.std.proofs.lemmas.Iterator.Consumers.{YieldsList-from_filter, count_from_yields_List}
use native.Mathlib.Omega.{arith}
use Rattle.store.specs.Store.{found_in}
use Rattle.store.proofs.Absent.{absent_run}
use Rattle.store.proofs.count_absent.Goals as goal

pub returns : goal.returns
returns c =
    let a = c.args in
    let absent = λ (g : ℕ). is_none (found_in (take a.used a.dir.now) g) in
    let pages = (a.n - 1) / 4096 + ((a.n - 1) % 4096 + a.p % 4096) / 4096 + 1 in
    count_from_yields_List c.filter.result _ c.count.ensures.ran
    (YieldsList-from_filter _ absent (YieldsList-from_range _ _ pages c.filter.ensures.source (omega arith)) c.filter.ensures.closure
    (λ x b q k. search (rules, tests)))
    ∙ length-filter absent _ ∙ sym (absent_run (take a.used a.dir.now) a.p a.n c.if-n-eq0.false)
