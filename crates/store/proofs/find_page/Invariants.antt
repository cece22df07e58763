-- `find_page` gives `found_in`: while the loop runs, no slot before i holds the page, in the whole directory; the laws of `take` say that
-- the first of the slots in use is then the first of all, if it is among them.
use Prim.Native.Nat.{◌-◌, ◌≤◌}
use Rattle.store.specs.Store.{seek}
use Rattle.store.proofs.find_page.Given as goal

abbrev pub invariant-loop-i : goal.invariant-loop-i
invariant-loop-i l = (l.i ≤ l.end) × (l.i ≤ seek l.dir l.page)

abbrev pub decreases-loop-i : goal.decreases-loop-i
decreases-loop-i l = l.end - l.i
