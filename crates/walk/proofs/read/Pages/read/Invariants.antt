-- `read` gives `read_at`: after each turn the first `done` bytes of out are those from p on (Turns.read_more).
use Rattle.byte_runs.specs.Runs.{filled}
use Rattle.store.specs.Store.{bytes_from}
use Rattle.store.specs.Facts.{Reached}
use Rattle.walk.specs.Private.{store_in}
use Rattle.std.proofs.Common.{◌≡◌, ◌-◌, length}
use Rattle.walk.proofs.read.Pages.read.Given as goal

abbrev pub invariant-loop-done : goal.invariant-loop-done
invariant-loop-done l =
    Reached l.p (length l.initial.out) l.page l.off l.done × (length l.out ≡ length l.initial.out)
    × (l.out ≡ filled l.initial.out 0 (bytes_from (store_in l.self) l.p) l.done)

abbrev pub decreases-loop-done : goal.decreases-loop-done
decreases-loop-done l = length l.initial.out - l.done
