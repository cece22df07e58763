-- `write` gives `written`: after each turn the store is that of the first `done` bytes (Turns.write_more), and there is room for the next
-- part (Turns.ready_part).
use lib.ListN.{length}
use mathlib.Core.Path.{◌≡◌}
use Prim.Native.Nat.{◌-◌}
use Rattle.store.specs.Facts.{Reached}
use Rattle.store.specs.Store.{written}
use Rattle.writes.specs.Writes.{byte_of}
use Rattle.writes.specs.Slots.{store_in, SameSlices}
use Rattle.writes.proofs.pages.Slots.write.Given as goal

abbrev pub invariant-loop-done : goal.invariant-loop-done
invariant-loop-done l =
    record {
      at : Reached l.p (length l.data) l.page l.off l.done;
      same : SameSlices l.initial.self l.self;
      bytes : store_in l.self ≡ written (store_in l.initial.self) l.p (byte_of l.data) l.done;
    }

abbrev pub decreases-loop-done : goal.decreases-loop-done
decreases-loop-done l = length l.data - l.done
