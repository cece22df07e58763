-- What `mem_write_phys` owes, `Stored`, in each of its cases, and what its callers have of it. Each law is a reading of `has_room` and
-- `slots_short` by their tests.
use Rattle.std.specs.Prelude.{Some, Result, Ok, Err, is_ok}
use mathlib.Core.Path.{◌≡◌, sym, ◌∙◌}
use mathlib.Core.Bool.{true, false}
use mathlib.Core.List.{List}
use Prim.Native.Nat.{ℕ, ◌+◌, ◌*◌, ◌%◌, ◌<◌, ◌≤◌}
use native.Mathlib.Omega.{arith}
use lib.Dec.{leb}
use lib.ListN.{length}
use borrow.Author.Tests.{leb-true, leb-false, le-leb, lt-leb}
use Rattle.byte_runs.specs.Runs.{filled, copied_from}
use Rattle.store.specs.Store.{Store, store_of, is_store, pages_in_use, slot_of, unused, written, touched, absent_of, slots_lacking}
use Rattle.store.specs.Facts.{IsStore}
use Rattle.writes.specs.Writes.{byte_of, has_room, slots_short, lacking_of, Stored}
use Rattle.writes.specs.declared.NotWritten.{NotWritten}
use Rattle.writes.specs.declared.NotWritten.TheVariants.{NoStore, Lacking}
use Rattle.store.proofs.Read.{sound_true}
use Rattle.store.proofs.Absent.{slot_at, present_none}
use Rattle.writes.proofs.Turns.{part_whole}

-- ---- what can be written
room_none : (s : Store) (p n : ℕ) → is_store s ≡ false → has_room s p n ≡ false
unfolding has_room
room_none s p n e = rw e

room_full : (s : Store) (p n : ℕ) → is_store s ≡ true → unused s < absent_of (pages_in_use s) (touched p n) → has_room s p n ≡ false
unfolding has_room
room_full s p n e h = rw (e, lt-leb _ _ h)

room_done : (s : Store) (p n : ℕ) → is_store s ≡ true → absent_of (pages_in_use s) (touched p n) ≤ unused s → has_room s p n ≡ true
unfolding has_room
room_done s p n e h = rw (e, le-leb _ _ h)

-- of a store, it is the test of refusal 6
room_test : (s : Store) (p n : ℕ) → is_store s ≡ true → has_room s p n ≡ leb (absent_of (pages_in_use s) (touched p n)) (unused s)
unfolding has_room
room_test s p n e = rw e

-- ---- how many slots lack
short_none : (s : Store) (p n : ℕ) → is_store s ≡ false → slots_short s p n ≡ 0
unfolding slots_short
short_none s p n e = rw e

short_of : (s : Store) (p n : ℕ) → is_store s ≡ true → slots_short s p n ≡ slots_lacking s p n
unfolding slots_short
short_of s p n e = rw e

-- ---- what is owed, case by case
pub stored_none : (s : Store) (p : ℕ) (d : List ℕ) → is_store s ≡ false → Stored s s p d (Err NoStore)
stored_none s p d e =
    let r = room_none s p (length d) e in
    record { told = sym r; sound = sym e; short = sym (short_none s p (length d) e); store = rw r }

pub stored_full : (s : Store) → IsStore s → (p : ℕ) (d : List ℕ) (k : ℕ) → unused s < absent_of (pages_in_use s) (touched p (length d))
    → k ≡ slots_lacking s p (length d) → Stored s s p d (Err (Lacking k))
stored_full s h p d k lt e =
    let x = sound_true s h in
    let r = room_full s p (length d) x lt in
    record { told = sym r; sound = sym x; short = e ∙ sym (short_of s p (length d) x); store = rw r }

pub stored_done : (s t : Store) → IsStore s → (p : ℕ) (d : List ℕ) (u : ℕ) → absent_of (pages_in_use s) (touched p (length d)) ≤ unused s
    → t ≡ written s p (byte_of d) (length d) → Stored s t p d (Ok u)
stored_done s t h p d u le e =
    let x = sound_true s h in
    let r = room_done s p (length d) x le in
    let z : 0 ≡ slots_lacking s p (length d) = omega arith in
    record { told = sym r; sound = sym x; short = z ∙ sym (short_of s p (length d) x); store = rw r e }

-- copied at once into the slot of its page
pub stored_here : (s : Store) → IsStore s → (p i : ℕ) (d b : List ℕ) → slot_of (pages_in_use s) p (length d) ≡ Some i
    → b ≡ filled s.bytes (4096 * i + p % 4096) (copied_from d 0) (length d)
    → Stored s (store_of s.dir b s.used) p d (Ok s.used)
stored_here s h p i d b q eb =
    let w = slot_at (pages_in_use s) p (length d) i q in
    stored_done s (store_of s.dir b s.used) h p d s.used (omega (arith, present_none (pages_in_use s) p (length d) i w.1 w.0))
    (part_whole s p i (length d) d b w.1 w.0 eb)

-- ---- what a caller has of it, who knows that the lent slices are a store
module _ (s t : Store) (p : ℕ) (d : List ℕ) (r : Result ℕ NotWritten) (w : Stored s t p d r) where
  pub done_room : is_store s ≡ true → is_ok r ≡ true → absent_of (pages_in_use s) (touched p (length d)) ≤ unused s
  done_room e q = leb-true _ _ (sym (room_test s p (length d) e) ∙ sym w.told ∙ q)

  pub done_written : is_ok r ≡ true → t ≡ written s p (byte_of d) (length d)
  done_written q = let e = sym w.told ∙ q in w.store ∙ rw e

  pub lacks_room : is_store s ≡ true → is_ok r ≡ false → unused s < absent_of (pages_in_use s) (touched p (length d))
  lacks_room e q = leb-false _ _ (sym (room_test s p (length d) e) ∙ sym w.told ∙ q)

  pub lacks_so_many : is_store s ≡ true → lacking_of r ≡ slots_lacking s p (length d)
  lacks_so_many e = w.short ∙ short_of s p (length d) e

  pub lacks_same : is_ok r ≡ false → t ≡ s
  lacks_same q = let e = sym w.told ∙ q in w.store ∙ rw e
