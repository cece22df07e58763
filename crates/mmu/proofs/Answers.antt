-- The answers: that an outcome tells its answer, which outcome each case has, when a write is accepted, and what is shown.
-- Each law is a reading of a definition by its tests.
use Rattle.std.specs.Prelude.{Option, Some, None, Result, Ok, Err, is_ok, slice_get}
use mathlib.Core.Path.{◌≡◌, refl, sym, ap, ◌∙◌}
use mathlib.Core.Bool.{Bool, true, false, cond}
use mathlib.Core.List.{List, [], ◌∷◌}
use Prim.Native.Nat.{ℕ, ◌%◌, ◌<◌, ◌≤◌}
use native.Mathlib.Omega.{arith}
use lib.Dec.{leb}
use lib.ListN.{length, get_or}
use borrow.Author.Tests.{leb-true, le-leb, lt-leb, eq-eqb, ne_eqb}
use Rattle.byte_runs.specs.Runs.{tabulate}
use Rattle.utils.specs.Outcome.{Outcome, gives, refuses, refuses_with}
use Rattle.store.specs.Store.{Store, store_of, is_store, pages_in_use, unused, read_at, written, touched, absent_of, slots_lacking}
use Rattle.store.specs.Facts.{IsStore}
use Rattle.walk.specs.Walk.{physical, translated, read_into}
use Rattle.writes.specs.Writes.{byte_of, lacking_of, Stored}
use Rattle.writes.specs.declared.NotWritten.{NotWritten}
use Rattle.writes.specs.Private.{Fits}
use Rattle.mmu.specs.Calls.{memory_number, said_by_memory, memory_outcome, read_outcome, read_out, write_outcome, write_store, cell}
use Rattle.mmu.specs.Calls.{shown_at, shown_of}
use Rattle.mmu.specs.Calls.{Wrote}
use Rattle.mmu.specs.Private.{RefusedFor}
use Rattle.mmu.specs.declared.Refusal.{Refusal}
use Rattle.mmu.specs.declared.Refusal.TheVariants.{BadStore, TooLong, NoRoom}
use Rattle.mmu.specs.declared.Written.{Written}
use Rattle.store.proofs.Read.{sound_facts, sound_true}
use Rattle.store.proofs.Absent.{absent_at_most}
use Rattle.walk.proofs.Walked.{translated_of, read_of}
use Rattle.writes.proofs.Stores.{done_room, done_written, lacks_room, lacks_so_many, lacks_same}

-- ---- an outcome tells its answer
refusal_one : (a b : Refusal) → memory_number a ≡ memory_number b → said_by_memory a ≡ said_by_memory b → a ≡ b
refusal_one BadStore BadStore e f = refl
refusal_one BadStore TooLong e f = absurd (omega arith)
refusal_one BadStore (NoRoom k) e f = absurd (omega arith)
refusal_one TooLong BadStore e f = absurd (omega arith)
refusal_one TooLong TooLong e f = refl
refusal_one TooLong (NoRoom k) e f = absurd (omega arith)
refusal_one (NoRoom j) BadStore e f = absurd (omega arith)
refusal_one (NoRoom j) TooLong e f = absurd (omega arith)
refusal_one (NoRoom j) (NoRoom k) e f = ap (λ (l : List ℕ). NoRoom (get_or l 0 0)) f

pub number_some : (a : Refusal) → 1 ≤ memory_number a
number_some BadStore = omega arith
number_some TooLong = omega arith
number_some (NoRoom k) = omega arith

pub outcome_one : (a b : Result (Unit {0}) Refusal) → memory_outcome a ≡ memory_outcome b → a ≡ b
outcome_one (Ok x) (Ok y) e = refl
outcome_one (Ok x) (Err b) e = absurd (omega (arith, number_some b, ap (λ (o : Outcome ℕ). o.number) e))
outcome_one (Err a) (Ok y) e = absurd (omega (arith, number_some a, ap (λ (o : Outcome ℕ). o.number) e))
outcome_one (Err a) (Err b) e =
    ap Err (refusal_one a b (ap (λ (o : Outcome ℕ). o.number) e) (ap (λ (o : Outcome ℕ). o.values) e))

-- ---- a read
pub read_bad : (s : Store) (n : ℕ) → is_store s ≡ false → read_outcome s n ≡ refuses 4
unfolding read_outcome
read_bad s n e = rw e

pub read_long : (s : Store) (n : ℕ) → is_store s ≡ true → 4096 < n → read_outcome s n ≡ refuses 5
unfolding read_outcome
read_long s n e h = rw (e, lt-leb n 4096 h)

pub read_done : (s : Store) (n : ℕ) → is_store s ≡ true → n ≤ 4096 → read_outcome s n ≡ gives []
unfolding read_outcome
read_done s n e h = rw (e, le-leb n 4096 h)

-- a refused read leaves the buffer, an accepted one fills it
pub out_refused : (s : Store) (cr3 a n : ℕ) (out : List ℕ) → 1 ≤ n → read_outcome s (length out) ≡ refuses n → read_out s cr3 a out ≡ out
unfolding read_out
out_refused s cr3 a n out h e = rw e (rw (ne_eqb n 0 (λ q. omega arith)))

pub out_done : (s : Store) (cr3 a : ℕ) (out : List ℕ) → read_outcome s (length out) ≡ gives []
    → read_out s cr3 a out ≡ read_at s (physical s cr3 a) (length out)
unfolding read_out
out_done s cr3 a out e = rw e

pub out_left : (s : Store) (cr3 a : ℕ) (out : List ℕ) (r : Refusal) → memory_outcome (Err r) ≡ read_outcome s (length out)
    → read_out s cr3 a out ≡ out
unfolding read_out
out_left s cr3 a out r e = let n = number_some r in rw (← e) (rw (ne_eqb (memory_number r) 0 (λ q. omega arith)))

-- what is read at the address to which the walk leads
pub read_there : (s : Store) (cr3 a q : ℕ) (out o : List ℕ) → is_store s ≡ true → q ≡ translated s cr3 a → o ≡ read_into s q out
    → o ≡ read_at s (physical s cr3 a) (length out)
read_there s cr3 a q out o h eq e = e ∙ read_of s q out h ∙ rw (eq ∙ translated_of s cr3 a h)

pub read_empty : (s : Store) (p : ℕ) (out : List ℕ) → length out ≡ 0 → out ≡ read_at s p (length out)
unfolding read_at tabulate
read_empty s p [] e = refl
read_empty s p (b ∷ out) e = absurd (omega arith)

-- ---- a write: the outcome of each case
pub write_bad : (s : Store) (p n : ℕ) → is_store s ≡ false → write_outcome s p n ≡ refuses 4
unfolding write_outcome
write_bad s p n e = rw e

pub write_long : (s : Store) (p n : ℕ) → is_store s ≡ true → 4096 < n → write_outcome s p n ≡ refuses 5
unfolding write_outcome
write_long s p n e h = rw (e, lt-leb n 4096 h)

pub write_full : (s : Store) (p n : ℕ) → is_store s ≡ true → n ≤ 4096 → unused s < absent_of (pages_in_use s) (touched p n)
    → write_outcome s p n ≡ refuses_with 6 (slots_lacking s p n ∷ [])
unfolding write_outcome
write_full s p n e b r = rw (e, le-leb n 4096 b, lt-leb _ _ r)

pub write_done : (s : Store) (p n : ℕ) → is_store s ≡ true → n ≤ 4096 → absent_of (pages_in_use s) (touched p n) ≤ unused s
    → write_outcome s p n ≡ gives []
unfolding write_outcome
write_done s p n e b r = rw (e, le-leb n 4096 b, le-leb _ _ r)

pub write_empty : (s : Store) (p n : ℕ) → is_store s ≡ true → n ≡ 0 → write_outcome s p n ≡ gives []
write_empty s p n e z =
    write_done s p n e (omega arith)
    (rw z (let q : absent_of (pages_in_use s) (touched p 0) ≡ 0 = unfold touched absent_of in refl in omega arith))

-- accepted exactly when: a sound store, at most 4,096 bytes, and no more absent pages than unused slots
pub record Accepted (s : Store) (p n : ℕ) : Type 0 where
  pub sound : is_store s ≡ true
  pub short : n ≤ 4096
  pub room : absent_of (pages_in_use s) (touched p n) ≤ unused s

pub accepts_only : (s : Store) (p n : ℕ) → write_outcome s p n ≡ gives [] → Accepted s p n
unfolding write_outcome
accepts_only s p n e =
    go (is_store s) refl (leb n 4096) refl (leb (absent_of (pages_in_use s) (touched p n)) (unused s)) refl
    (ap (λ (o : Outcome ℕ). o.number) e)
  where
    go : (a : Bool) → is_store s ≡ a → (b : Bool) → leb n 4096 ≡ b → (c : Bool)
        → leb (absent_of (pages_in_use s) (touched p n)) (unused s) ≡ c
        → (cond a (cond b (cond c (gives []) (refuses_with 6 (slots_lacking s p n ∷ []))) (refuses 5)) (refuses 4)).number ≡ 0
        → Accepted s p n
    go true x true y true z w = record { sound = x; short = leb-true _ _ y; room = leb-true _ _ z }
    go true x true y false z w = absurd (omega arith)
    go true x false y c z w = absurd (omega arith)
    go false x b y c z w = absurd (omega arith)

-- an outcome whose number is 0 is that of a write that is done
pub write_accepted : (s : Store) (p n : ℕ) → (write_outcome s p n).number ≡ 0 → write_outcome s p n ≡ gives []
unfolding write_outcome
write_accepted s p n e = go (is_store s) (leb n 4096) (leb (absent_of (pages_in_use s) (touched p n)) (unused s)) e
  where
    tested : Bool → Bool → Bool → Outcome ℕ
    tested a b c = cond a (cond b (cond c (gives []) (refuses_with 6 (slots_lacking s p n ∷ []))) (refuses 5)) (refuses 4)

    go : (a b c : Bool) → (tested a b c).number ≡ 0 → tested a b c ≡ gives []
    go true true true e = refl
    go true true false e = absurd (omega arith)
    go true false c e = absurd (omega arith)
    go false b c e = absurd (omega arith)

pub accepted_fits : (s : Store) (p n : ℕ) → Accepted s p n → Fits s p n
accepted_fits s p n a = let h = sound_facts s a.sound in record { sound = h; room = omega (arith, h.fits, a.room) }

-- ---- a write: the store afterwards
pub store_done : (s : Store) (p : ℕ) (d : List ℕ) → write_outcome s p (length d) ≡ gives []
    → write_store s p d ≡ written s p (byte_of d) (length d)
unfolding write_store
store_done s p d e = rw e

-- a refused write changes nothing, and shows nothing
pub store_refused : (s : Store) (p n : ℕ) (d vs : List ℕ) → 1 ≤ n → write_outcome s p (length d) ≡ refuses_with n vs → write_store s p d ≡ s
unfolding write_store
store_refused s p n d vs h e = rw e (rw (ne_eqb n 0 (λ q. omega arith)))

pub dark_refused : (s : Store) (p n : ℕ) (d vs : List ℕ) → 1 ≤ n → write_outcome s p (length d) ≡ refuses_with n vs → shown_of s p d ≡ None
unfolding shown_of
dark_refused s p n d vs h e = rw e (rw (ne_eqb n 0 (λ q. omega arith)))

shown_done : (s : Store) (p : ℕ) (d : List ℕ) → write_outcome s p (length d) ≡ gives [] → shown_of s p d ≡ shown_at p d
unfolding shown_of
shown_done s p d e = rw e

-- ---- what the screen shows
pub cell_low : (p : ℕ) → p < 0xB8000 → cell p ≡ false
unfolding cell
cell_low p h = rw (lt-leb 0xB8000 p h)

pub cell_high : (p : ℕ) → 0xB8000 ≤ p → 0xB8FA0 < p → cell p ≡ false
unfolding cell
cell_high p g h = rw (le-leb 0xB8000 p g, lt-leb p 0xB8FA0 h)

pub cell_odd : (p : ℕ) → 0xB8000 ≤ p → p ≤ 0xB8FA0 → (p % 2 ≡ 0 → ⊥) → cell p ≡ false
unfolding cell
cell_odd p g h o = rw (le-leb 0xB8000 p g, le-leb p 0xB8FA0 h, ne_eqb (p % 2) 0 o)

pub cell_on : (p : ℕ) → 0xB8000 ≤ p → p ≤ 0xB8FA0 → p % 2 ≡ 0 → cell p ≡ true
unfolding cell
cell_on p g h o = rw (le-leb 0xB8000 p g, le-leb p 0xB8FA0 h, eq-eqb (p % 2) 0 o)

pub shown_off : (p : ℕ) (d : List ℕ) → cell p ≡ false → None ≡ shown_at p d
unfolding shown_at
shown_off p [] e = refl
shown_off p (b ∷ d) e = rw e

pub shown_on : (p : ℕ) (d : List ℕ) → 1 ≤ length d → cell p ≡ true → Some (get_or d 0 0) ≡ shown_at p d
unfolding shown_at
shown_on p [] h e = absurd (omega arith)
shown_on p (b ∷ d) h e = rw e

pub shown_first : (p : ℕ) (d : List ℕ) → cell p ≡ true → slice_get d 0 ≡ shown_at p d
unfolding shown_at
shown_first p [] e = refl
shown_first p (b ∷ d) e = rw e

shown_empty : (p : ℕ) (d : List ℕ) → length d ≡ 0 → None ≡ shown_at p d
unfolding shown_at
shown_empty p [] h = refl
shown_empty p (b ∷ d) h = absurd (omega arith)

-- ---- all that a write owes, from what the code's steps give
pub wrote_refused : (s : Store) (p : ℕ) (d : List ℕ) (r : Refusal) → write_outcome s p (length d) ≡ memory_outcome (Err r)
    → Wrote s s p d (Err r) None
wrote_refused s p d r e =
    let n = number_some r in
    record {
      answer = sym e;
      shown = sym (dark_refused s p (memory_number r) d (said_by_memory r) n e);
      store = sym (store_refused s p (memory_number r) d (said_by_memory r) n e);
    }

pub wrote_done : (s t : Store) (p : ℕ) (d : List ℕ) (e : Option ℕ) → write_outcome s p (length d) ≡ gives []
    → t ≡ written s p (byte_of d) (length d) → e ≡ shown_at p d
    → Wrote s t p d (Ok tt) e
wrote_done s t p d e o et ee = record { answer = sym o; shown = ee ∙ sym (shown_done s p d o); store = et ∙ sym (store_done s p d o) }

-- length 0: accepted with no walk, and nothing changes
pub wrote_empty : (s : Store) (p : ℕ) (d : List ℕ) → is_store s ≡ true → length d ≡ 0 → Wrote s s p d (Ok tt) None
wrote_empty s p d e z = wrote_done s s p d None (write_empty s p (length d) e z) (rw z (unfold written in refl)) (shown_empty p d z)

-- where the walk leads
pub wrote_there : (c a : ℕ) {s t : Store} {q : ℕ} {d : List ℕ} {r : Result (Unit {0}) Refusal} {e : Option ℕ}
    → is_store s ≡ true → q ≡ translated s c a
    → Wrote s t q d r e → Wrote s t (physical s c a) d r e
wrote_there c a h eq w = rw (sym (eq ∙ translated_of _ c a h)) w

-- ---- a write's contract leaves no choice
pub wrote_one : (s t t' : Store) (p : ℕ) (d : List ℕ) (r r' : Result (Unit {0}) Refusal)
    (e e' : Option ℕ) → Wrote s t p d r e → Wrote s t' p d r' e'
    → (r ≡ r') × (e ≡ e') × (t ≡ t')
wrote_one s t t' p d r r' e e' w w' =
    (outcome_one r r' (w.answer ∙ sym w'.answer), w.shown ∙ sym w'.shown, w.store ∙ sym w'.store)

-- the answer of a refused write, as the code hands it back
pub wrote_refused_for : (s : Store) (p : ℕ) (d : List ℕ) (r : Refusal) (w : Written) → RefusedFor w r s.used
    → write_outcome s p (length d) ≡ memory_outcome (Err r) → Wrote s (store_of s.dir s.bytes w.used) p d w.answer w.shown
wrote_refused_for s p d r w h e = rw (h.answer, h.count, h.dark) (wrote_refused s p d r e)

-- what `mem_write_phys` did, as the answer of a write: done, or no room
pub wrote_placed : (s t : Store) (p : ℕ) (d : List ℕ) (r : Result ℕ NotWritten) (e : Option ℕ) → IsStore s → length d ≤ 4096
    → Stored s t p d r → is_ok r ≡ true → e ≡ shown_at p d → Wrote s t p d (Ok tt) e
wrote_placed s t p d r e h short w q ee =
    let x = sound_true s h in
    wrote_done s t p d e (write_done s p (length d) x short (done_room s t p d r w x q)) (done_written s t p d r w q) ee

-- no more slots lack than bytes are written
pub lacking_small : (s t : Store) (p : ℕ) (d : List ℕ) (r : Result ℕ NotWritten) → IsStore s → length d ≤ 4096 → Stored s t p d r
    → lacking_of r ≤ 4096
lacking_small s t p d r h short w =
    omega (arith, lacks_so_many s t p d r w (sound_true s h), absent_at_most (pages_in_use s) p (length d))

-- with as many slots lacking as it says
pub wrote_lacking : (s t : Store) (p : ℕ) (d : List ℕ) (r : Result ℕ NotWritten) (k : ℕ) (o : Written) → IsStore s → length d ≤ 4096
    → Stored s t p d r → is_ok r ≡ false → k ≡ lacking_of r → RefusedFor o (NoRoom k) t.used
    → Wrote s (store_of t.dir t.bytes o.used) p d o.answer o.shown
wrote_lacking s t p d r k o h short w q z f =
    let x = sound_true s h in
    let full = write_full s p (length d) x short (lacks_room s t p d r w x q) in
    let n : refuses_with 6 (slots_lacking s p (length d) ∷ []) ≡ memory_outcome (Err (NoRoom k)) = rw (z, lacks_so_many s t p d r w x) in
    rw (f.answer, f.count, f.dark) (rw (lacks_same s t p d r w q) (wrote_refused s p d (NoRoom k) (full ∙ n)))

-- a read and a write of as many bytes are refused alike with 4 and 5
pub refused_alike : (s : Store) (p m n : ℕ) (r : Refusal) → m ≡ n → memory_outcome (Err r) ≡ read_outcome s m
    → write_outcome s p n ≡ memory_outcome (Err r)
unfolding read_outcome write_outcome
refused_alike s p m n r k e = go (is_store s) (leb n 4096) (rw k at e)
  where
    last : Outcome ℕ
    last = cond (leb (absent_of (pages_in_use s) (touched p n)) (unused s)) (gives []) (refuses_with 6 (slots_lacking s p n ∷ []))

    go : (a b : Bool) → memory_outcome (Err r) ≡ cond a (cond b (gives []) (refuses 5)) (refuses 4)
        → cond a (cond b last (refuses 5)) (refuses 4) ≡ memory_outcome (Err r)
    go true true q = absurd (omega (arith, number_some r, ap (λ (o : Outcome ℕ). o.number) q))
    go true false q = sym q
    go false b q = sym q
