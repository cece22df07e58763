-- The laws of an accepted write, for the crates above, which never open `written`: its bytes read as given, every other byte as before,
-- what the count is, and which slots it leaves alone. None of them asks that a number stands once in the directory. They read Growth's
-- laws through `write_store`.
use mathlib.Core.Path.{◌≡◌, refl, sym, ap, ◌∙◌}
use mathlib.Core.Logic.{◌⊎◌, inl, inr, ⊎_elim}
use mathlib.Core.Bool.{Bool, true, false, cond, ◌&&◌}
use mathlib.Core.List.{List, []}
use Prim.Native.Nat.{ℕ, ◌+◌, ◌-◌, ◌*◌, ◌/◌, ◌<◌, ◌≤◌}
use native.Mathlib.Omega.{arith}
use lib.Dec.{ltb, leb}
use lib.ListN.{length, get_or}
use borrow.Author.Tests.{leb-true, leb-false, ltb-true, ltb-false}
use Rattle.utils.specs.Outcome.{gives}
use Rattle.store.specs.Store.{Store, is_store, pages_in_use, byte_at, read_at, written, touched, absent_of}
use Rattle.walk.specs.Walk.{physical, entries_read, SameEntries}
use Rattle.writes.specs.Writes.{byte_of}
use Rattle.writes.specs.Private.{Fits}
use Rattle.mmu.specs.Calls.{write_outcome, write_store}
use Rattle.byte_runs.proofs.Filled.{tab_ext, tab_get_d}
use Rattle.store.proofs.Read.{sound_true}
use Rattle.store.proofs.Growth.{Still, still, written_in, written_out, written_count, written_number, written_keeps}
use Rattle.mmu.proofs.Answers.{accepts_only, accepted_fits, store_done}
use Rattle.walk.proofs.Walked.{walk_same, entries_three}

module _ (s : Store) (p : ℕ) (d : List ℕ) (e : write_outcome s p (length d) ≡ gives []) where
  fits : Fits s p (length d)
  fits = accepted_fits s p (length d) (accepts_only s p (length d) e)

  counted : (written s p (byte_of d) (length d)).used ≡ s.used + absent_of (pages_in_use s) (touched p (length d))
  counted = written_count s fits.sound p (byte_of d) (length d) fits.room

  within : (written s p (byte_of d) (length d)).used ≤ length s.dir
  within = omega (arith, counted, fits.room)

  kept : Still s fits.sound p (byte_of d) (length d)
  kept = still s fits.sound p (byte_of d) (length d) within

  -- a byte inside the run reads as written
  pub law_in : (k : ℕ) → k < length d → byte_at (write_store s p d) (p + k) ≡ get_or d k 0
  law_in k lt = rw (store_done s p d e) (written_in s fits.sound p (byte_of d) (length d) k within lt)

  -- any other byte of memory reads as before
  pub law_out : (q : ℕ) → (q < p) ⊎ (p + length d ≤ q) → byte_at (write_store s p d) q ≡ byte_at s q
  law_out q w = rw (store_done s p d e) (written_out s fits.sound p (byte_of d) (length d) q within w)

  -- the two in one, by the tests whether the byte is one of the run's
  pub law_byte : (q : ℕ) → byte_at (write_store s p d) q ≡ cond (leb p q && ltb q (p + length d)) (get_or d (q - p) 0) (byte_at s q)
  law_byte q = go (leb p q) refl (ltb q (p + length d)) refl
    where
      go : (a : Bool) → leb p q ≡ a → (b : Bool) → ltb q (p + length d) ≡ b
          → byte_at (write_store s p d) q ≡ cond (a && b) (get_or d (q - p) 0) (byte_at s q)
      go true x true y =
          let l = leb-true p q x in
          let r = ltb-true q (p + length d) y in
          let k : p + (q - p) ≡ q = omega arith in
          ap (byte_at (write_store s p d)) (sym k) ∙ law_in (q - p) (omega arith)
      go true x false y = law_out q (inr (ltb-false q (p + length d) y))
      go false x b y = law_out q (inl (leb-false p q x))

  -- the store stays sound, with as many slots
  pub law_sound : is_store (write_store s p d) ≡ true
  law_sound = rw (store_done s p d e) (sound_true (written s p (byte_of d) (length d)) kept.sound)

  pub law_slots : length (write_store s p d).dir ≡ length s.dir
  law_slots = rw (store_done s p d e) kept.slots

  pub law_bytes : length (write_store s p d).bytes ≡ length s.bytes
  law_bytes = rw (store_done s p d e) (omega (arith, kept.sound.sized, kept.slots, fits.sound.sized))

  -- the count grows by the absent pages touched (RULES 3.9)
  pub law_count : (write_store s p d).used ≡ s.used + absent_of (pages_in_use s) (touched p (length d))
  law_count = rw (store_done s p d e) counted

  -- a slot in use keeps its number, and its bytes too if no byte of the write is in its page
  pub law_number : (i : ℕ) → i < s.used → get_or (write_store s p d).dir i 0 ≡ get_or s.dir i 0
  law_number i lt = rw (store_done s p d e) (written_number s fits.sound p (byte_of d) (length d) i lt)

  pub law_slot : (i o : ℕ) → i < s.used → o < 4096 → ((k : ℕ) → k < length d → (p + k) / 4096 ≡ get_or s.dir i 0 → ⊥)
      → get_or (write_store s p d).bytes (4096 * i + o) 0 ≡ get_or s.bytes (4096 * i + o) 0
  law_slot i o lt lo ne =
      rw (store_done s p d e)
      (written_keeps s fits.sound p (byte_of d) (length d) i o within lt lo ne)

  -- a read of the same bytes gives what was written
  pub law_read : read_at (write_store s p d) p (length d) ≡ d
  unfolding read_at
  law_read = tab_ext (λ (k : ℕ). byte_at (write_store s p d) (p + k)) (λ (k : ℕ). get_or d k 0) (length d) law_in ∙ sym (tab_get_d d)

  -- a write that goes over none of the three entries of a walk leaves the walk as it was
  pub law_walk : (cr3 a : ℕ)
      → ((j : ℕ) → j < 3 → (get_or (entries_read s 3 cr3 a) j 0 + 8 ≤ p) ⊎ (p + length d ≤ get_or (entries_read s 3 cr3 a) j 0))
      → physical (write_store s p d) cr3 a ≡ physical s cr3 a
  law_walk cr3 a apart = sym (walk_same s (write_store s p d) cr3 a same)
    where
      same : SameEntries s (write_store s p d) (entries_read s 3 cr3 a)
      same j lt k lk =
          sym (law_out (get_or (entries_read s 3 cr3 a) j 0 + k)
          (⊎_elim
          (λ (l : get_or (entries_read s 3 cr3 a) j 0 + 8 ≤ p). inl (omega arith))
          (λ (r : p + length d ≤ get_or (entries_read s 3 cr3 a) j 0). inr (omega arith))
          (apart j (omega (arith, entries_three s cr3 a)))))
