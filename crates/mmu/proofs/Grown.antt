-- A write that lacks slots, and the same write into a store with more of them: the walk leads to the same address, and what lacks is less
-- by as many. The idea: a store that has grown reads as before (store: Grown).
use mathlib.Core.Path.{◌≡◌, refl, sym, ap, ◌∙◌}
use mathlib.Core.Bool.{Bool, true, false, cond}
use mathlib.Core.List.{List, [], ◌∷◌}
use Prim.Native.Nat.{ℕ, ◌+◌, ◌-◌, ◌*◌, ◌<◌, ◌≤◌}
use native.Mathlib.Omega.{arith}
use lib.Dec.{leb}
use lib.ListN.{length, get_or}
use borrow.Author.Tests.{leb-true, leb-false}
use Rattle.utils.specs.Outcome.{gives, refuses, refuses_with}
use Rattle.store.specs.Store.{Store, is_store, pages_in_use, unused, touched, absent_of, slots_lacking, with_slots}
use Rattle.walk.specs.Walk.{physical, entries_read}
use Rattle.mmu.specs.Calls.{write_outcome, write_store}
use Rattle.store.proofs.Read.{sound_facts}
use Rattle.store.proofs.Grown.{grown_sound, grown_byte, grown_unused, grown_absent, grown_lacking}
use Rattle.walk.proofs.Walked.{walk_same}
use Rattle.mmu.proofs.Answers.{write_full, write_done}
use Rattle.mmu.proofs.Laws.{law_count}

-- 6 is given only where: a sound store, at most 4,096 bytes, and more absent pages than unused slots
pub record Lacks (s : Store) (p n : ℕ) : Type 0 where
  pub sound : is_store s ≡ true
  pub short : n ≤ 4096
  pub room : unused s < absent_of (pages_in_use s) (touched p n)

pub lacks_only : (s : Store) (p n : ℕ) → (write_outcome s p n).number ≡ 6 → Lacks s p n
unfolding write_outcome
lacks_only s p n e = go (is_store s) refl (leb n 4096) refl (leb (absent_of (pages_in_use s) (touched p n)) (unused s)) refl e
  where
    go : (a : Bool) → is_store s ≡ a → (b : Bool) → leb n 4096 ≡ b → (c : Bool)
        → leb (absent_of (pages_in_use s) (touched p n)) (unused s) ≡ c
        → (cond a (cond b (cond c (gives []) (refuses_with 6 (slots_lacking s p n ∷ []))) (refuses 5)) (refuses 4)).number ≡ 6
        → Lacks s p n
    go true x true y false z w = record { sound = x; short = leb-true _ _ y; room = leb-false _ _ z }
    go true x true y true z w = absurd (omega arith)
    go true x false y c z w = absurd (omega arith)
    go false x b y c z w = absurd (omega arith)

module _ (s : Store) (p n : ℕ) (h : Lacks s p n) (ds bs : List ℕ) (sized : length bs ≡ 4096 * length ds)
    (small : length s.dir + length ds ≤ 65536) where
  pub grown_walk : (cr3 a : ℕ) → physical (with_slots s ds bs) cr3 a ≡ physical s cr3 a
  grown_walk cr3 a =
      sym (walk_same s (with_slots s ds bs) cr3 a
      (λ j lt k lk. sym (grown_byte s (sound_facts s h.sound) ds bs sized small (get_or (entries_read s 3 cr3 a) j 0 + k))))

  -- with as many slots more as lacked
  pub grown_enough : slots_lacking s p n ≤ length ds → write_outcome (with_slots s ds bs) p n ≡ gives []
  grown_enough le =
      let g = sound_facts s h.sound in
      write_done (with_slots s ds bs) p n (grown_sound s g ds bs sized small) h.short
      (omega (arith, grown_absent s g ds bs sized small (touched p n), grown_unused s g ds bs sized small))

  -- with fewer
  pub grown_short : length ds < slots_lacking s p n
      → write_outcome (with_slots s ds bs) p n ≡ refuses_with 6 ((slots_lacking s p n - length ds) ∷ [])
  grown_short lt =
      let g = sound_facts s h.sound in
      write_full (with_slots s ds bs) p n (grown_sound s g ds bs sized small) h.short
      (omega (arith, grown_absent s g ds bs sized small (touched p n), grown_unused s g ds bs sized small))
      ∙ ap (λ (k : ℕ). refuses_with 6 (k ∷ [])) (grown_lacking s g ds bs sized small p n)

-- with just as many, every slot is in use afterwards
pub grown_full : (s : Store) (p : ℕ) (d : List ℕ) → Lacks s p (length d) → (ds bs : List ℕ) → length bs ≡ 4096 * length ds
    → length s.dir + length ds ≤ 65536 → length ds ≡ slots_lacking s p (length d)
    → (write_store (with_slots s ds bs) p d).used ≡ length s.dir + length ds
grown_full s p d h ds bs sized small e =
    let g = sound_facts s h.sound in
    let o = grown_enough s p (length d) h ds bs sized small (omega arith) in
    omega (
      arith,
      law_count (with_slots s ds bs) p d o,
      grown_absent s g ds bs sized small (touched p (length d)),
      h.room,
      g.fits,
    )
