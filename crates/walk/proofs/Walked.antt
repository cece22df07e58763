-- The walk: its steps as the code takes them, and that it depends on nothing but the bytes of the three entries it reads.
use Rattle.std.proofs.Common.{◌≡◌, ℕ, zero, suc, ◌+◌, ◌-◌, ◌%◌, ◌^◌, ◌<◌, Bool, true, false, cond, eqb, List, length, refl, ap, ◌∙◌, arith}
use Rattle.std.proofs.Common.{eq-eqb, ne_eqb}
use Rattle.utils.specs.Bytes.{from_bytes}
use Rattle.store.specs.Store.{Store, is_store, byte_at, read_at}
use Rattle.walk.specs.Walk.{entry_address, word_at, next_table, walked, physical, translated, read_into, entries_read, SameEntries}
use Rattle.byte_runs.proofs.Filled.{tab_ext}

pub walked_end : (s : Store) (l t a : ℕ) → l ≡ 0 → (t + a % 2 ^ 21) % 2 ^ 64 ≡ walked s l t a
walked_end s l t a z = rw z (unfold walked in refl)

pub walked_step : (s : Store) (l t a : ℕ) → (l ≡ 0 → ⊥) → walked s (l - 1) (next_table s l t a) a ≡ walked s l t a
unfolding walked
walked_step s zero t a ne = absurd (ne refl)
walked_step s (suc l) t a ne = let e : suc l - 1 ≡ l = omega arith in rw e

pub physical_off : (s : Store) (c a : ℕ) → c ≡ 0 → physical s c a ≡ a
unfolding physical
physical_off s c a e = rw (eq-eqb c 0 e)

pub physical_on : (s : Store) (c a : ℕ) → (c ≡ 0 → ⊥) → physical s c a ≡ walked s 3 c a
unfolding physical
physical_on s c a e = rw (ne_eqb c 0 e)

-- ---- what is given of a store, and of what is none
pub translated_of : (s : Store) (c a : ℕ) → is_store s ≡ true → translated s c a ≡ physical s c a
unfolding translated
translated_of s c a e = rw e

pub translated_none : (s : Store) (c a : ℕ) → is_store s ≡ false → translated s c a ≡ 0
unfolding translated
translated_none s c a e = rw e

pub read_of : (s : Store) (p : ℕ) (out : List ℕ) → is_store s ≡ true → read_into s p out ≡ read_at s p (length out)
unfolding read_into
read_of s p out e = rw e

pub read_none : (s : Store) (p : ℕ) (out : List ℕ) → is_store s ≡ false → read_into s p out ≡ out
unfolding read_into
read_none s p out e = rw e

-- ---- what a walk depends on
word_same : (s t : Store) (q : ℕ) → ((k : ℕ) → k < 8 → byte_at s (q + k) ≡ byte_at t (q + k)) → word_at s q ≡ word_at t q
unfolding word_at read_at
word_same s t q h = ap from_bytes (tab_ext (λ (k : ℕ). byte_at s (q + k)) (λ (k : ℕ). byte_at t (q + k)) 8 h)

next_same : (s t : Store) (l b a : ℕ) → ((k : ℕ) → k < 8 → byte_at s (entry_address l b a + k) ≡ byte_at t (entry_address l b a + k))
    → next_table s l b a ≡ next_table t l b a
unfolding next_table
next_same s t l b a h = rw (word_same s t (entry_address l b a) h)

pub walked_same : (s t : Store) (l b a : ℕ) → SameEntries s t (entries_read s l b a) → walked s l b a ≡ walked t l b a
unfolding walked entries_read
walked_same s t zero b a h = refl
walked_same s t (suc l) b a h =
    let e = next_same s t (suc l) b a (h 0 (omega arith)) in
    walked_same s t l (next_table s (suc l) b a) a (λ j lt. h (suc j) (omega arith)) ∙ ap (λ (x : ℕ). walked t l x a) e

-- a store that agrees on the bytes of the three entries gives the same physical address
pub walk_same : (s t : Store) (cr3 a : ℕ) → SameEntries s t (entries_read s 3 cr3 a) → physical s cr3 a ≡ physical t cr3 a
unfolding physical
walk_same s t cr3 a h = go (eqb cr3 0)
  where
    go : (b : Bool) → cond b a (walked s 3 cr3 a) ≡ cond b a (walked t 3 cr3 a)
    go true = refl
    go false = walked_same s t 3 cr3 a h

pub entries_three : (s : Store) (cr3 a : ℕ) → length (entries_read s 3 cr3 a) ≡ 3
unfolding entries_read
entries_three s cr3 a = refl
