-- The slot of a run of bytes, and the count of absent pages that it touches: one turn of the loop is one clause of the definition.
use Rattle.std.specs.Prelude.{Option, Some, None}
use mathlib.Core.Path.{◌≡◌, refl, sym, ap, ◌∙◌}
use Rattle.std.proofs.lemmas.List.Sums.{sum_by-cons}
use mathlib.Core.Bool.{Bool, true, false, cond}
use mathlib.Core.List.{List}
use Rattle.std.specs.Prelude.{count_by, is_none}
use Rattle.std.specs.List.{range_with_len}
use Prim.Native.Nat.{ℕ, zero, suc, ◌+◌, ◌-◌, ◌/◌, ◌%◌, ◌<◌, ◌≤◌}
use native.Mathlib.Omega.{arith}
use lib.Dec.{leb}
use borrow.Author.Tests.{leb-true, le-leb, lt-leb}
use Rattle.store.specs.Store.{found_in, slot_of, slots_needed, pages_from, touched, absent_of}

-- ---- bytes that lie in one page that has a slot
pub slot_at : (l : List ℕ) (p n i : ℕ) → slot_of l p n ≡ Some i → (p % 4096 + n ≤ 4096) × (found_in l (p / 4096) ≡ Some i)
unfolding slot_of
slot_at l p n i e = go (leb (p % 4096 + n) 4096) refl e
  where
    go : (b : Bool) → leb (p % 4096 + n) 4096 ≡ b → cond b (found_in l (p / 4096)) None ≡ Some i
        → (p % 4096 + n ≤ 4096) × (found_in l (p / 4096) ≡ Some i)
    go true t q = (leb-true _ _ t, q)
    go false t q = let z : ◌≡◌ {A = ℕ} 0 1 = cc in (omega arith, absurd (omega arith))

pub slot_in : (l : List ℕ) (p n : ℕ) → p % 4096 + n ≤ 4096 → slot_of l p n ≡ found_in l (p / 4096)
unfolding slot_of
slot_in l p n h = rw (le-leb (p % 4096 + n) 4096 h)

pub slot_none : (l : List ℕ) (p n : ℕ) → 4096 < p % 4096 + n → slot_of l p n ≡ None
unfolding slot_of
slot_none l p n h = rw (lt-leb (p % 4096 + n) 4096 h)

-- they want no slot
pub present_none : (l : List ℕ) (p n i : ℕ) → found_in l (p / 4096) ≡ Some i → p % 4096 + n ≤ 4096 → absent_of l (touched p n) ≡ 0
unfolding touched pages_from absent_of
present_none l p zero i e h = refl
present_none l p (suc m) i e h = let q : (p + m) / 4096 - p / 4096 ≡ 0 = omega arith in rw (q, e)

-- ---- no more pages are absent than bytes are touched
absent_within : (l : List ℕ) (g k : ℕ) → absent_of l (pages_from g k) ≤ k
unfolding pages_from absent_of
absent_within l g zero = omega arith
absent_within l g (suc k) = go (found_in l g) (absent_within l (g + 1) k)
  where
    go : (f : Option ℕ) → absent_of l (pages_from (g + 1) k) ≤ k → slots_needed f + absent_of l (pages_from (g + 1) k) ≤ suc k
    go (Some i) h = omega arith
    go None h = omega arith

pub absent_at_most : (l : List ℕ) (p n : ℕ) → absent_of l (touched p n) ≤ n
unfolding touched
absent_at_most l p zero = unfold absent_of in omega arith
absent_at_most l p (suc m) = omega (arith, absent_within l (p / 4096) (suc ((p + m) / 4096 - p / 4096)))

-- ---- the count of absent pages
pub touched_pages : (p n : ℕ) → (n ≡ 0 → ⊥) → touched p n ≡ pages_from (p / 4096) ((n - 1) / 4096 + ((n - 1) % 4096 + p % 4096) / 4096 + 1)
unfolding touched
touched_pages p zero h = absurd (h refl)
touched_pages p (suc m) h = let e : suc m - 1 ≡ m = omega arith in ap (pages_from (p / 4096)) (rw e (omega arith))

pub touched_none : (l : List ℕ) (p n : ℕ) → n ≡ 0 → 0 ≡ absent_of l (touched p n)
touched_none l p n e = rw e (unfold touched absent_of in refl)

pub pages_turn : (l : List ℕ) (g left : ℕ) → 0 < left
    → absent_of l (pages_from g left) ≡ slots_needed (found_in l g) + absent_of l (pages_from (g + 1) (left - 1))
unfolding pages_from absent_of
pages_turn l g zero h = absurd (omega arith)
pages_turn l g (suc k) h = let e : suc k - 1 ≡ k = omega arith in rw e

-- they are what a count over the run of page numbers gives
pub absent_run : (l : List ℕ) (p n : ℕ) → (n ≡ 0 → ⊥)
    → absent_of l (touched p n)
    ≡ count_by (λ g. is_none (found_in l g)) (range_with_len (p / 4096) ((n - 1) / 4096 + ((n - 1) % 4096 + p % 4096) / 4096 + 1))
unfolding pages_from absent_of
absent_run l p n h = ap (absent_of l) (touched_pages p n h) ∙ go (p / 4096) ((n - 1) / 4096 + ((n - 1) % 4096 + p % 4096) / 4096 + 1)
  where
    go : (g k : ℕ) → absent_of l (pages_from g k) ≡ count_by (λ x. is_none (found_in l x)) (range_with_len g k)
    go g zero = refl
    go g (suc k) =
        one (found_in l g) ∙ ap (λ m. cond (is_none (found_in l g)) 1 0 + m) (go (g + 1) k)
        ∙ sym (sum_by-cons (λ x. cond (is_none (found_in l x)) 1 0) g (range_with_len (g + 1) k))
      where
        one : (f : Option ℕ) → slots_needed f + absent_of l (pages_from (g + 1) k)
            ≡ cond (is_none f) 1 0 + absent_of l (pages_from (g + 1) k)
        one (Some i) = refl
        one None = refl

pub pages_none : (l : List ℕ) (g left : ℕ) → left ≡ 0 → absent_of l (pages_from g left) ≡ 0
pages_none l g left e = rw e (unfold pages_from absent_of in refl)
