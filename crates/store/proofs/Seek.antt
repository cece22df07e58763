-- The search of the directory: what `seek` and `found_in` give. Each law goes by induction along the list, one slot at a time.
use Rattle.std.specs.Prelude.{Option, Some, None, MatchOption}
use mathlib.Core.Path.{◌≡◌, refl, sym, ap, ◌∙◌}
use mathlib.Core.Logic.{⊎_elim}
use mathlib.Core.Bool.{Bool, true, false, cond}
use mathlib.Core.List.{List, [], ◌∷◌, ◌++◌}
use Prim.Native.Nat.{ℕ, zero, suc, ◌+◌, ◌<◌, ◌≤◌, zero-le}
use native.Mathlib.Nat.{eq-or-lt_of_le, zero-add}
use native.Mathlib.Omega.{arith}
use lib.Dec.{ltb, eqb}
use lib.ListN.{length, get_or, take, drop, length-drop}
use Rattle.std.proofs.lemmas.List.{length-take}
use lib.Seq.{get_or-take, get_or-drop, length-take-le}
use Rattle.std.specs.List.{AllWithin, HoldsAt}
use borrow.Author.Tests.{eqb-true, eq-eqb, ne_eqb, lt-ltb, le-ltb, ltb-true}
use Rattle.store.specs.Store.{seek, found_in, pick_found}

-- the position is within the list, or is its length
pub seek_len : (l : List ℕ) (p : ℕ) → seek l p ≤ length l
unfolding seek
seek_len [] p = zero-le
seek_len (x ∷ xs) p =
    elim (eqb x p) as (λ b. cond b 0 (suc (seek xs p)) ≤ suc (length xs)) [ true ↦ zero-le | false ↦ omega (arith, seek_len xs p) ]

-- what stands there
pub seek_at : (l : List ℕ) (p : ℕ) → seek l p < length l → get_or l (seek l p) 0 ≡ p
unfolding seek
seek_at [] p h = omega arith
seek_at (x ∷ xs) p h = go (λ k. seek_at xs p k) (eqb x p) refl h
  where
    go : (seek xs p < length xs → get_or xs (seek xs p) 0 ≡ p) → (b : Bool) → eqb x p ≡ b → cond b 0 (suc (seek xs p)) < suc (length xs)
        → get_or (x ∷ xs) (cond b 0 (suc (seek xs p))) 0 ≡ p
    go ih true e k = eqb-true x p e
    go ih false e k = ih (omega arith)

-- and nothing before it
pub seek_le : (l : List ℕ) (p i : ℕ) → i < length l → get_or l i 0 ≡ p → seek l p ≤ i
unfolding seek
seek_le [] p i h e = omega arith
seek_le (x ∷ xs) p zero h e = rw (eq-eqb x p e) zero-le
seek_le (x ∷ xs) p (suc i) h e =
    elim (eqb x p) as (λ b. cond b 0 (suc (seek xs p)) ≤ suc i) [ true ↦ zero-le | false ↦ omega (arith, seek_le xs p i (omega arith) e) ]

-- one step of the search
pub seek_more : (l : List ℕ) (p i : ℕ) → i ≤ seek l p → i < length l → (get_or l i 0 ≡ p → ⊥) → i + 1 ≤ seek l p
seek_more l p i h k other = ⊎_elim (λ e. absurd (other (rw (← e) at (seek_at l p (omega arith))))) (λ lt. omega arith) (eq-or-lt_of_le h)

-- k steps of it, and the first of four
pub seek_run : (l : List ℕ) (p i k : ℕ) → i ≤ seek l p → i + k ≤ length l → ((j : ℕ) → j < k → get_or l (i + j) 0 ≡ p → ⊥)
    → i + k ≤ seek l p
seek_run l p i zero h r other = omega arith
seek_run l p i (suc k) h r other =
    let before = seek_run l p i k h (omega arith) (λ j lt. other j (omega arith)) in
    omega (arith, seek_more l p (i + k) before (omega arith) (other k (omega arith)))

-- r is the position of the first p in l, if one stands there
abbrev pub IsFirst : ℕ → List ℕ → Option ℕ → Type 0
IsFirst p l r =
    MatchOption r (AllWithin (λ x. x ≡ p → ⊥) l 0 (length l))
    (λ k. (k < length l) × HoldsAt (λ x. x ≡ p) l k × AllWithin (λ x. x ≡ p → ⊥) l 0 k)

pub seek_four : (l : List ℕ) (p i m : ℕ) (r : Option ℕ) → m ≡ 4 → i ≤ seek l p → i + 4 ≤ length l
    → IsFirst p (take m (drop i l)) r
    → MatchOption r (i + 4 ≤ seek l p) (λ k. (k < 4) × (i + k ≡ seek l p))
seek_four l p i m r e h n w = go r (rw e at w)
  where
    size : length (take 4 (drop i l)) ≡ 4
    size = length-take-le 4 (drop i l) (omega (arith, length-drop i l))

    at : (j : ℕ) → j < 4 → get_or (take 4 (drop i l)) j 0 ≡ get_or l (i + j) 0
    at j lt = get_or-take 4 (drop i l) j 0 lt ∙ get_or-drop i l j 0

    go : (r : Option ℕ) → IsFirst p (take 4 (drop i l)) r → MatchOption r (i + 4 ≤ seek l p) (λ k. (k < 4) × (i + k ≡ seek l p))
    go None w = seek_run l p i 4 h n (λ j lt q. w j 0 (omega arith) (omega (arith, size)) (at j lt ∙ q))
    go (Some k) w =
        let lt : k < 4 = omega (arith, size, w.0) in
        let most = seek_run l p i k h (omega arith) (λ j b q. w.2 j 0 (omega arith) b (at j (omega arith) ∙ q)) in
        let least = seek_le l p (i + k) (omega arith) (sym (at k lt) ∙ w.1 0) in
        (lt, omega arith)

pub found_at : (l : List ℕ) (p i : ℕ) → seek l p ≡ i → i < length l → found_in l p ≡ Some i
unfolding found_in
found_at l p i e h = rw (e, lt-ltb i (length l))

pub found_none : (l : List ℕ) (p : ℕ) → length l ≤ seek l p → found_in l p ≡ None
unfolding found_in
found_none l p h = rw (le-ltb (seek l p) (length l))

-- the search of the first n slots, by that of the whole list
pub seek_taken : (n : ℕ) (l : List ℕ) (p i : ℕ) → i ≤ seek l p → i ≤ n → i ≤ length l → i ≤ seek (take n l) p
unfolding seek
seek_taken zero l p i h k m = omega arith
seek_taken (suc n) [] p i h k m = omega arith
seek_taken (suc n) (x ∷ l) p zero h k m = zero-le
seek_taken (suc n) (x ∷ l) p (suc i) h k m = go (λ q. seek_taken n l p i q (omega arith) (omega arith)) (eqb x p) h
  where
    go : (i ≤ seek l p → i ≤ seek (take n l) p) → (b : Bool) → suc i ≤ cond b 0 (suc (seek l p))
        → suc i ≤ cond b 0 (suc (seek (take n l) p))
    go ih true q = omega arith
    go ih false q = omega (arith, ih (omega arith))

pub found_taken : (n : ℕ) (l : List ℕ) (p i : ℕ) → i ≡ seek l p → i < length (take n l) → found_in (take n l) p ≡ Some i
found_taken n l p i e h =
    let short = length-take n l in
    let there : get_or l i 0 ≡ p = rw e (seek_at l p (omega arith)) in
    let least : seek (take n l) p ≤ i = seek_le (take n l) p i h (get_or-take n l i 0 (omega arith) ∙ there) in
    let most : i ≤ seek (take n l) p = seek_taken n l p i (omega arith) (omega arith) (omega arith) in
    found_at (take n l) p i (omega arith) h

pub none_taken : (n : ℕ) (l : List ℕ) (p : ℕ) → length (take n l) ≤ seek l p → found_in (take n l) p ≡ None
none_taken n l p h =
    let short = length-take n l in
    found_none (take n l) p (seek_taken n l p (length (take n l)) h (omega arith) (omega arith))

-- a slot found is the position sought
pub found_seek : (l : List ℕ) (g i : ℕ) → found_in l g ≡ Some i → (seek l g ≡ i) × (i < length l)
unfolding found_in
found_seek l g i e = go (ltb (seek l g) (length l)) refl e
  where
    go : (b : Bool) → ltb (seek l g) (length l) ≡ b → pick_found b (seek l g) ≡ Some i → (seek l g ≡ i) × (i < length l)
    go true t q =
        let w : seek l g ≡ i = cc in
        (w, omega (arith, ltb-true (seek l g) (length l) t))
    go false t q = let z : ◌≡◌ {A = ℕ} 0 1 = cc in (omega arith, omega arith)

-- a number sought in two lists end to end
pub seek_in : (l m : List ℕ) (p : ℕ) → seek l p < length l → seek (l ++ m) p ≡ seek l p
unfolding seek
seek_in [] m p h = omega arith
seek_in (x ∷ l) m p h = go (λ k. seek_in l m p k) (eqb x p) h
  where
    go : (seek l p < length l → seek (l ++ m) p ≡ seek l p) → (b : Bool) → cond b 0 (suc (seek l p)) < suc (length l)
        → cond b 0 (suc (seek (l ++ m) p)) ≡ cond b 0 (suc (seek l p))
    go ih true k = refl
    go ih false k = ap suc (ih (omega arith))

pub seek_past : (l m : List ℕ) (p : ℕ) → length l ≤ seek l p → seek (l ++ m) p ≡ length l + seek m p
unfolding seek
seek_past [] m p h = sym (zero-add (seek m p))
seek_past (x ∷ l) m p h = go (λ k. seek_past l m p k) (eqb x p) h
  where
    go : (length l ≤ seek l p → seek (l ++ m) p ≡ length l + seek m p) → (b : Bool) → suc (length l) ≤ cond b 0 (suc (seek l p))
        → cond b 0 (suc (seek (l ++ m) p)) ≡ suc (length l) + seek m p
    go ih true k = omega arith
    go ih false k = omega (arith, ih (omega arith))

pub seek_one : (x p : ℕ) → x ≡ p → seek (x ∷ []) p ≡ 0
unfolding seek
seek_one x p e = rw (eq-eqb x p e)

pub seek_other : (x p : ℕ) → (x ≡ p → ⊥) → seek (x ∷ []) p ≡ 1
unfolding seek
seek_other x p e = rw (ne_eqb x p e)
