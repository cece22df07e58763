-- Lists made by a function: what stands where in `tabulate` and `filled`, and runs of writes end to end. By induction on the count.
use mathlib.Core.Path.{◌≡◌, refl, sym, ◌∙◌}
use mathlib.Core.Logic.{◌⊎◌, inl, inr, ⊎_elim}
use mathlib.Core.List.{List, [], ◌∷◌, ◌++◌}
use Prim.Native.Nat.{ℕ, zero, suc, ◌+◌, ◌-◌, ◌<◌, ◌≤◌}
use native.Mathlib.Nat.{eq-or-lt_of_le, add-zero, zero-add, add-suc, add_assoc}
use native.Mathlib.Numerals.{add-one}
use native.Mathlib.Omega.{arith}
use lib.ListN.{length, get_or, set, take, drop, length-set, length-append, length-drop, get_or-append}
use Rattle.std.proofs.lemmas.List.{length-take-le, get_or-take, get_or-drop, get_or_append_left, get_or-append_right}
use Rattle.std.proofs.lemmas.Bool.{cases_lt}
use borrow.Rule.Slice.PartMut.{put_mid}
use lib.Seq.{get_or-set_same, get_or-set_other, ext_get_or, get_or_at}
use Rattle.byte_runs.specs.Runs.{tabulate, filled}

pub length_tab : (f : ℕ → ℕ) (n : ℕ) → length (tabulate f n) ≡ n
unfolding tabulate
length_tab f zero = refl
length_tab f (suc n) = omega (arith, length-append (tabulate f n) (f n ∷ []), length_tab f n)

pub get_or_tab : (f : ℕ → ℕ) (n k : ℕ) → k < n → get_or (tabulate f n) k 0 ≡ f k
unfolding tabulate
get_or_tab f zero k h = omega arith
get_or_tab f (suc n) k h =
    ⊎_elim
    (λ (e : suc k ≡ suc n). let q : k ≡ n = omega arith in rw q (get_or_at (tabulate f n) (f n) [] 0 n (length_tab f n)))
    (λ (lt : suc k < suc n). let lt' : k < n = omega arith in get_or-append (tabulate f n) (f n ∷ []) 0 k (rw (length_tab f n) lt')
    ∙ get_or_tab f n k lt')
    (eq-or-lt_of_le h)

-- a list that is f at each position is the table of f
pub is_tab : (l : List ℕ) (f : ℕ → ℕ) (n : ℕ) → length l ≡ n → ((k : ℕ) → k < n → get_or l k 0 ≡ f k) → l ≡ tabulate f n
is_tab l f n e h =
    ext_get_or 0 l (tabulate f n) (e ∙ sym (length_tab f n)) (λ k lt. let lt' : k < n = omega arith in h k lt' ∙ sym (get_or_tab f n k lt'))

pub tab_ext : (f g : ℕ → ℕ) (n : ℕ) → ((k : ℕ) → k < n → f k ≡ g k) → tabulate f n ≡ tabulate g n
tab_ext f g n h = is_tab (tabulate f n) g n (length_tab f n) (λ k lt. get_or_tab f n k lt ∙ h k lt)

pub tab_get_d : (l : List ℕ) → l ≡ tabulate (λ (k : ℕ). get_or l k 0) (length l)
tab_get_d l = is_tab l (λ (k : ℕ). get_or l k 0) (length l) refl (λ k lt. refl)

pub length_filled : (l : List ℕ) (at : ℕ) (f : ℕ → ℕ) (n : ℕ) → length (filled l at f n) ≡ length l
unfolding filled
length_filled l at f zero = refl
length_filled l at f (suc n) = length-set (filled l at f n) (at + n) (f n) ∙ length_filled l at f n

-- the spots that were written, and the others
pub get_or_filled : (l : List ℕ) (at : ℕ) (f : ℕ → ℕ) (n k : ℕ) → at + n ≤ length l → k < n → get_or (filled l at f n) (at + k) 0 ≡ f k
unfolding filled
get_or_filled l at f zero k r h = omega arith
get_or_filled l at f (suc n) k r h =
    ⊎_elim
    (λ (e : suc k ≡ suc n). let q : k ≡ n = omega arith in
    rw q (get_or-set_same (filled l at f n) (at + n) (f n) 0 (omega (arith, length_filled l at f n))))
    (λ (lt : suc k < suc n). get_or-set_other (filled l at f n) (at + n) (at + k) (f n) 0 (λ e. omega arith)
    ∙ get_or_filled l at f n k (omega arith) (omega arith))
    (eq-or-lt_of_le h)

pub get_or_filled_other : (l : List ℕ) (at : ℕ) (f : ℕ → ℕ) (n k : ℕ) → (k < at) ⊎ (at + n ≤ k)
    → get_or (filled l at f n) k 0 ≡ get_or l k 0
unfolding filled
get_or_filled_other l at f zero k h = refl
get_or_filled_other l at f (suc n) k h =
    get_or-set_other (filled l at f n) (at + n) k (f n) 0
    (λ e. ⊎_elim (λ (a : k < at). omega arith) (λ (b : at + suc n ≤ k). omega arith) h)
    ∙ get_or_filled_other l at f n k (⊎_elim (λ (a : k < at). inl a) (λ (b : at + suc n ≤ k). inr (omega arith)) h)

-- all of a list was written
pub filled_all : (l : List ℕ) (f : ℕ → ℕ) (n : ℕ) → length l ≡ n → filled l 0 f n ≡ tabulate f n
filled_all l f n e =
    is_tab (filled l 0 f n) f n (length_filled l 0 f n ∙ e) (λ k lt. rw (zero-add k) at (get_or_filled l 0 f n k (omega arith) lt))

-- one more, where the code counts by k + 1
pub filled_more : (l : List ℕ) (at : ℕ) (f : ℕ → ℕ) (n : ℕ) → set (filled l at f n) (at + n) (f n) ≡ filled l at f (n + 1)
filled_more l at f n = rw (add-one n) (unfold filled in refl)

pub filled_ext : (l : List ℕ) (at : ℕ) (f g : ℕ → ℕ) (n : ℕ) → ((k : ℕ) → k < n → f k ≡ g k) → filled l at f n ≡ filled l at g n
unfolding filled
filled_ext l at f g zero h = refl
filled_ext l at f g (suc n) h = rw (filled_ext l at f g n (λ k lt. h k (omega arith)), h n (omega arith))

-- one run of writes after another
pub filled_add : (l : List ℕ) (at : ℕ) (f : ℕ → ℕ) (n m : ℕ)
    → filled (filled l at f n) (at + n) (λ (k : ℕ). f (n + k)) m ≡ filled l at f (n + m)
unfolding filled
filled_add l at f n zero = rw (add-zero n)
filled_add l at f n (suc m) = rw (filled_add l at f n m, add_assoc at n m, add-suc n m)

-- the part of a slice from at on, once it holds ys: what a copy or a fill of that part leaves
pub part_filled : (l : List ℕ) (at : ℕ) (f : ℕ → ℕ) (n : ℕ) (ys : List ℕ) → at + n ≤ length l → length ys ≡ n
    → ((k : ℕ) → k < n → get_or ys k 0 ≡ f k) → put_mid at n l ys ≡ filled l at f n
part_filled l at f n ys r e h =
    ext_get_or 0 (put_mid at n l ys) (filled l at f n) (size ∙ sym (length_filled l at f n))
    (λ k lt. ⊎_elim (low k) (λ (b : at ≤ k). ⊎_elim (here k b) (above k (omega arith)) (cases_lt k (at + n))) (cases_lt k at))
  where
    front : length (take at l) ≡ at
    front = length-take-le at l (omega arith)

    size : length (put_mid at n l ys) ≡ length l
    size = omega (
      arith,
      length-append (take at l) (ys ++ drop n (drop at l)),
      length-append ys (drop n (drop at l)),
      front,
      length-drop n (drop at l),
      length-drop at l,
    )

    low : (k : ℕ) → k < at → get_or (put_mid at n l ys) k 0 ≡ get_or (filled l at f n) k 0
    low k a =
        get_or_append_left (take at l) (ys ++ drop n (drop at l)) 0 k (omega (arith, front)) ∙ get_or-take at l k 0 a
        ∙ sym (get_or_filled_other l at f n k (inl a))

    here : (k : ℕ) → at ≤ k → k < at + n → get_or (put_mid at n l ys) k 0 ≡ get_or (filled l at f n) k 0
    here k a b =
        let j : k - at < n = omega arith in
        let q : at + (k - at) ≡ k = omega arith in
        get_or-append_right (take at l) (ys ++ drop n (drop at l)) at k 0 front a
        ∙ get_or_append_left ys (drop n (drop at l)) 0 (k - at) (omega arith) ∙ h (k - at) j
        ∙ sym (rw q at (get_or_filled l at f n (k - at) r j))

    above : (k : ℕ) → at ≤ k → at + n ≤ k → get_or (put_mid at n l ys) k 0 ≡ get_or (filled l at f n) k 0
    above k a b =
        let q : at + (n + (k - at - n)) ≡ k = omega arith in
        get_or-append_right (take at l) (ys ++ drop n (drop at l)) at k 0 front a
        ∙ get_or-append_right ys (drop n (drop at l)) n (k - at) 0 e (omega arith)
        ∙ get_or-drop n (drop at l) (k - at - n) 0 ∙ get_or-drop at l (n + (k - at - n)) 0
        ∙ rw q (sym (get_or_filled_other l at f n k (inr b)))
