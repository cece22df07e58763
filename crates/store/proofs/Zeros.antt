-- The page of zeros: what one byte of it and what is left of it say, what a fold over all its bytes gives, and that each of its bytes is 0.
-- By cases on the byte.
use mathlib.Core.Path.{◌≡◌, refl, ◌∙◌}
use mathlib.Core.Bool.{Bool, true, false, ◌&&◌}
use mathlib.Core.List.{List, [], ◌∷◌}
use Prim.Native.Nat.{ℕ, zero, suc, ◌+◌, ◌<◌, ◌≤◌}
use native.Mathlib.Numerals.{add-one}
use native.Mathlib.Omega.{arith}
use lib.Dec.{eqb}
use lib.ListN.{length, get_or, drop, drop_of_length-le}
use lib.Seq.{drop-cons}
use borrow.Author.Tests.{eq-eqb, ne_eqb, eqb-true}
use Rattle.std.proofs.lemmas.Bool.{and_parts}
use Rattle.std.specs.List.{fold}
use Rattle.store.specs.View.{all_zero, zero_page}

-- one more zero, and a byte that is none
pub zero_step : (z : List ℕ) (k : ℕ) → k < length z → get_or z k 0 ≡ 0 → all_zero (drop k z) ≡ all_zero (drop (k + 1) z)
zero_step z k h e = rw (drop-cons z k 0 h, eq-eqb (get_or z k 0) 0 e, add-one k)

pub zero_stop : (z : List ℕ) (k : ℕ) → k < length z → (get_or z k 0 ≡ 0 → ⊥) → all_zero (drop k z) ≡ false
zero_stop z k h e = rw (drop-cons z k 0 h, ne_eqb (get_or z k 0) 0 e)

pub zero_end : (z : List ℕ) (k : ℕ) → length z ≤ k → all_zero (drop k z) ≡ true
zero_end z k h = rw (drop_of_length-le z h)

-- by a fold over all of its bytes
pub zero_fold : (z : List ℕ) (a : Bool) → fold (λ b x. b && eqb x 0) a z ≡ (a && all_zero z)
zero_fold [] a = grind arith
zero_fold (x ∷ z) a = zero_fold z (a && eqb x 0) ∙ grind arith

pub page_short : (z : List ℕ) → (length z ≡ 4096 → ⊥) → zero_page z ≡ false
unfolding zero_page
page_short z h = rw (ne_eqb (length z) 4096 h)

pub page_full : (z : List ℕ) (b : Bool) → length z ≡ 4096 → all_zero z ≡ b → zero_page z ≡ b
unfolding zero_page
page_full z b h e = rw (eq-eqb (length z) 4096 h) e

pub zero_at : (z : List ℕ) → all_zero z ≡ true → (k : ℕ) → get_or z k 0 ≡ 0
zero_at [] e k = refl
zero_at (x ∷ z) e zero = eqb-true x 0 (and_parts (eqb x 0) (all_zero z) e).0
zero_at (x ∷ z) e (suc k) = zero_at z (and_parts (eqb x 0) (all_zero z) e).1 k
