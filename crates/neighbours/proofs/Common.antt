-- Laws of `some` and `common`: what they say of the numbers below the bound, and that "or" goes in and out of them. By induction on the
-- bound. Assumes nothing.
use mathlib.Core.Bool.{Bool, true, false, ◌&&◌, ◌||◌, and_comm, and-or_distrib_left}
use mathlib.Core.Logic.{◌⊎◌, inl, inr}
use mathlib.Core.Path.{◌≡◌, refl, ap, ap₂, ◌∙◌}
use Prim.Native.Nat.{ℕ, zero, suc, ◌<◌}
use native.Mathlib.Nat.{not-suc-le-zero}
use native.Mathlib.Omega.{arith}
use lib.Dec.{eqb}
use borrow.Author.Tests.{eqb-true, eqb-false}
use Rattle.std.proofs.lemmas.Bool.{both_ways, cases_Bool, and_parts, or_parts, false_from_ne_true, true_from_ne_false}
use Rattle.neighbours.specs.Dependent.{some, common}

-- a number below n that has it
pub record Found (n : ℕ) (f : ℕ → Bool) : Type 0 where
  pub at : ℕ
  pub below : at < n
  pub has : f at ≡ true

pub some_found : (n : ℕ) (f : ℕ → Bool) → some n f ≡ true → Found n f
unfolding some
some_found zero f h = absurd (let z : ◌≡◌ {A = ℕ} 0 1 = cc in omega arith)
some_found (suc n) f h = go (cases_Bool (f n)) (λ q. some_found n f q)
  where
    go : (f n ≡ true) ⊎ (f n ≡ false) → (some n f ≡ true → Found n f) → Found (suc n) f
    go (inl t) rest = record { at = n; below = omega arith; has = t }
    go (inr e) rest = let w = rest (rw e at h) in record { at = w.at; below = omega (arith, w.below); has = w.has }

pub some_none : (n : ℕ) (f : ℕ → Bool) (p : ℕ) → some n f ≡ false → p < n → f p ≡ false
unfolding some
some_none zero f p h l = absurd (not-suc-le-zero l)
some_none (suc n) f p h l = go (cases_Bool (eqb p n)) (some_none n f p (or_parts (f n) (some n f) h).1)
  where
    go : (eqb p n ≡ true) ⊎ (eqb p n ≡ false) → (p < n → f p ≡ false) → f p ≡ false
    go (inl e) rest = rw (eqb-true p n e) (or_parts (f n) (some n f) h).0
    go (inr e) rest = rest (let other : p ≡ n → ⊥ = eqb-false p n e in omega (arith, other))

pub found_some : (n : ℕ) (f : ℕ → Bool) → Found n f → some n f ≡ true
found_some n f w = true_from_ne_false (some n f) (λ e. both_ways (f w.at) (some_none n f w.at e w.below) w.has)

-- two ways to say of each number the same
pub some_same : (n : ℕ) (f g : ℕ → Bool) → ((p : ℕ) → f p ≡ g p) → some n f ≡ some n g
unfolding some
some_same zero f g h = refl
some_same (suc n) f g h = ap₂ (λ (a b : Bool). a || b) (h n) (some_same n f g h)

or_crossed : (a b c d : Bool) → ((a || b) || (c || d)) ≡ ((a || c) || (b || d))
or_crossed a b c d = grind arith

pub some_or : (n : ℕ) (f g : ℕ → Bool) → some n (λ p. f p || g p) ≡ (some n f || some n g)
unfolding some
some_or zero f g = refl
some_or (suc n) f g = ap (λ (b : Bool). (f n || g n) || b) (some_or n f g) ∙ or_crossed (f n) (g n) (some n f) (some n g)

pub common_swap : (f g : ℕ → Bool) → common f g ≡ common g f
unfolding common
common_swap f g = some_same 182 (λ p. f p && g p) (λ p. g p && f p) (λ p. and_comm (f p) (g p))

pub common_or : (f g h : ℕ → Bool) → common f (λ p. g p || h p) ≡ (common f g || common f h)
unfolding common
common_or f g h =
    some_same 182 (λ p. f p && (g p || h p)) (λ p. f p && g p || f p && h p) (λ p. and-or_distrib_left (f p) (g p) (h p))
    ∙ some_or 182 (λ p. f p && g p) (λ p. f p && h p)

-- of four
abbrev or_four : (ℕ → Bool) → (ℕ → Bool) → (ℕ → Bool) → (ℕ → Bool) → ℕ → Bool
or_four a b c d p = a p || (b p || (c p || d p))

pub common_four : (f a b c d : ℕ → Bool) → common f (or_four a b c d) ≡ (common f a || (common f b || (common f c || common f d)))
common_four f a b c d =
    common_or f a (λ p. b p || (c p || d p))
    ∙ ap (λ (x : Bool). common f a || x)
    (common_or f b (λ p. c p || d p) ∙ ap (λ (x : Bool). common f b || x) (common_or f c d))

-- nothing is common with what nothing has
pub common_none : (f g : ℕ → Bool) → ((p : ℕ) → f p ≡ false) → common f g ≡ false
unfolding common
common_none f g none =
    false_from_ne_true (common f g)
    (λ t.
    let w = some_found 182 (λ p. f p && g p) t in
    both_ways (f w.at) (none w.at) (and_parts (f w.at) (g w.at) w.has).0)
