-- The position of a text in any list, and what stands there; and tests that the checker computes at every number below a bound. Assumes
-- nothing.
use Rattle.std.proofs.lemmas.Bool.{cases_lt}
use mathlib.Core.Bool.{Bool, true, false, cond, ◌&&◌}
use mathlib.Core.List.{List, [], ◌∷◌}
use mathlib.Core.Logic.{⊎_elim}
use mathlib.Core.Path.{◌≡◌, refl, sym, ap₂, subst}
use Prim.Native.Nat.{ℕ, zero, suc, ◌≤◌, ◌<◌}
use native.Mathlib.Omega.{arith}
use lib.Dec.{T, eqb, eqb→eq}
use lib.ListN.{length, get_or}
use mir.Facts.{and_yes}
use Rattle.reading_names.specs.Nodes.{same, index_in}

-- ---- a test at every number below a bound (std's `agree_below` compares two tests: with a second that is always true each use is longer)
abbrev pub every_below : ℕ → (ℕ → Bool) → Bool
every_below zero f = true
every_below (suc n) f = f n && every_below n f

pub at_each : (n : ℕ) (f : ℕ → Bool) → T (every_below n f) → (k : ℕ) → k < n → T (f k)
at_each zero f t k h = absurd (omega arith)
at_each (suc n) f t k h =
    ⊎_elim
    (λ (l : k < n). at_each n f (and_yes (f n) (every_below n f) t).1 k l)
    (λ (g : n ≤ k). let e : k ≡ n = omega arith in rw e (and_yes (f n) (every_below n f) t).0)
    (cases_lt k n)

-- ---- two texts are one
pub same_eq : (s t : List ℕ) → T (same s t) → s ≡ t
same_eq [] [] h = refl
same_eq [] (y ∷ t) h = absurd h
same_eq (x ∷ s) [] h = absurd h
same_eq (x ∷ s) (y ∷ t) h =
    let k = and_yes (eqb x y) (same s t) h in
    ap₂ (λ (z : ℕ) (u : List ℕ). z ∷ u) (eqb→eq x y k.0) (same_eq s t k.1)

-- ---- the first position of a text in a list
pub place_holds : (s : List ℕ) (ts : List (List ℕ)) → index_in s ts < length ts → get_or ts (index_in s ts) [] ≡ s
unfolding index_in
place_holds s [] h = absurd (omega arith)
place_holds s (t ∷ ts) h = go (same s t) refl (place_holds s ts) h
  where
    go : (q : Bool) → same s t ≡ q → (index_in s ts < length ts → get_or ts (index_in s ts) [] ≡ s) →
        cond q 0 (suc (index_in s ts)) < suc (length ts) → get_or (t ∷ ts) (cond q 0 (suc (index_in s ts))) [] ≡ s
    go true e k l = sym (same_eq s t (subst T (sym e) tt))
    go false e k l = k (omega arith)
