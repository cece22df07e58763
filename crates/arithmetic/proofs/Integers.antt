-- Differences of two numbers, as integers: they add, they turn, and they compare as sums of numbers do. By the signs. Assumes nothing.
use Rattle.std.proofs.Common.{◌≡◌, ℕ, zero, suc, ◌+◌, ◌-◌, ◌<◌, ◌≤◌, ltb, ℤ, pos, negsuc, ◌+ℤ◌, ◌-ℤ◌, neg_ℤ, sym, ap, ◌∙◌, arith, le-ltb}
use Rattle.std.proofs.Common.{lt-ltb}
use Rattle.std.proofs.lemmas.Bool.{ltb-true, ltb_from_iff}
use native.Mathlib.Decide.{dec_lt}
use lib.IntN.{+ℤ_assoc, +ℤ_comm, neg_ℤ-+ℤ, neg_ℤ-neg_ℤ}
use lib.Signed.{lt_z}

abbrev pub gap : ℕ → ℕ → ℤ
gap p q = pos p -ℤ pos q

-- ---- by their signs
gap_below : (p q : ℕ) → p < q → gap p q ≡ negsuc (q - suc p)
gap_below p zero l = absurd (omega arith)
gap_below p (suc q) l = rw (lt-ltb p (suc q) l)

gap_from : (p q : ℕ) → q ≤ p → gap p q ≡ pos (p - q)
gap_from p zero l = ap pos (omega arith)
gap_from p (suc q) l = rw (le-ltb p (suc q) l)

-- ---- they compare
pub same_test : (a b c d : ℕ) → (a < b → c < d) → (c < d → a < b) → ltb a b ≡ ltb c d
same_test a b c d f g = ltb_from_iff (λ e. f (ltb-true a b e), λ k. lt-ltb a b (g k))

pub gap_less : (p q r s : ℕ) → lt_z (gap p q) (gap r s) ≡ ltb (p + s) (r + q)
gap_less p q r s = go (dec_lt p q) (dec_lt r s)
  where
    go : Dec (p < q) → Dec (r < s) → lt_z (gap p q) (gap r s) ≡ ltb (p + s) (r + q)
    go (yes h) (yes k) =
        rw (gap_below p q h, gap_below r s k)
        (same_test (s - suc r) (q - suc p) (p + s) (r + q) (λ l. omega arith) (λ l. omega arith))
    go (yes h) (no k) = rw (gap_below p q h, gap_from r s (omega (arith, k))) (sym (lt-ltb (p + s) (r + q) (omega (arith, k))))
    go (no h) (yes k) = rw (gap_from p q (omega (arith, h)), gap_below r s k) (sym (le-ltb (p + s) (r + q) (omega (arith, h))))
    go (no h) (no k) =
        rw (gap_from p q (omega (arith, h)), gap_from r s (omega (arith, k)))
        (same_test (p - q) (r - s) (p + s) (r + q) (λ l. omega (arith, h, k)) (λ l. omega (arith, h, k)))

-- ---- they add and they turn
swap_inner : (a b c d : ℤ) → (a +ℤ b) +ℤ (c +ℤ d) ≡ (a +ℤ c) +ℤ (b +ℤ d)
swap_inner a b c d =
    +ℤ_assoc a b (c +ℤ d)
    ∙ ap (λ (z : ℤ). a +ℤ z) (sym (+ℤ_assoc b c d) ∙ ap (λ (z : ℤ). z +ℤ d) (+ℤ_comm b c) ∙ +ℤ_assoc c b d)
    ∙ sym (+ℤ_assoc a c (b +ℤ d))

pub gap_add : (p q r s : ℕ) → gap p q +ℤ gap r s ≡ gap (p + r) (q + s)
gap_add p q r s =
    swap_inner (pos p) (neg_ℤ (pos q)) (pos r) (neg_ℤ (pos s))
    ∙ ap (λ (z : ℤ). pos (p + r) +ℤ z) (sym (neg_ℤ-+ℤ (pos q) (pos s)))

pub gap_turn : (p q : ℕ) → neg_ℤ (gap p q) ≡ gap q p
gap_turn p q =
    neg_ℤ-+ℤ (pos p) (neg_ℤ (pos q)) ∙ ap (λ (z : ℤ). neg_ℤ (pos p) +ℤ z) (neg_ℤ-neg_ℤ (pos q)) ∙ +ℤ_comm (neg_ℤ (pos p)) (pos q)

pub gap_none : (p : ℕ) → pos p ≡ gap p 0
gap_none p = sym (gap_from p 0 (omega arith) ∙ ap pos (omega arith))

-- ---- they are equal
pub gap_same : (p q r s : ℕ) → p + s ≡ r + q → gap p q ≡ gap r s
gap_same p q r s e = go (dec_lt p q) (dec_lt r s)
  where
    go : Dec (p < q) → Dec (r < s) → gap p q ≡ gap r s
    go (yes h) (yes k) = gap_below p q h ∙ ap negsuc (omega arith) ∙ sym (gap_below r s k)
    go (yes h) (no k) = absurd (omega (arith, k))
    go (no h) (yes k) = absurd (omega (arith, h))
    go (no h) (no k) =
        gap_from p q (omega (arith, h)) ∙ ap pos (omega (arith, h, k)) ∙ sym (gap_from r s (omega (arith, k)))
