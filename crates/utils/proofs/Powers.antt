-- Powers of two that words are made of: 2^w is twice its half, and 2^64 so many times 2^w. Assumes nothing.
use Rattle.std.proofs.Common.{◌≡◌, ℕ, ◌+◌, ◌-◌, ◌*◌, ◌^◌, ◌≤◌, ap, ◌∙◌, arith, pow-add}

pub twice : (w : ℕ) → 1 ≤ w → 2 ^ w ≡ 2 * 2 ^ (w - 1)
twice w some = let e : w ≡ 1 + (w - 1) = omega arith in ap (λ (k : ℕ). 2 ^ k) e ∙ pow-add 2 1 (w - 1)

pub word_by : (w : ℕ) → w ≤ 64 → 2 ^ 64 ≡ 2 ^ (64 - w) * 2 ^ w
word_by w most = let e : 64 ≡ (64 - w) + w = omega arith in ap (λ (k : ℕ). 2 ^ k) e ∙ pow-add 2 (64 - w) w
