-- A signed number written as n bytes, low byte first, comes back: read as a number, sign-extended from the bytes, and read as signed.
-- Once over the number of bits. Assumes nothing.
use Rattle.std.proofs.Common.{◌≡◌, ℕ, zero, suc, ◌+◌, ◌-◌, ◌*◌, ◌%◌, ◌^◌, ◌<◌, ◌≤◌, ℤ, pos, negsuc, ap, ◌∙◌, mod-eq_of_lt, suc-mul, arith}
use Rattle.std.proofs.Common.{pow_pos, pow_mono, w64, to_z, of_z, le-ltb, lt-ltb}
use native.Mathlib.Nat.{mod-mod}
use lib.Pow.{low}
use lib.Signed.{mag}
use mir.ValLaws.{to_z-of_z}
use Rattle.utils.specs.Bytes.{to_bytes, from_bytes}
use Rattle.utils.specs.Word.{extend}
use Rattle.utils.proofs.Bytes.{from_to}
use Rattle.utils.proofs.Powers.{twice, word_by}

extend_mod : (k x : ℕ) → extend k (x % 2 ^ k) ≡ extend k x
unfolding extend
extend_mod k x = rw (mod-mod x (2 ^ k))

module _ (k : ℕ) (some : 1 ≤ k) (most : k ≤ 64) where
  -- the low k bits of a number below 0
  low_part : (m : ℕ) → m < 2 ^ (k - 1) → (2 ^ 64 - suc m) % 2 ^ k ≡ 2 ^ k - suc m
  low_part m h =
      let p = word_by k most in
      let q = pow_pos (64 - k) in
      let t = twice k some in
      let s : 2 ^ 64 - suc m ≡ (2 ^ (64 - k) - 1) * 2 ^ k + (2 ^ k - suc m) = split (2 ^ 64) (2 ^ (64 - k)) (2 ^ k) m p q (omega arith) in
      rw s (low (2 ^ (64 - k) - 1) k (omega arith))
    where
      split : (w a b m : ℕ) → w ≡ a * b → 0 < a → m < b → w - suc m ≡ (a - 1) * b + (b - suc m)
      split w (suc a) b m e h l = let d : (suc a - 1) * b ≡ a * b = ap (λ (n : ℕ). n * b) (omega arith) in omega (arith, suc-mul a b)
      split w zero b m e h l = absurd (omega arith)

  -- a number of k bits is its own sign extension
  pub extend_signed : (z : ℤ) → mag z < 2 ^ (k - 1) → extend k (of_z w64 z) ≡ of_z w64 z
  unfolding extend
  extend_signed (pos m) h = let t = twice k some in let l : m < 2 ^ k = omega arith in rw (mod-eq_of_lt l, lt-ltb m (2 ^ (k - 1)) h)
  extend_signed (negsuc m) h =
      let t = twice k some in
      let l : 2 ^ k ≤ 2 ^ 64 = pow_mono most in
      rw (low_part m h, le-ltb (2 ^ k - suc m) (2 ^ (k - 1)) (omega arith)) (omega arith)

-- signed values to 1, 2, 4 or 8 bytes (RULES 1.5), and back
pub signed_back : (n : ℕ) (z : ℤ) → 1 ≤ n → n ≤ 8 → mag z < 2 ^ (8 * n - 1)
    → to_z w64 (extend (8 * n) (from_bytes (to_bytes n (of_z w64 z)))) ≡ z
signed_back n z a b h =
    let c : 8 * n - 1 ≤ 63 = omega arith in
    let l : 2 ^ (8 * n - 1) ≤ 2 ^ 63 = pow_mono c in
    ap (λ (x : ℕ). to_z w64 (extend (8 * n) x)) (from_to n (of_z w64 z))
    ∙ ap (to_z w64) (extend_mod (8 * n) (of_z w64 z) ∙ extend_signed (8 * n) (omega arith) (omega arith) z h)
    ∙ to_z-of_z w64 z (record { sfits = omega arith })
