-- Sign extension: it looks at the low n bits alone and keeps them; no bits, and bits of 0, read 0; 64 bits are the word itself.
-- Assumes nothing.
use Rattle.std.proofs.Common.{◌≡◌, ℕ, ◌+◌, ◌-◌, ◌*◌, ◌/◌, ◌%◌, ◌^◌, ◌<◌, ◌≤◌, Bool, true, false, cond, ltb, sym, ap, ◌∙◌, mod-lt}
use Rattle.std.proofs.Common.{mod-eq_of_lt, div-one, arith, pow_pos, pow_mono, le-ltb, lt-ltb}
use native.Mathlib.Nat.{mod-mod, mod-one, mul-add-mod_self_right}
use lib.Pow.{mod-pow-add, high_ones}
use Rattle.utils.specs.Word.{cut, extend}
use Rattle.std.proofs.lemmas.Bool.{cond_both}
use Rattle.utils.proofs.Powers.{twice}

pub extend_none : (x : ℕ) → extend 0 x ≡ 0
unfolding extend
extend_none x = ap (λ (l : ℕ). cond (ltb l 1) l (l + (2 ^ 64 - 1))) (mod-one x)

pub extend_zero : (n : ℕ) → extend n 0 ≡ 0
unfolding extend
extend_zero n =
    let z : 0 % 2 ^ n ≡ 0 = mod-eq_of_lt (pow_pos n) in
    rw (z, lt-ltb 0 (2 ^ (n - 1)) (pow_pos (n - 1)))

-- 64 bits or more
pub extend_whole : (n x : ℕ) → 64 ≤ n → x < 2 ^ 64 → extend n x ≡ x
unfolding extend
extend_whole n x h l =
    let p : 2 ^ 64 ≤ 2 ^ n = pow_mono h in
    let low : x % 2 ^ n ≡ x = mod-eq_of_lt (omega arith) in
    cond_both (ltb (x % 2 ^ n) (2 ^ (n - 1))) (x % 2 ^ n) (x % 2 ^ n + (2 ^ 64 - 2 ^ n)) (λ z. z ≡ x) (λ e. low) (λ e. omega arith)

-- words with the same low n bits extend alike
pub extend_same : (n x y : ℕ) → cut x 0 n ≡ cut y 0 n → extend n x ≡ extend n y
unfolding extend cut
extend_same n x y e = let h : x % 2 ^ n ≡ y % 2 ^ n = ap (λ (z : ℕ). z % 2 ^ n) (sym (div-one x)) ∙ e
    ∙ ap (λ (z : ℕ). z % 2 ^ n) (div-one y) in ap (λ (l : ℕ). cond (ltb l (2 ^ (n - 1))) l (l + (2 ^ 64 - 2 ^ n))) h

-- so a field of n bits extends as what stands from its first bit on
pub extend_cut : (n f x : ℕ) → extend n (cut x f n) ≡ extend n (x / 2 ^ f)
extend_cut n f x =
    extend_same n (cut x f n) (x / 2 ^ f)
    (unfold cut in ap (λ (z : ℕ). z % 2 ^ n) (div-one (x / 2 ^ f % 2 ^ n)) ∙ mod-mod (x / 2 ^ f) (2 ^ n)
    ∙ ap (λ (z : ℕ). z % 2 ^ n) (sym (div-one (x / 2 ^ f))))

pub extend_low : (n x : ℕ) → extend n x ≡ extend n (cut x 0 n)
extend_low n x = sym (extend_cut n 0 x ∙ ap (extend n) (div-one x))

-- ---- how `sign_extend` computes it, with k the number of the sign bit
module _ (n x : ℕ) (some : 1 ≤ n) where
  low_bits : x % 2 ^ n ≡ x / 2 ^ (n - 1) % 2 * 2 ^ (n - 1) + x % 2 ^ (n - 1)
  low_bits = let e : n ≡ 1 + (n - 1) = omega arith in ap (λ (m : ℕ). x % 2 ^ m) e ∙ mod-pow-add x 1 (n - 1)

  -- the sign bit clear
  pub extend_clear : x / 2 ^ (n - 1) % 2 ≡ 0 → x % 2 ^ (n - 1) ≡ extend n x
  unfolding extend
  extend_clear e =
      let l : x % 2 ^ n ≡ x % 2 ^ (n - 1) = low_bits ∙ rw e (omega arith) in
      rw (l, lt-ltb (x % 2 ^ (n - 1)) (2 ^ (n - 1)) (mod-lt x (pow_pos (n - 1))))

  -- the sign bit set
  pub extend_set : n ≤ 64 → (x / 2 ^ (n - 1) % 2 ≡ 0 → ⊥) → x % 2 ^ (n - 1) + (18446744073709551615 - 2 ^ (n - 1) + 1) ≡ extend n x
  unfolding extend
  extend_set h ne =
      let b : x / 2 ^ (n - 1) % 2 ≡ 1 = omega (arith, ne) in
      let l : x % 2 ^ n ≡ 2 ^ (n - 1) + x % 2 ^ (n - 1) = low_bits ∙ rw b (omega arith) in
      let d = twice n some in
      let s : 2 ^ n ≤ 2 ^ 64 = pow_mono h in
      rw (l, le-ltb (2 ^ (n - 1) + x % 2 ^ (n - 1)) (2 ^ (n - 1)) (omega arith)) (omega arith)

-- a value extended from n bits has those bits
pub extend_back : (n x : ℕ) → n ≤ 64 → extend n x % 2 ^ n ≡ x % 2 ^ n
unfolding extend
extend_back n x h = go (ltb (x % 2 ^ n) (2 ^ (n - 1)))
  where
    ones : 2 ^ 64 - 2 ^ n ≡ (2 ^ (64 - n) - 1) * 2 ^ n
    ones = let e : 64 ≡ (64 - n) + n = omega arith in ap (λ (k : ℕ). 2 ^ k - 2 ^ n) e ∙ high_ones (64 - n) n

    go : (b : Bool) → cond b (x % 2 ^ n) (x % 2 ^ n + (2 ^ 64 - 2 ^ n)) % 2 ^ n ≡ x % 2 ^ n
    go true = mod-mod x (2 ^ n)
    go false =
        let e : x % 2 ^ n + (2 ^ 64 - 2 ^ n) ≡ (2 ^ (64 - n) - 1) * 2 ^ n + x % 2 ^ n = omega (arith, ones) in
        ap (λ (z : ℕ). z % 2 ^ n) e ∙ mul-add-mod_self_right (2 ^ (64 - n) - 1) (2 ^ n) (x % 2 ^ n) ∙ mod-mod x (2 ^ n)
