-- The law of fields, once over first bit and width: a field put in reads back, every other field stays, and neighbouring fields fix the
-- field that they make up. Registers, lanes and flags use these and never open `cut` or `put`. Assumes nothing.
use Rattle.std.proofs.Common.{◌≡◌, ℕ, zero, suc, ◌+◌, ◌-◌, ◌*◌, ◌/◌, ◌%◌, ◌^◌, ◌<◌, ◌≤◌, ◌⊎◌, sym, ap, ◌∙◌, subst, ap₂, inl, inr, mod-lt}
use Rattle.std.proofs.Common.{mod-eq_of_lt, mul_assoc, mul-zero, mul-suc, div-one, arith, pow_pos, pow-add, shr-shr, shr_lt}
use mathlib.Core.Path.{subst⁻¹}
use native.Mathlib.Nat.{mod-one, mul-add-mod_self_right}
use lib.Arith.{digits_lt}
use lib.Pow.{field, high, split, mod-pow-add}
use Rattle.utils.specs.Word.{cut, put}

-- what stands at bit k or above is not seen below it
cut_low : (hi lo k f n : ℕ) → f + n ≤ k → cut (hi * 2 ^ k + lo) f n ≡ cut lo f n
unfolding cut
cut_low hi lo k f n h =
    let e : k ≡ (k - (n + f)) + (n + f) = omega arith in
    let d : hi * 2 ^ k + lo ≡ (hi * 2 ^ (k - (n + f))) * 2 ^ (n + f) + lo =
    ap (λ (x : ℕ). x + lo)
    (ap (λ (x : ℕ). hi * 2 ^ x) e ∙ ap (λ (x : ℕ). hi * x) (pow-add 2 (k - (n + f)) (n + f))
    ∙ sym (mul_assoc hi (2 ^ (k - (n + f))) (2 ^ (n + f)))) in
    sym (field (hi * 2 ^ k + lo) n f)
    ∙ ap (λ (x : ℕ). x / 2 ^ f) (ap (λ (x : ℕ). x % 2 ^ (n + f)) d ∙ mul-add-mod_self_right (hi * 2 ^ (k - (n + f))) (2 ^ (n + f)) lo)
    ∙ field lo n f

-- what stands below bit k is not seen from it on
cut_high : (hi k d n : ℕ) {lo : ℕ} → lo < 2 ^ k → cut (hi * 2 ^ k + lo) (k + d) n ≡ cut hi d n
unfolding cut
cut_high hi k d n {lo} h = ap (λ (x : ℕ). x % 2 ^ n) (sym (shr-shr (hi * 2 ^ k + lo) k d) ∙ ap (λ (x : ℕ). x / 2 ^ d) (high hi k h))

-- the low k bits, and the bits from k on, have the fields that lie in them
pub cut_mod : (x k f n : ℕ) → f + n ≤ k → cut (x % 2 ^ k) f n ≡ cut x f n
cut_mod x k f n h = sym (cut_low (x / 2 ^ k) (x % 2 ^ k) k f n h) ∙ ap (λ (y : ℕ). cut y f n) (split x k)

pub cut_div : (x k d n : ℕ) → cut (x / 2 ^ k) d n ≡ cut x (k + d) n
unfolding cut
cut_div x k d n = ap (λ (y : ℕ). y % 2 ^ n) (shr-shr x k d)

pub cut_lt : (x f n : ℕ) → cut x f n < 2 ^ n
unfolding cut
cut_lt x f n = mod-lt (x / 2 ^ f) (pow_pos n)

mid_lt : (x f n v : ℕ) → v % 2 ^ n * 2 ^ f + x % 2 ^ f < 2 ^ (f + n)
mid_lt x f n v =
    let e : f + n ≡ n + f = omega arith in
    rw (e, pow-add 2 n f) (digits_lt (mod-lt v (pow_pos n)) (mod-lt x (pow_pos f)))

-- a field inside the one put in is that field of what was put in
pub put_inside : (x f n v d m : ℕ) → d + m ≤ n → cut (put x f n v) (f + d) m ≡ cut v d m
unfolding put
put_inside x f n v d m h =
    cut_low (x / 2 ^ (f + n)) (v % 2 ^ n * 2 ^ f + x % 2 ^ f) (f + n) (f + d) m (omega arith)
    ∙ cut_high (v % 2 ^ n) f d m (mod-lt x (pow_pos f)) ∙ cut_mod v n d m h

put_below : (x f n v g m : ℕ) → g + m ≤ f → cut (put x f n v) g m ≡ cut x g m
unfolding put
put_below x f n v g m h =
    cut_low (x / 2 ^ (f + n)) (v % 2 ^ n * 2 ^ f + x % 2 ^ f) (f + n) g m (omega arith) ∙ cut_low (v % 2 ^ n) (x % 2 ^ f) f g m h
    ∙ cut_mod x f g m h

put_above : (x f n v g m : ℕ) → f + n ≤ g → cut (put x f n v) g m ≡ cut x g m
unfolding put
put_above x f n v g m h =
    let e : g ≡ (f + n) + (g - (f + n)) = omega arith in
    ap (λ (y : ℕ). cut (put x f n v) y m) e ∙ cut_high (x / 2 ^ (f + n)) (f + n) (g - (f + n)) m (mid_lt x f n v)
    ∙ cut_div x (f + n) (g - (f + n)) m ∙ ap (λ (y : ℕ). cut x y m) (sym e)

-- a field beside it, below or above, stays
pub put_outside : (x f n v g m : ℕ) → (g + m ≤ f) ⊎ (f + n ≤ g) → cut (put x f n v) g m ≡ cut x g m
put_outside x f n v g m (inl h) = put_below x f n v g m h
put_outside x f n v g m (inr h) = put_above x f n v g m h

-- two fields side by side
pub cut_add : (x f a b : ℕ) → cut x f (b + a) ≡ cut x (f + a) b * 2 ^ a + cut x f a
unfolding cut
cut_add x f a b = mod-pow-add (x / 2 ^ f) b a ∙ ap (λ (y : ℕ). y % 2 ^ b * 2 ^ a + x / 2 ^ f % 2 ^ a) (shr-shr x f a)

-- n fields of w bits from bit f on fix the field of w * n bits
pub cells_fix : (w x y f n : ℕ) → ((j : ℕ) → j < n → cut x (f + w * j) w ≡ cut y (f + w * j) w) → cut x f (w * n) ≡ cut y f (w * n)
unfolding cut
cells_fix w x y f zero h = rw (mul-zero w) (mod-one (x / 2 ^ f) ∙ sym (mod-one (y / 2 ^ f)))
cells_fix w x y f (suc n) h =
    let e : w * suc n ≡ w + w * n = omega (arith, mul-suc w n) in
    ap (λ (z : ℕ). cut x f z) e ∙ cut_add x f (w * n) w
    ∙ ap₂ (λ (a b : ℕ). a * 2 ^ (w * n) + b) (h n (omega arith)) (cells_fix w x y f n (λ j l. h j (omega arith)))
    ∙ sym (ap (λ (z : ℕ). cut y f z) e ∙ cut_add y f (w * n) w)

-- the low k bits; a word of k bits is its field of k bits, and stays one
pub cut_bottom : (x k : ℕ) → cut x 0 k ≡ x % 2 ^ k
unfolding cut
cut_bottom x k = ap (λ (y : ℕ). y % 2 ^ k) (div-one x)

pub cut_all : (x k : ℕ) → x < 2 ^ k → cut x 0 k ≡ x
cut_all x k h = cut_bottom x k ∙ mod-eq_of_lt h

pub put_lt : (x f n v k : ℕ) → f + n ≤ k → x < 2 ^ k → put x f n v < 2 ^ k
unfolding put
put_lt x f n v k h l =
    let e : k ≡ (k - (f + n)) + (f + n) = omega arith in
    let l' : x < 2 ^ ((k - (f + n)) + (f + n)) = subst (λ (y : ℕ). x < 2 ^ y) e l in
    subst⁻¹ (λ (y : ℕ). put x f n v < y) (ap (λ (y : ℕ). 2 ^ y) e ∙ pow-add 2 (k - (f + n)) (f + n))
    (digits_lt (shr_lt (k - (f + n)) (f + n) l') (mid_lt x f n v))

-- the field's old bits go and the new ones come: how a program writes one field
pub put_exchange : (x f n v : ℕ) → put x f n v + cut x f n * 2 ^ f ≡ x + v % 2 ^ n * 2 ^ f
unfolding put cut
put_exchange x f n v =
    let s : x / 2 ^ (f + n) * 2 ^ (f + n) + (x / 2 ^ f % 2 ^ n * 2 ^ f + x % 2 ^ f) ≡ x =
    let c : f + n ≡ n + f = omega arith in
    ap (λ (y : ℕ). x / 2 ^ (f + n) * 2 ^ (f + n) + y) (rw c (sym (mod-pow-add x n f))) ∙ split x (f + n) in
    omega (arith, s)

-- so: a field put in as it stands changes nothing, of two put at one bit the last counts, and two that lie apart may be exchanged
pub put_same : (x f n : ℕ) → put x f n (cut x f n) ≡ x
put_same x f n =
    let c : cut x f n % 2 ^ n ≡ cut x f n = mod-eq_of_lt (cut_lt x f n) in
    let e : put x f n (cut x f n) + cut x f n * 2 ^ f ≡ x + cut x f n * 2 ^ f = rw c at (put_exchange x f n (cut x f n)) in
    omega (arith, e)

pub put_again : (x f n u v : ℕ) → put (put x f n u) f n v ≡ put x f n v
put_again x f n u v =
    let i : f + 0 ≡ f = omega arith in
    let c : cut (put x f n u) f n ≡ u % 2 ^ n =
    ap (λ (k : ℕ). cut (put x f n u) k n) (sym i) ∙ put_inside x f n u 0 n (omega arith) ∙ cut_bottom u n in
    let e : put (put x f n u) f n v + u % 2 ^ n * 2 ^ f ≡ put x f n u + v % 2 ^ n * 2 ^ f = rw c at (put_exchange (put x f n u) f n v) in
    omega (arith, e, put_exchange x f n u, put_exchange x f n v)

pub put_swap : (x f n u g m v : ℕ) → (g + m ≤ f) ⊎ (f + n ≤ g) → put (put x f n u) g m v ≡ put (put x g m v) f n u
put_swap x f n u g m v h =
    let c = put_outside x f n u g m h in
    let d = put_outside x g m v f n (turned h) in
    let e : put (put x f n u) g m v + cut x g m * 2 ^ g ≡ put x f n u + v % 2 ^ m * 2 ^ g = rw c at (put_exchange (put x f n u) g m v) in
    let i : put (put x g m v) f n u + cut x f n * 2 ^ f ≡ put x g m v + u % 2 ^ n * 2 ^ f = rw d at (put_exchange (put x g m v) f n u) in
    omega (arith, e, i, put_exchange x f n u, put_exchange x g m v)
  where
    turned : (g + m ≤ f) ⊎ (f + n ≤ g) → (f + n ≤ g) ⊎ (g + m ≤ f)
    turned (inl l) = inr l
    turned (inr l) = inl l
