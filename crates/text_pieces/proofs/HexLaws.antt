-- Hex text belongs to its number alone: read back digit by digit it gives the number; and it has as many digits as the number needs.
-- Assumes nothing.
use Rattle.std.proofs.lemmas.Bool.{cases_lt}
use mathlib.Core.Path.{◌≡◌, sym, ap, ◌∙◌}
use mathlib.Core.Logic.{⊎_elim}
use mathlib.Core.Bool.{cond}
use mathlib.Core.List.{List, [], ◌∷◌}
use Prim.Native.Nat.{ℕ, zero, suc, ◌+◌, ◌-◌, ◌*◌, ◌/◌, ◌%◌, ◌^◌, ◌≤◌, ◌<◌}
use native.Mathlib.Nat.{add-mul, mul_assoc, add_assoc, mod-lt, eq-zero-or-pos, lt_of_lt_of_le, le_trans, mod-eq_of_lt, mod-one, lt_irrefl}
use native.Mathlib.Nat.{mul-one, add-zero, zero-mul, zero-add}
use native.Mathlib.Omega.{arith}
use lib.Dec.{ltb}
use lib.Pow.{pow-add, pow_mono, mod-pow-add}
use lib.Count.{leading_of_zero, leading_top}
use Rattle.std.proofs.lemmas.Bool.Decides.{nat_tests}
use Rattle.text_pieces.specs.Hex.{hex_byte, hex_digits, digits_of, hex_text}

-- the digit of a byte, and the number of a text of digits, highest first, after those of acc
abbrev digit_of : ℕ → ℕ
digit_of b = cond (ltb b 58) (b - 48) (b - 87)

unfoldable pub read_hex : ℕ → List ℕ → ℕ
read_hex acc [] = acc
read_hex acc (b ∷ t) = read_hex (acc * 16 + digit_of b) t

pub digit_back : (d : ℕ) → d < 16 → digit_of (hex_byte d) ≡ d
digit_back d h = grind (arith, nat_tests)

pub digits_back : (n acc x : ℕ) → read_hex acc (hex_digits n x) ≡ acc * 2 ^ (4 * n) + x % 2 ^ (4 * n)
unfolding hex_digits read_hex
digits_back zero acc x = simp (mod-one, mul-one, add-zero)
digits_back (suc n) acc x =
    let d = x / 2 ^ (4 * n) % 16 in
    let e : 4 * suc n ≡ 4 + 4 * n = omega arith in
    ap (λ (k : ℕ). read_hex (acc * 16 + k) (hex_digits n x)) (digit_back d (mod-lt _ (omega arith)))
    ∙ digits_back n (acc * 16 + d) x
    ∙ rw (e, mod-pow-add x 4 (4 * n)) (simp (pow-add 2 4 (4 * n), add-mul, mul_assoc, add_assoc))

-- 0 takes one digit
pub digits_zero : digits_of 0 ≡ 1
digits_zero = rw (leading_of_zero 64)

pub digits_bounds : (x : ℕ) → 0 < x → x < 2 ^ 64 → (x < 2 ^ (4 * digits_of x)) × (2 ^ (4 * (digits_of x - 1)) ≤ x)
digits_bounds x p h =
    let t = leading_top 64 x p h in
    let up : suc t.0 ≤ 4 * digits_of x = omega (arith, t.1) in
    let down : 4 * (digits_of x - 1) ≤ t.0 = omega (arith, t.1) in
    (lt_of_lt_of_le t.3 (pow_mono up), le_trans (pow_mono down) t.2)

pub digits_most : (x : ℕ) → digits_of x ≤ 16
digits_most x = omega arith

-- a number below 16 ^ k takes at most k digits
pub digits_under : (k x : ℕ) → 0 < k → k ≤ 16 → x < 2 ^ (4 * k) → digits_of x ≤ k
digits_under k x p m h =
    ⊎_elim
    (λ (z : x ≡ 0). rw z (rw digits_zero p))
    (λ (q : 0 < x). not_above (digits_bounds x q (lt_of_lt_of_le h (pow_mono {i = 4 * k} {j = 64} (omega arith)))).1)
    (eq-zero-or-pos x)
  where
    not_above : 2 ^ (4 * (digits_of x - 1)) ≤ x → digits_of x ≤ k
    not_above b =
        ⊎_elim
        (λ (l : k < digits_of x). let e : 4 * k ≤ 4 * (digits_of x - 1) = omega arith in
        absurd (lt_irrefl x (lt_of_lt_of_le h (le_trans (pow_mono e) b))))
        (λ (g : digits_of x ≤ k). g)
        (cases_lt k (digits_of x))

-- read back, the text of x is x
pub hex_back : (x : ℕ) → x < 2 ^ 64 → read_hex 0 (hex_text x) ≡ x
hex_back x h =
    digits_back (digits_of x) 0 x
    ∙ simp (zero-mul, zero-add)
    (⊎_elim
    (λ (z : x ≡ 0). simp (z, digits_zero))
    (λ (p : 0 < x). mod-eq_of_lt (digits_bounds x p h).0)
    (eq-zero-or-pos x))

-- each number's hex text belongs to it alone
pub hex_one : (x y : ℕ) → x < 2 ^ 64 → y < 2 ^ 64 → hex_text x ≡ hex_text y → x ≡ y
hex_one x y hx hy e = sym (hex_back x hx) ∙ ap (read_hex 0) e ∙ hex_back y hy
