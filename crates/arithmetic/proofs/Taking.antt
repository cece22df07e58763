-- A difference as `minus` works it out: the sum with the complement and the other carry, and its Carry turned. Once over the width.
-- Assumes nothing.
use Rattle.std.proofs.Common.{◌≡◌, ℕ, ◌+◌, ◌-◌, ◌*◌, ◌/◌, ◌%◌, ◌^◌, ◌<◌, ◌≤◌, Bool, true, false, not, ltb, leb, ℤ, pos, ◌+ℤ◌, ◌-ℤ◌, neg_ℤ}
use Rattle.std.proofs.Common.{sym, refl, ap, ◌∙◌, ap₂, mul-le-mul_right, mod-lt, div-add-mod', arith, pow_pos, le-ltb, lt-ltb, le-leb}
use native.Mathlib.Decide.{dec_le, dec_lt}
use borrow.Author.Tests.{lt-leb}
use lib.IntN.{+ℤ_assoc}
use Rattle.utils.proofs.Powers.{twice, word_by}
use Rattle.fields.specs.FlagBits.{bool_bit}
use Rattle.arithmetic.specs.Sums.{signed, added, subtracted}
use Rattle.arithmetic.specs.declared.Sum.{Sum}
use Rattle.arithmetic.proofs.Adding.{excess, signed_gap}
use Rattle.arithmetic.proofs.Integers.{gap, gap_add, gap_turn, gap_none, gap_same}

-- the low bits of two numbers that make up a multiple of m, less 1
complements : (m x y q : ℕ) → 0 < m → x + y + 1 ≡ q * m → x % m + y % m + 1 ≡ m
complements m x y q p e = go (dec_le q (x / m + y / m)) (dec_le (x / m + y / m + 2) q)
  where
    go : Dec (q ≤ x / m + y / m) → Dec (x / m + y / m + 2 ≤ q) → x % m + y % m + 1 ≡ m
    go (yes h) d =
        let s = div-add-mod' x m in
        let t = div-add-mod' y m in
        let g : q * m ≤ (x / m + y / m) * m = mul-le-mul_right m h in
        omega arith
    go (no n) (yes h) =
        let s = div-add-mod' x m in
        let t = div-add-mod' y m in
        let l = mod-lt x p in
        let k = mod-lt y p in
        let g : (x / m + y / m + 2) * m ≤ q * m = mul-le-mul_right m h in
        omega arith
    go (no n) (no d) =
        let s = div-add-mod' x m in
        let t = div-add-mod' y m in
        let f : q ≡ x / m + y / m + 1 = omega (arith, n, d) in
        let g : q * m ≡ (x / m + y / m + 1) * m = ap (λ (z : ℕ). z * m) f in
        omega arith

-- a word's complement, cut to w bits
pub complement_is : (w b : ℕ) → w ≤ 64 → b < 2 ^ 64 → (18446744073709551615 - b) % 2 ^ w + b % 2 ^ w + 1 ≡ 2 ^ w
complement_is w b within fits =
    complements (2 ^ w) (18446744073709551615 - b) b (2 ^ (64 - w)) (pow_pos w) (omega (arith, word_by w within))

-- the other carry
other_carry : (c : Bool) → bool_bit (not c) + bool_bit c ≡ 1
other_carry true = refl
other_carry false = refl

-- ---- x less b and c is x and the complement y of b, and the other carry d
module _ (w x b y c d : ℕ) (some : 1 ≤ w) (e : y + b + 1 ≡ 2 ^ w) (one : d + c ≡ 1) where
  value_same : x + y + d ≡ x + 2 ^ w - (b + c)
  value_same = omega arith

  borrows : not (leb (2 ^ w) (x + y + d)) ≡ ltb x (b + c)
  borrows = go (dec_lt x (b + c))
    where
      go : Dec (x < b + c) → not (leb (2 ^ w) (x + y + d)) ≡ ltb x (b + c)
      go (yes h) = ap not (lt-leb (2 ^ w) (x + y + d) (omega arith)) ∙ sym (lt-ltb x (b + c) h)
      go (no h) = ap not (le-leb (2 ^ w) (x + y + d) (omega (arith, h))) ∙ sym (le-ltb x (b + c) (omega (arith, h)))

  -- one of the two is below 2^(w - 1), and the other is not
  excesses : excess w y + excess w b ≡ 2 ^ w
  excesses = go (dec_lt b (2 ^ (w - 1)))
    where
      t : 2 ^ w ≡ 2 * 2 ^ (w - 1)
      t = twice w some

      go : Dec (b < 2 ^ (w - 1)) → excess w y + excess w b ≡ 2 ^ w
      go (yes h) = rw (lt-ltb b (2 ^ (w - 1)) h, le-ltb y (2 ^ (w - 1)) (omega (arith, t))) (omega arith)
      go (no h) = rw (le-ltb b (2 ^ (w - 1)) (omega (arith, h)), lt-ltb y (2 ^ (w - 1)) (omega (arith, t, h))) (omega arith)

  signed_same : signed w x +ℤ signed w y +ℤ pos d ≡ signed w x -ℤ signed w b -ℤ pos c
  signed_same =
      +ℤ_assoc (signed w x) (signed w y) (pos d)
      ∙ ap (λ (z : ℤ). signed w x +ℤ z)
      (up ∙ gap_same (y + d) (excess w y + 0) (excess w b + 0) (b + c) (omega (arith, excesses)) ∙ sym down)
      ∙ sym (+ℤ_assoc (signed w x) (neg_ℤ (signed w b)) (neg_ℤ (pos c)))
    where
      up : signed w y +ℤ pos d ≡ gap (y + d) (excess w y + 0)
      up = ap₂ (λ (a z : ℤ). a +ℤ z) (signed_gap w y) (gap_none d) ∙ gap_add y (excess w y) d 0

      down : neg_ℤ (signed w b) +ℤ neg_ℤ (pos c) ≡ gap (excess w b + 0) (b + c)
      down =
          ap₂ (λ (a z : ℤ). a +ℤ z) (ap neg_ℤ (signed_gap w b) ∙ gap_turn b (excess w b)) (ap neg_ℤ (gap_none c) ∙ gap_turn c 0)
          ∙ gap_add (excess w b) b 0 c

-- ---- what `minus` asks
pub difference_is : (w x b y : ℕ) (c : Bool) → 1 ≤ w → y + b + 1 ≡ 2 ^ w → ◌≡◌ {A = Sum} (record {
  value = (added w x y (bool_bit (not c))).value;
  carry = not (added w x y (bool_bit (not c))).carry;
  overflow = (added w x y (bool_bit (not c))).overflow;
}) (subtracted w x b (bool_bit c))
unfolding added subtracted
difference_is w x b y c some e =
    let d = bool_bit (not c) in
    let one = other_carry c in
    rw (
      borrows w x b y (bool_bit c) d some e one,
      signed_same w x b y (bool_bit c) d some e one,
      value_same w x b y (bool_bit c) d some e one,
    )
