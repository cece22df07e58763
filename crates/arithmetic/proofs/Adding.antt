-- The sum of two numbers of w bits and a carry, as `plus` works it out, is the definition's: once over the width. In a module, x and y are
-- the numbers, c the carry, n is 2^(w - 1) and m is 2^w, of which only m = 2 n is used. Assumes nothing.
use Rattle.std.proofs.Common.{◌≡◌, ℕ, ◌+◌, ◌-◌, ◌*◌, ◌%◌, ◌^◌, ◌<◌, ◌≤◌, Bool, true, false, cond, not, ◌&&◌, ◌||◌, ltb, leb, ℤ, pos, ◌+ℤ◌}
use Rattle.std.proofs.Common.{◌-ℤ◌, neg_ℤ, sym, refl, ap, ◌∙◌, ap₂, mod-lt, mod-eq_of_lt, arith, pow_pos, le-ltb, lt-ltb, le-leb}
use native.Mathlib.Decide.{dec_le, dec_lt}
use Rattle.std.proofs.lemmas.Nat.{mod-mul-add}
use native.Mathlib.Nat.{mod-add-mod}
use borrow.Author.Tests.{lt-leb}
use lib.IntN.{+ℤ_idl}
use lib.Signed.{lt_z}
use Rattle.utils.specs.Word.{cut}
use Rattle.utils.proofs.Field.{cut_bottom}
use Rattle.utils.proofs.Powers.{twice}
use Rattle.instruction_set.specs.Sizes.{bytes_of}
use Rattle.instruction_set.specs.declared.ArgumentSize.{ArgumentSize}
use Rattle.fields.specs.FlagBits.{bool_bit, sign_in}
use Rattle.arithmetic.specs.Sums.{signed, outside, added}
use Rattle.arithmetic.specs.declared.Sum.{Sum}
use Rattle.arithmetic.proofs.Integers.{gap, gap_less, gap_add, gap_none, same_test}
use Rattle.arithmetic.proofs.Widths.{bits_some, bits_within, carry_below, cut_word, top_bit}

-- the rest of t, whatever is the quotient
pub rest_is : (m q v t : ℕ) → v < m → t ≡ q * m + v → t % m ≡ v
rest_is m q v t l e = rw e (mod-mul-add q m v l)

-- ---- what is outside the signed range, of a difference of two numbers
pub outside_gap : (w p q : ℕ) → outside w (gap p q) ≡ (ltb (p + 2 ^ (w - 1)) q || not (ltb p (2 ^ (w - 1) + q)))
unfolding outside
outside_gap w p q =
    ap₂ (λ (a b : Bool). a || not b)
    (ap (lt_z (gap p q)) (sym (+ℤ_idl (neg_ℤ (pos (2 ^ (w - 1)))))) ∙ gap_less p q 0 (2 ^ (w - 1))
    ∙ ap (ltb (p + 2 ^ (w - 1))) zero_more)
    (ap (lt_z (gap p q)) (gap_none (2 ^ (w - 1))) ∙ gap_less p q (2 ^ (w - 1)) 0
    ∙ ap (λ (k : ℕ). ltb k (2 ^ (w - 1) + q)) more_zero)
  where
    zero_more : 0 + q ≡ q
    zero_more = omega arith

    more_zero : p + 0 ≡ p
    more_zero = omega arith

-- the signed reading, as a difference: what is subtracted from x is 0 or 2^w
abbrev pub excess : ℕ → ℕ → ℕ
excess w x = cond (ltb x (2 ^ (w - 1))) 0 (2 ^ w)

pub signed_gap : (w x : ℕ) → signed w x ≡ gap x (excess w x)
unfolding signed
signed_gap w x = go (ltb x (2 ^ (w - 1)))
  where
    go : (b : Bool) → cond b (pos x) (pos x -ℤ pos (2 ^ w)) ≡ gap x (cond b 0 (2 ^ w))
    go true = gap_none x
    go false = refl

module _ (w x y c : ℕ) (some : 1 ≤ w) (xl : x < 2 ^ w) (yl : y < 2 ^ w) (bit : c < 2) where
  abbrev n : ℕ
  n = 2 ^ (w - 1)

  abbrev m : ℕ
  m = 2 ^ w

  -- the values without the carry, and with it
  abbrev partial : ℕ
  partial = (x + y) % m

  abbrev value : ℕ
  value = (partial + c) % m

  value_is : value ≡ (x + y + c) % m
  value_is = mod-add-mod (x + y) m c

  -- "the sum reaches 2^w": one of the two steps has passed it
  carry_is : (ltb partial x || ltb value partial) ≡ leb m (x + y + c)
  carry_is = go (dec_le m (x + y)) (dec_le m (x + y + c))
    where
      go : Dec (m ≤ x + y) → Dec (m ≤ x + y + c) → (ltb partial x || ltb value partial) ≡ leb m (x + y + c)
      go (yes h) d =
          let f : partial ≡ x + y - m = rest_is m 1 (x + y - m) (x + y) (omega arith) (omega arith) in
          rw (lt-ltb partial x (omega arith)) (sym (le-leb m (x + y + c) (omega arith)))
      go (no h) (yes k) =
          let p = pow_pos (w - 1) in
          let t = twice w some in
          let f : partial ≡ x + y = mod-eq_of_lt (omega (arith, h)) in
          let v : value ≡ x + y + c - m = value_is ∙ rest_is m 1 (x + y + c - m) (x + y + c) (omega (arith, h)) (omega arith) in
          rw (le-ltb partial x (omega arith), lt-ltb value partial (omega (arith, h))) (sym (le-leb m (x + y + c) k))
      go (no h) (no k) =
          let f : partial ≡ x + y = mod-eq_of_lt (omega (arith, h)) in
          let v : value ≡ x + y + c = value_is ∙ mod-eq_of_lt (omega (arith, k)) in
          rw (le-ltb partial x (omega arith), le-ltb value partial (omega arith)) (sym (lt-leb m (x + y + c) (omega (arith, k))))

  -- "the signed sum is outside its range": both numbers have one sign, and the sum has the other
  abbrev negative : ℕ → Bool
  negative v = not (ltb v n)

  abbrev turned : Bool
  turned = cond (negative x) (negative y && not (negative value)) (not (negative y) && negative value)

  signed_sum : signed w x +ℤ signed w y +ℤ pos c ≡ gap (x + y + c) (excess w x + excess w y)
  signed_sum =
      ap₂ (λ (a b : ℤ). a +ℤ b)
      (ap₂ (λ (a b : ℤ). a +ℤ b) (signed_gap w x) (signed_gap w y) ∙ gap_add x (excess w x) y (excess w y))
      (gap_none c)
      ∙ gap_add (x + y) (excess w x + excess w y) c 0
      ∙ ap (gap (x + y + c)) more_zero
    where
      more_zero : excess w x + excess w y + 0 ≡ excess w x + excess w y
      more_zero = omega arith

  overflow_is : turned ≡ outside w (signed w x +ℤ signed w y +ℤ pos c)
  overflow_is = go (dec_lt x n) (dec_lt y n) ∙ sym (ap (outside w) signed_sum ∙ outside_gap w (x + y + c) (excess w x + excess w y))
    where
      t : m ≡ 2 * n
      t = twice w some

      go : Dec (x < n) → Dec (y < n)
          → turned ≡ (ltb (x + y + c + n) (excess w x + excess w y) || not (ltb (x + y + c) (n + (excess w x + excess w y))))
      go (yes h) (yes k) =
          let v : value ≡ x + y + c = value_is ∙ mod-eq_of_lt (omega (arith, t)) in
          rw (lt-ltb x n h, lt-ltb y n k, le-ltb (x + y + c + n) 0 (omega arith), v)
          (ap (λ (j : ℕ). not (ltb (x + y + c) j)) (omega arith))
      go (yes h) (no k) =
          rw (lt-ltb x n h, le-ltb y n (omega (arith, k)))
          (sym (ap₂ (λ (a b : Bool). a || not b) (le-ltb (x + y + c + n) (0 + m) (omega (arith, t, k)))
          (lt-ltb (x + y + c) (n + (0 + m)) (omega arith))))
      go (no h) (yes k) =
          rw (le-ltb x n (omega (arith, h)), lt-ltb y n k)
          (sym (ap₂ (λ (a b : Bool). a || not b) (le-ltb (x + y + c + n) (m + 0) (omega (arith, t, h)))
          (lt-ltb (x + y + c) (n + (m + 0)) (omega arith))))
      go (no h) (no k) =
          let v : value ≡ x + y + c - m = value_is ∙ rest_is m 1 (x + y + c - m) (x + y + c) (omega arith) (omega (arith, t, h, k)) in
          rw (le-ltb x n (omega (arith, h)), le-ltb y n (omega (arith, k)), v, lt-ltb (x + y + c) (n + (m + m)) (omega arith))
          (both_ways (ltb (x + y + c - m) n) (ltb (x + y + c + n) (m + m))
          (same_test (x + y + c - m) n (x + y + c + n) (m + m) (λ l. omega (arith, t, h, k)) (λ l. omega (arith, t, h, k))))
        where
          both_ways : (a b : Bool) → a ≡ b → not (not a) ≡ (b || false)
          both_ways true b e = ap (λ (z : Bool). z || false) e
          both_ways false b e = ap (λ (z : Bool). z || false) e

  sum_is : ◌≡◌ {A = Sum} (record { value = value; carry = ltb partial x || ltb value partial; overflow = turned }) (added w x y c)
  unfolding added
  sum_is = rw (carry_is, overflow_is, value_is)

-- ---- at a size, what `plus` asks: x and y are cut to it, and so is each step's sum, which was subtracted modulo 2^64
pub plus_is : (z : ArgumentSize) (a b : ℕ) (c : Bool) →
    let w = 8 * bytes_of z in
    let x = cut a 0 w in
    let y = cut b 0 w in
    let partial = cut ((x + y) % 2 ^ 64) 0 w in
    let value = cut ((partial + bool_bit c) % 2 ^ 64) 0 w in
    let over = cond (sign_in z x) (sign_in z y && not (sign_in z value)) (not (sign_in z y) && sign_in z value) in
    ◌≡◌ {A = Sum} (record { value = value; carry = ltb partial x || ltb value partial; overflow = over })
    (added w (a % 2 ^ w) (b % 2 ^ w) (bool_bit c))
plus_is z a b c =
    let w = 8 * bytes_of z in
    let some = bits_some z in
    let within = bits_within z in
    let x = a % 2 ^ w in
    let y = b % 2 ^ w in
    let xl : x < 2 ^ w = mod-lt a (pow_pos w) in
    let yl : y < 2 ^ w = mod-lt b (pow_pos w) in
    let partial = (x + y) % 2 ^ w in
    let vl : (partial + bool_bit c) % 2 ^ w < 2 ^ w = mod-lt (partial + bool_bit c) (pow_pos w) in
    rw (
      cut_bottom a w,
      cut_bottom b w,
      cut_word (x + y) w within,
      cut_word (partial + bool_bit c) w within,
      top_bit w x some xl,
      top_bit w y some yl,
      top_bit w ((partial + bool_bit c) % 2 ^ w) some vl,
    )
    (sum_is w x y (bool_bit c) some xl yl (carry_below c))
