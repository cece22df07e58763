-- The text of a number grows by one digit at its end. So every number within its bounds is reached from a first digit, digit by digit, and
-- the digits are its text (`by_digits`): one induction for hex and decimal. Assumes nothing.
use Rattle.std.proofs.lemmas.Bool.{cases_lt}
use mathlib.Core.List.{List, [], ◌∷◌, ◌++◌}
use mathlib.Core.Logic.{⊎_elim}
use mathlib.Core.Path.{◌≡◌, sym, ap, ap₂, ◌∙◌}
use Prim.Native.Nat.{ℕ, zero, suc, ◌+◌, ◌-◌, ◌*◌, ◌/◌, ◌%◌, ◌^◌, ◌≤◌, ◌<◌}
use native.Mathlib.Nat.{lt_of_lt_of_le, le_trans, lt_irrefl, div-one, mod-lt, div-add-mod', div-lt_self, le-div_iff_mul-le}
use native.Mathlib.Omega.{arith}
use borrow.Author.Tests.{lt-ltb, le-ltb}
use lib.Pow.{pow-add, pow_mono, shr-shr}
use Rattle.text_pieces.proofs.HexLaws.{digits_bounds, digits_under}
use Rattle.text_pieces.specs.Ascii.{digit, decimal_text}
use Rattle.text_pieces.specs.Hex.{hex_byte, hex_digits, digits_of, hex_text}
use Rattle.reading_numbers.specs.Numerals.{radix_of, least_of, most_of, digit_value}
use Rattle.reading_numbers.specs.declared.Numeral.{Numeral}
use Rattle.reading_numbers.specs.declared.Numeral.TheVariants.{Immediate, Above, Below, Scale}
use Rattle.reading_numbers.proofs.Growth.{radix}
use Rattle.reading_numbers.proofs.Digits.{byte_of_value, value_of_byte, Within, First, Next}

-- the digits of a number, as they are printed
abbrev pub numeral_text : Numeral → ℕ → List ℕ
numeral_text Immediate v = hex_text v
numeral_text Above v = hex_text v
numeral_text Below v = hex_text v
numeral_text Scale v = decimal_text v

-- ---- hex text
hex_first : (d : ℕ) → d < 16 → hex_text d ≡ hex_byte d ∷ []
unfolding hex_digits
hex_first d h =
    let most = digits_under 1 d (omega arith) (omega arith) h in
    let one : digits_of d ≡ 1 = omega arith in
    let low : d / 2 ^ (4 * 0) % 16 ≡ d = rw (div-one d) (omega arith) in
    rw one (ap (λ (k : ℕ). hex_byte k ∷ []) low)

digits_more : (n v d : ℕ) → d < 16 → hex_digits (suc n) (v * 16 + d) ≡ hex_digits n v ++ (hex_byte d ∷ [])
unfolding hex_digits
digits_more zero v d h =
    let low : (v * 16 + d) / 2 ^ (4 * 0) % 16 ≡ d = rw (div-one (v * 16 + d)) (omega arith) in
    ap (λ (k : ℕ). hex_byte k ∷ []) low
digits_more (suc n) v d h =
    let e : 4 * suc n ≡ 4 + 4 * n = omega arith in
    let low : (v * 16 + d) / 2 ^ 4 ≡ v = omega arith in
    let top : (v * 16 + d) / 2 ^ (4 * suc n) ≡ v / 2 ^ (4 * n) =
    rw e (sym (shr-shr (v * 16 + d) 4 (4 * n)) ∙ ap (λ (k : ℕ). k / 2 ^ (4 * n)) low) in
    ap₂ (λ (k : ℕ) (t : List ℕ). hex_byte (k % 16) ∷ t) top (digits_more n v d h)

count_more : (v d : ℕ) → 0 < v → d < 16 → v * 16 + d < 2 ^ 64 → digits_of (v * 16 + d) ≡ suc (digits_of v)
count_more v d p h w = between
  where
    m : ℕ
    m = digits_of v

    below : v < 2 ^ (4 * m)
    below = (digits_bounds v p (omega arith)).0

    above : 2 ^ (4 * (m - 1)) ≤ v
    above = (digits_bounds v p (omega arith)).1

    some : 1 ≤ m
    some = omega arith

    step : (k : ℕ) → 2 ^ (4 * suc k) ≡ 16 * 2 ^ (4 * k)
    step k = let e : 4 * suc k ≡ 4 + 4 * k = omega arith in rw e (pow-add 2 4 (4 * k))

    back : 2 ^ (4 * m) ≡ 16 * 2 ^ (4 * (m - 1))
    back = let e : m ≡ suc (m - 1) = omega (arith, some) in ap (λ (k : ℕ). 2 ^ (4 * k)) e ∙ step (m - 1)

    reaches : 2 ^ (4 * m) ≤ v * 16 + d
    reaches = omega (arith, back, above)

    within : v * 16 + d < 2 ^ (4 * suc m)
    within = omega (arith, step m, below, h)

    most : suc m ≤ 16
    most =
        ⊎_elim
        (λ (l : m < 16). l)
        (λ (g : 16 ≤ m).
        let far = pow_mono {i = 64} {j = 4 * m} (omega arith) in
        absurd (lt_irrefl (v * 16 + d) (lt_of_lt_of_le w (le_trans far reaches))))
        (cases_lt m 16)

    upper : digits_of (v * 16 + d) ≤ suc m
    upper = digits_under (suc m) (v * 16 + d) (omega arith) most within

    lower : suc m ≤ digits_of (v * 16 + d)
    lower =
        let fits = (digits_bounds (v * 16 + d) (omega arith) w).0 in
        ⊎_elim
        (λ (l : m < digits_of (v * 16 + d)). l)
        (λ (g : digits_of (v * 16 + d) ≤ m).
        let e : 4 * digits_of (v * 16 + d) ≤ 4 * m = omega arith in
        absurd (lt_irrefl (v * 16 + d) (lt_of_lt_of_le fits (le_trans (pow_mono e) reaches))))
        (cases_lt m (digits_of (v * 16 + d)))

    between : digits_of (v * 16 + d) ≡ suc m
    between = omega (arith, upper, lower)

hex_more : (v d : ℕ) → 0 < v → d < 16 → v * 16 + d < 2 ^ 64 → hex_text (v * 16 + d) ≡ hex_text v ++ (hex_byte d ∷ [])
hex_more v d p h w = rw (count_more v d p h w) (digits_more (digits_of v) v d h)

-- ---- decimal text, whose digits have the bytes of hex
decimal_byte : (d : ℕ) → d < 10 → hex_byte d ≡ digit d
decimal_byte d h = rw (lt-ltb d 10 h)

decimal_one : (x : ℕ) → x < 10 → decimal_text x ≡ digit x ∷ []
decimal_one x h = rw (lt-ltb x 10 h)

decimal_two : (x : ℕ) → 10 ≤ x → x < 100 → decimal_text x ≡ digit (x / 10) ∷ digit (x % 10) ∷ []
decimal_two x g h = rw (le-ltb x 10 g, lt-ltb x 100 h)

decimal_three : (x : ℕ) → 100 ≤ x → decimal_text x ≡ digit (x / 100) ∷ digit (x / 10 % 10) ∷ digit (x % 10) ∷ []
decimal_three x g = let k : 10 ≤ x = omega arith in rw (le-ltb x 10 k, le-ltb x 100 g)

decimal_more : (s d : ℕ) → 0 < s → d < 10 → s * 10 + d ≤ most_of Scale → decimal_text (s * 10 + d) ≡ decimal_text s ++ (digit d ∷ [])
decimal_more s d p h w =
    ⊎_elim
    (λ (l : s < 10).
    let tens : (s * 10 + d) / 10 ≡ s = omega arith in
    let ones : (s * 10 + d) % 10 ≡ d = omega arith in
    rw (decimal_two (s * 10 + d) (omega arith) (omega arith), decimal_one s l, tens, ones))
    (λ (g : 10 ≤ s).
    let hundreds : (s * 10 + d) / 100 ≡ s / 10 = omega arith in
    let tens : (s * 10 + d) / 10 % 10 ≡ s % 10 = omega arith in
    let ones : (s * 10 + d) % 10 ≡ d = omega arith in
    rw (decimal_three (s * 10 + d) (omega arith), decimal_two s g (omega arith), hundreds, tens, ones))
    (cases_lt s 10)

-- ---- of any number: its first digit, and one digit more
digit_text : (n : Numeral) (d : ℕ) → d < radix_of n → numeral_text n d ≡ hex_byte d ∷ []
digit_text Immediate d h = hex_first d h
digit_text Above d h = hex_first d h
digit_text Below d h = hex_first d h
digit_text Scale d h = decimal_one d h ∙ ap (λ (c : ℕ). c ∷ []) (sym (decimal_byte d h))

more_text : (n : Numeral) (v d : ℕ) → 0 < v → d < radix_of n → v * radix_of n + d ≤ most_of n →
    numeral_text n (v * radix_of n + d) ≡ numeral_text n v ++ (hex_byte d ∷ [])
more_text Immediate v d p h w = hex_more v d p h (omega arith)
more_text Above v d p h w = hex_more v d p h (omega arith)
more_text Below v d p h w = hex_more v d p h (omega arith)
more_text Scale v d p h w = decimal_more v d p h w ∙ ap (λ (c : ℕ). decimal_text v ++ (c ∷ [])) (sym (decimal_byte d h))

pub first_text_lem : {n : Numeral} {b v : ℕ} → First n b v → numeral_text n v ≡ b ∷ []
first_text_lem {n} {b} {v} f =
    let small : digit_value b < 16 = omega (arith, f.value, f.digit, (radix n).small) in
    digit_text n v f.digit ∙ ap (λ (c : ℕ). c ∷ []) (rw f.value at (byte_of_value b small))

pub next_text : {n : Numeral} {v b w : ℕ} → Next n v b w → numeral_text n w ≡ numeral_text n v ++ (b ∷ [])
next_text {n} {v} {b} {w} g =
    let small : digit_value b < 16 = omega (arith, g.digit, (radix n).small) in
    rw (sym g.value)
    (more_text n v (digit_value b) g.lead g.digit (rw g.value g.most)
    ∙ ap (λ (c : ℕ). numeral_text n v ++ (c ∷ [])) (byte_of_value b small))

at_most_one : (n : Numeral) → least_of n ≤ 1
at_most_one Immediate = omega arith
at_most_one Above = omega arith
at_most_one Below = omega arith
at_most_one Scale = omega arith

-- ---- every number within its bounds is reached
module _ (n : Numeral) (P : List ℕ → ℕ → Type 0)
    (first : (b v : ℕ) → First n b v → P (b ∷ []) v)
    (next : (t : List ℕ) (v b w : ℕ) → P t v → Next n v b w → P (t ++ (b ∷ [])) w) where
  one : (v : ℕ) → v < radix_of n → least_of n ≤ v → P (numeral_text n v) v
  one v h l =
      let small : v < 16 = omega (arith, (radix n).small) in
      let f : First n (hex_byte v) v = record { value = value_of_byte v small; digit = h; least = l } in
      rw (first_text_lem f) (first (hex_byte v) v f)

  more : (v w d : ℕ) → v * radix_of n + d ≡ w → 0 < v → d < radix_of n → w ≤ most_of n → P (numeral_text n v) v → P (numeral_text n w) w
  more v w d e lead h most p =
      let byte : digit_value (hex_byte d) ≡ d = value_of_byte d (omega (arith, (radix n).small)) in
      let g : Next n v (hex_byte d) w = record { value = rw byte e; digit = rw byte h; lead = lead; most = most } in
      rw (next_text g) (next (numeral_text n v) v (hex_byte d) w p g)

  -- by as many turns as k allows
  turns : (k v : ℕ) → v < k → least_of n ≤ v → v ≤ most_of n → P (numeral_text n v) v
  turns zero v h l most = absurd (omega arith)
  turns (suc k) v h l most =
      let some : 0 < radix_of n = omega (arith, (radix n).some) in
      ⊎_elim
      (λ (small : v < radix_of n). one v small l)
      (λ (large : radix_of n ≤ v).
      let lead : 1 ≤ v / radix_of n = (le-div_iff_mul-le some).1 (omega arith) in
      let less : v / radix_of n < v = div-lt_self (omega arith) (radix n).some in
      more (v / radix_of n) v (v % radix_of n) (div-add-mod' v (radix_of n)) lead (mod-lt v some) most
      (turns k (v / radix_of n) (omega arith) (omega (arith, at_most_one n)) (omega arith)))
      (cases_lt v (radix_of n))

  pub by_digits : (v : ℕ) → Within n v → P (numeral_text n v) v
  by_digits v w = turns (suc v) v (omega arith) w.least w.most
