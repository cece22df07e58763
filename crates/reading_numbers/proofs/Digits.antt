-- A digit's byte and its value belong to each other; and what the tests of a first and of a further digit say. Assumes nothing.
use Rattle.std.proofs.lemmas.Bool.{cases_lt}
use Rattle.std.specs.Prelude.{Option, Some, None}
use mathlib.Core.Bool.{Bool, true, false, cond}
use mathlib.Core.Logic.{⊎_elim}
use mathlib.Core.Path.{◌≡◌, refl, ◌∙◌}
use Prim.Native.Nat.{ℕ, ◌+◌, ◌-◌, ◌*◌, ◌≤◌, ◌<◌}
use native.Mathlib.Nat.{le-mul_of_pos_right}
use native.Mathlib.Omega.{arith}
use borrow.Author.Tests.{lt-ltb, le-ltb, le-leb, lt-leb, ltb-true, leb-true}
use lib.Dec.{ltb, leb}
use Rattle.std.proofs.lemmas.Option.{none-some, same_Some}
use Rattle.text_pieces.specs.Hex.{hex_byte}
use Rattle.reading_numbers.specs.Numerals.{radix_of, least_of, most_of, digit_value, first_digit, next_digit}
use Rattle.reading_numbers.specs.declared.Numeral.{Numeral}
use Rattle.reading_numbers.proofs.Growth.{radix}

-- ---- by where the byte lies
pub value_low : (b : ℕ) → b < 48 → digit_value b ≡ 16
unfolding digit_value
value_low b h = rw (lt-ltb b 48 h)

pub value_decimal : (b : ℕ) → 48 ≤ b → b ≤ 57 → digit_value b ≡ b - 48
unfolding digit_value
value_decimal b l h = rw (le-ltb b 48 l, le-leb b 57 h)

pub value_between : (b : ℕ) → 57 < b → b < 97 → digit_value b ≡ 16
unfolding digit_value
value_between b l h = let k : 48 ≤ b = omega arith in rw (le-ltb b 48 k, lt-leb b 57 l, lt-ltb b 97 h)

pub value_letter : (b : ℕ) → 97 ≤ b → b ≤ 102 → digit_value b ≡ b - 87
unfolding digit_value
value_letter b l h =
    let k : 48 ≤ b = omega arith in
    let m : 57 < b = omega arith in
    rw (le-ltb b 48 k, lt-leb b 57 m, le-ltb b 97 l, le-leb b 102 h)

pub value_high : (b : ℕ) → 102 < b → digit_value b ≡ 16
unfolding digit_value
value_high b l =
    let k : 48 ≤ b = omega arith in
    let m : 57 < b = omega arith in
    let n : 97 ≤ b = omega arith in
    rw (le-ltb b 48 k, lt-leb b 57 m, le-ltb b 97 n, lt-leb b 102 l)

byte_decimal : (d : ℕ) → d < 10 → hex_byte d ≡ 48 + d
byte_decimal d h = rw (lt-ltb d 10 h)

byte_letter : (d : ℕ) → 10 ≤ d → hex_byte d ≡ 87 + d
byte_letter d h = rw (le-ltb d 10 h)

-- ---- there and back
pub byte_of_value : (b : ℕ) → digit_value b < 16 → hex_byte (digit_value b) ≡ b
byte_of_value b v =
    ⊎_elim
    (λ (l : b < 48). absurd (omega (arith, value_low b l)))
    (λ (g : 48 ≤ b).
    ⊎_elim
    (λ (l : b < 58).
    let k : b ≤ 57 = omega arith in
    let e = value_decimal b g k in
    byte_decimal (digit_value b) (omega arith) ∙ omega arith)
    (λ (g : 58 ≤ b).
    ⊎_elim
    (λ (l : b < 97). let k : 57 < b = omega arith in absurd (omega (arith, value_between b k l)))
    (λ (g : 97 ≤ b).
    ⊎_elim
    (λ (l : b < 103).
    let k : b ≤ 102 = omega arith in
    let e = value_letter b g k in
    byte_letter (digit_value b) (omega arith) ∙ omega arith)
    (λ (g : 103 ≤ b). let k : 102 < b = omega arith in absurd (omega (arith, value_high b k)))
    (cases_lt b 103))
    (cases_lt b 97))
    (cases_lt b 58))
    (cases_lt b 48)

pub value_of_byte : (d : ℕ) → d < 16 → digit_value (hex_byte d) ≡ d
value_of_byte d h =
    ⊎_elim
    (λ (l : d < 10). rw (byte_decimal d l) (value_decimal (48 + d) (omega arith) (omega arith) ∙ omega arith))
    (λ (g : 10 ≤ d). rw (byte_letter d g) (value_letter (87 + d) (omega arith) (omega arith) ∙ omega arith))
    (cases_lt d 10)

-- ---- what the tests say
-- a number lies within its bounds
pub record Within (n : Numeral) (v : ℕ) : Type 0 where
  pub least : least_of n ≤ v
  pub most : v ≤ most_of n

-- a test that leads to x, and otherwise to nothing
split : {A : Type 0} {v : ℕ} (t : Bool) (x : Option ℕ) → cond t x None ≡ Some v → (t ≡ true → x ≡ Some v → A) → A
split true x e go = go refl e
split {v = v} false x e go = absurd (none-some v e)

pub record First (n : Numeral) (b v : ℕ) : Type 0 where
  pub value : digit_value b ≡ v
  pub digit : v < radix_of n
  pub least : least_of n ≤ v

pub first_said : (n : Numeral) (b v : ℕ) → first_digit n b ≡ Some v → First n b v
unfolding first_digit
first_said n b v e =
    let d = digit_value b in
    split (ltb d (radix_of n)) (cond (leb (least_of n) d) (Some d) None) e
    (λ small e. split (leb (least_of n) d) (Some d) e
    (λ least e.
    let value : d ≡ v = same_Some d v e in
    record {
      value = value;
      digit = rw value at (ltb-true d (radix_of n) small);
      least = rw value at (leb-true (least_of n) d least);
    }))

pub first_is : {n : Numeral} {b v : ℕ} → First n b v → first_digit n b ≡ Some v
unfolding first_digit
first_is {n} {b} {v} f = rw (f.value, lt-ltb v (radix_of n) f.digit, le-leb (least_of n) v f.least)

pub record Next (n : Numeral) (v b w : ℕ) : Type 0 where
  pub value : v * radix_of n + digit_value b ≡ w
  pub digit : digit_value b < radix_of n
  pub lead : 0 < v
  pub most : w ≤ most_of n

pub next_said : (n : Numeral) (v b w : ℕ) → next_digit n v b ≡ Some w → Next n v b w
unfolding next_digit
next_said n v b w e =
    let d = digit_value b in
    let more = v * radix_of n + d in
    split (ltb d (radix_of n)) (cond (ltb 0 v) (cond (leb more (most_of n)) (Some more) None) None) e
    (λ small e. split (ltb 0 v) (cond (leb more (most_of n)) (Some more) None) e
    (λ lead e. split (leb more (most_of n)) (Some more) e
    (λ most e.
    let value : more ≡ w = same_Some more w e in
    record {
      value = value;
      digit = ltb-true d (radix_of n) small;
      lead = ltb-true 0 v lead;
      most = rw value at (leb-true more (most_of n) most);
    })))

pub next_is : {n : Numeral} {v b w : ℕ} → Next n v b w → next_digit n v b ≡ Some w
unfolding next_digit
next_is {n} {v} {b} {w} g =
    rw (lt-ltb (digit_value b) (radix_of n) g.digit, lt-ltb 0 v g.lead, g.value, le-leb w (most_of n) g.most)

-- what is read lies within its bounds
module _ {n : Numeral} {b v : ℕ} (f : First n b v) where
  pub first_within : Within n v
  first_within = record { least = f.least; most = omega (arith, f.digit, (radix n).within) }

module _ {n : Numeral} {v b w : ℕ} (g : Next n v b w) where
  pub next_within : least_of n ≤ v → Within n w
  next_within l =
      let grown : v ≤ v * radix_of n = le-mul_of_pos_right v (omega (arith, (radix n).some)) in
      record { least = omega (arith, l, g.value, grown); most = g.most }
