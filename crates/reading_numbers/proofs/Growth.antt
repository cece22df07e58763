-- The radix and the bound of a number: either fits 64 bits; and the bound by parts that cannot wrap, where a number goes on with a digit if
-- it is at most what the digit leaves, by the radix. Assumes nothing.
use Prim.Native.Nat.{ℕ, ◌+◌, ◌-◌, ◌*◌, ◌/◌, ◌≤◌, ◌<◌}
use native.Mathlib.Nat.{div-lt_iff_lt-mul, le-div_iff_mul-le}
use native.Mathlib.Omega.{arith}
use Rattle.reading_numbers.specs.Numerals.{radix_of, most_of}
use Rattle.reading_numbers.specs.declared.Numeral.{Numeral}
use Rattle.reading_numbers.specs.declared.Numeral.TheVariants.{Immediate, Above, Below, Scale}

pub record Radix (n : Numeral) : Type 0 where
  pub some : 1 < radix_of n
  pub small : radix_of n ≤ 16
  pub within : radix_of n ≤ most_of n
  pub fits : most_of n < 18446744073709551616

pub radix : (n : Numeral) → Radix n
radix Immediate = record { some = omega arith; small = omega arith; within = omega arith; fits = omega arith }
radix Above = record { some = omega arith; small = omega arith; within = omega arith; fits = omega arith }
radix Below = record { some = omega arith; small = omega arith; within = omega arith; fits = omega arith }
radix Scale = record { some = omega arith; small = omega arith; within = omega arith; fits = omega arith }

module _ (n : Numeral) (v d : ℕ) (digit : d < radix_of n) where
  pub digit_within : d ≤ most_of n
  digit_within = omega (arith, (radix n).within)

  pub past : (most_of n - d) / radix_of n < v → most_of n < v * radix_of n + d
  past h =
      let some : 0 < radix_of n = omega (arith, (radix n).some) in
      let l : most_of n - d < v * radix_of n = (div-lt_iff_lt-mul some).0 h in
      omega (arith, l, digit_within)

  pub not_past : v ≤ (most_of n - d) / radix_of n → v * radix_of n + d ≤ most_of n
  not_past h =
      let some : 0 < radix_of n = omega (arith, (radix n).some) in
      let l : v * radix_of n ≤ most_of n - d = (le-div_iff_mul-le some).0 h in
      omega (arith, l, digit_within)
