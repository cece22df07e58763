-- What numbers mean: the 32 bits of a displacement read as signed are it again, and a scale is a byte. Assumes nothing.
use mathlib.Core.Bool.{Bool, true, false, cond}
use mathlib.Core.Path.{◌≡◌, refl}
use Prim.Native.Nat.{ℕ, suc, ◌-◌, ◌≤◌, ◌<◌}
use native.Mathlib.Omega.{arith}
use borrow.Author.Tests.{le-leb, leb-true, lt-ltb, ltb-true}
use lib.Dec.{leb, ltb}
use lib.IntN.{pos, negsuc}
use mir.Facts.{to_z_pos, to_z-neg}
use mir.Syntax.{w32}
use mir.Val.{to_z}
use Rattle.reading_numbers.specs.Numerals.{most_of, positive_bits, negative_bits, scale_of}
use Rattle.reading_numbers.specs.declared.Numeral.TheVariants.{Above, Below, Scale}

pub positive_means : (v : ℕ) → v ≤ most_of Above → to_z w32 (positive_bits v) ≡ pos v
unfolding positive_bits
positive_means v h = rw (le-leb v (most_of Above) h) (to_z_pos w32 {n = v} (omega arith))

pub negative_means : (v : ℕ) → suc v ≤ most_of Below → to_z w32 (negative_bits (suc v)) ≡ negsuc v
unfolding negative_bits
negative_means v h =
    let some : 0 < suc v = omega arith in
    rw (le-leb (suc v) (most_of Below) h, lt-ltb 0 (suc v) some) (to_z-neg w32 v (omega arith))

pub scale_means : (v : ℕ) → v ≤ most_of Scale → scale_of v ≡ v
unfolding scale_of
scale_means v h = rw (le-leb v (most_of Scale) h)

-- ---- they are 32 bits
pub positive_fits : (v : ℕ) → positive_bits v < 4294967296
unfolding positive_bits
positive_fits v = go (leb v (most_of Above)) refl
  where
    go : (t : Bool) → leb v (most_of Above) ≡ t → cond t v 0 < 4294967296
    go true e = omega (arith, leb-true v (most_of Above) e)
    go false e = omega arith

pub negative_fits : (v : ℕ) → negative_bits v < 4294967296
unfolding negative_bits
negative_fits v = go (leb v (most_of Below)) (ltb 0 v) refl
  where
    go : (t u : Bool) → ltb 0 v ≡ u → cond t (cond u (4294967296 - v) 0) 0 < 4294967296
    go true true e = omega (arith, ltb-true 0 v e)
    go true false e = omega arith
    go false u e = omega arith
