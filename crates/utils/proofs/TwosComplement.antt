-- A narrower signed number in 64 bits. Assumes nothing.
use Rattle.std.proofs.Common.{◌≡◌, ◌^◌, ◌≤◌, T, leb, ℤ, ◌∙◌, arith, leb→le, pow_mono, w64, SFits, to_z, of_z}
use mir.Syntax.{Width}
use mir.Val.{hbits}
use mir.ValLaws.{to_z-of_z}

-- a narrower number as a 64-bit one
pub widened : (w : Width) (z : ℤ) → SFits w z → T (leb (hbits w) 63) → SFits w64 (to_z w (of_z w z))
widened w z s t =
    let p : 2 ^ hbits w ≤ 2 ^ 63 = pow_mono (leb→le (hbits w) 63 t) in
    rw (to_z-of_z w z s) (record { sfits = omega (arith, s.sfits) })

pub through : (w : Width) (z : ℤ) (s : SFits w z) → T (leb (hbits w) 63) → to_z w64 (of_z w64 (to_z w (of_z w z))) ≡ z
through w z s t = to_z-of_z w64 (to_z w (of_z w z)) (widened w z s t) ∙ to_z-of_z w z s
