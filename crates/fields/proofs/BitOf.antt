-- One bit of a word, as the code reads and writes it: shifted down for a read; for a write the old bit goes out and the new one comes in.
-- From the exchange law of fields. Assumes nothing.
use mathlib.Core.Path.{◌≡◌, ◌∙◌}
use Prim.Native.Nat.{ℕ, ◌+◌, ◌-◌, ◌*◌, ◌/◌, ◌%◌, ◌^◌, ◌<◌, ◌≤◌}
use native.Mathlib.Nat.{mod-le, mod-eq_of_lt, mul-le-mul_right}
use native.Mathlib.Omega.{arith}
use lib.Pow.{pow-lt, split}
use Rattle.utils.specs.Word.{cut, put}
use Rattle.utils.proofs.Field.{put_exchange, put_lt}

module _ (x k : ℕ) (h : k < 64) (l : x < 2 ^ 64) where
  -- the bit at its number
  bit_le : cut x k 1 * 2 ^ k ≤ x
  unfolding cut
  bit_le =
      let m : x / 2 ^ k % 2 * 2 ^ k ≤ x / 2 ^ k * 2 ^ k = mul-le-mul_right (2 ^ k) (mod-le (x / 2 ^ k) 2) in
      omega (arith, split x k)

  pub shifted : x / 2 ^ k % 2 * 2 ^ k % 18446744073709551616 ≡ cut x k 1 * 2 ^ k
  unfolding cut
  shifted = mod-eq_of_lt (omega (arith, bit_le))

  pub shifted_le : x / 2 ^ k % 2 * 2 ^ k % 18446744073709551616 ≤ x
  shifted_le = rw shifted bit_le

  pub bit_out : x - x / 2 ^ k % 2 * 2 ^ k % 18446744073709551616 ≡ put x k 1 0
  bit_out = rw shifted (omega (arith, bit_le, put_exchange x k 1 0))

  pub bit_in : x - x / 2 ^ k % 2 * 2 ^ k % 18446744073709551616 + 1 * 2 ^ k % 18446744073709551616 ≡ put x k 1 1
  bit_in =
      let p : 2 ^ k < 2 ^ 64 = pow-lt h in
      let e : 1 * 2 ^ k % 18446744073709551616 ≡ 2 ^ k = mod-eq_of_lt (omega arith) ∙ (omega arith) in
      rw (shifted, e) (omega (arith, bit_le, put_exchange x k 1 1))

  pub put_fits : (v : ℕ) → put x k 1 v < 2 ^ 64
  put_fits v = put_lt x k 1 v 64 (omega arith) l
