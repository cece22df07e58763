-- The widths of the sizes: at least one bit and at most 64; a number's low w bits, and its top one. Assumes nothing.
use Rattle.std.proofs.Common.{◌≡◌, ℕ, zero, suc, ◌+◌, ◌-◌, ◌*◌, ◌/◌, ◌%◌, ◌^◌, ◌<◌, ◌≤◌, Bool, true, false, not, eqb, ltb, sym, ap, ◌∙◌}
use Rattle.std.proofs.Common.{mod-lt, div-lt_iff_lt-mul, div-add-mod', arith, pow_pos, le-ltb, lt-ltb}
use Rattle.utils.specs.Word.{cut}
use Rattle.utils.proofs.Field.{cut_mod, cut_bottom}
use Rattle.utils.proofs.Powers.{twice}
use Rattle.instruction_set.specs.Sizes.{bytes_of}
use Rattle.instruction_set.specs.declared.ArgumentSize.{ArgumentSize}
use Rattle.instruction_set.proofs.Bounds.{bytes_some, bytes_within}
use Rattle.fields.specs.FlagBits.{bool_bit, bit_set}

pub bits_some : (z : ArgumentSize) → 1 ≤ 8 * bytes_of z
bits_some z = omega (arith, bytes_some z)

pub bits_within : (z : ArgumentSize) → 8 * bytes_of z ≤ 64
bits_within z = omega (arith, bytes_within z)

pub carry_below : (b : Bool) → bool_bit b < 2
carry_below true = omega arith
carry_below false = omega arith

-- what `cut_to` leaves of a sum that was taken modulo 2^64
pub cut_word : (x w : ℕ) → w ≤ 64 → cut (x % 2 ^ 64) 0 w ≡ x % 2 ^ w
cut_word x w h = cut_mod x 64 0 w (omega (arith, h)) ∙ cut_bottom x w

-- the top bit is set from 2^(w - 1) on
pub top_bit : (w x : ℕ) → 1 ≤ w → x < 2 ^ w → bit_set (w - 1) x ≡ not (ltb x (2 ^ (w - 1)))
unfolding bit_set cut
top_bit w x some l = go (x / 2 ^ (w - 1)) below (div-add-mod' x (2 ^ (w - 1)))
  where
    pos : 0 < 2 ^ (w - 1)
    pos = pow_pos (w - 1)

    below : x / 2 ^ (w - 1) < 2
    below = let t = twice w some in (div-lt_iff_lt-mul pos).1 (omega arith)

    go : (q : ℕ) → q < 2 → q * 2 ^ (w - 1) + x % 2 ^ (w - 1) ≡ x → eqb (q % 2 ^ 1) 1 ≡ not (ltb x (2 ^ (w - 1)))
    go zero h e = let r = mod-lt x pos in sym (ap not (lt-ltb x (2 ^ (w - 1)) (omega arith)))
    go (suc zero) h e = sym (ap not (le-ltb x (2 ^ (w - 1)) (omega arith)))
    go (suc (suc q)) h e = absurd (omega arith)
