-- Laws of the flags, once over the flag, from the law of fields: the one that is set reads back, every other bit of the word stays, and two
-- different flags may be set in either order. Assumes nothing.
use mathlib.Core.Bool.{Bool, true, false}
use mathlib.Core.Logic.{◌⊎◌}
use mathlib.Core.Path.{◌≡◌, refl, sym, ◌∙◌, ap}
use Prim.Native.Nat.{ℕ, zero, suc, ◌+◌, ◌^◌, ◌≤◌, ◌<◌}
use native.Mathlib.Omega.{arith}
use lib.Dec.{eqb}
use Rattle.utils.specs.Word.{cut, put}
use Rattle.utils.proofs.Field.{cut_lt, put_inside, put_outside, put_lt, put_same, put_again, put_swap}
use Rattle.instruction_set.specs.Flags.{bit_of}
use Rattle.instruction_set.specs.declared.Flags.{Flags}
use Rattle.instruction_set.proofs.Bounds.{bit_below}
use Rattle.fields.specs.FlagBits.{bool_bit, bit_set, flag_of, put_flag}

bit_back : (b : Bool) → eqb (cut (bool_bit b) 0 1) 1 ≡ b
unfolding cut
bit_back true = refl
bit_back false = refl

module _ (x : ℕ) (f : Flags) (b : Bool) where
  pub flag_back : flag_of (put_flag x f b) f ≡ b
  unfolding bit_set put_flag
  flag_back =
      let e : bit_of f ≡ bit_of f + 0 = omega arith in
      ap (λ (k : ℕ). eqb (cut (put x (bit_of f) 1 (bool_bit b)) k 1) 1) e
      ∙ ap (λ (z : ℕ). eqb z 1) (put_inside x (bit_of f) 1 (bool_bit b) 0 1 (omega arith)) ∙ bit_back b

  -- any n bits from bit k on that the flag's bit is not among
  pub bits_kept : (k n : ℕ) → (k + n ≤ bit_of f) ⊎ (bit_of f + 1 ≤ k) → cut (put_flag x f b) k n ≡ cut x k n
  unfolding put_flag
  bits_kept k n h = put_outside x (bit_of f) 1 (bool_bit b) k n h

  pub flag_word : x < 2 ^ 64 → put_flag x f b < 2 ^ 64
  unfolding put_flag
  flag_word h = put_lt x (bit_of f) 1 (bool_bit b) 64 (omega (arith, bit_below f)) h

-- the bits of two flags, one beside the other
abbrev pub Apart : Flags → Flags → Type 0
Apart f g = (bit_of g + 1 ≤ bit_of f) ⊎ (bit_of f + 1 ≤ bit_of g)

pub flag_other : (x : ℕ) (f g : Flags) (b : Bool) → Apart f g → flag_of (put_flag x f b) g ≡ flag_of x g
unfolding bit_set
flag_other x f g b h = ap (λ (y : ℕ). eqb y 1) (bits_kept x f b (bit_of g) 1 h)

-- a flag set as it stands
pub flag_stands : (x : ℕ) (f : Flags) (b : Bool) → flag_of x f ≡ b → put_flag x f b ≡ x
unfolding bit_set put_flag
flag_stands x f b e =
    ap (λ (c : Bool). put x (bit_of f) 1 (bool_bit c)) (sym e)
    ∙ ap (put x (bit_of f) 1) (bit_told (cut x (bit_of f) 1) (cut_lt x (bit_of f) 1)) ∙ put_same x (bit_of f) 1
  where
    bit_told : (c : ℕ) → c < 2 → bool_bit (eqb c 1) ≡ c
    bit_told zero h = refl
    bit_told (suc zero) h = refl
    bit_told (suc (suc c)) h = absurd (omega arith)

-- one flag set twice, and two flags in the other order
pub flag_again : (x : ℕ) (f : Flags) (a b : Bool) → put_flag (put_flag x f a) f b ≡ put_flag x f b
unfolding put_flag
flag_again x f a b = put_again x (bit_of f) 1 (bool_bit a) (bool_bit b)

pub flag_swap : (x : ℕ) (f g : Flags) (a b : Bool) → Apart f g → put_flag (put_flag x f a) g b ≡ put_flag (put_flag x g b) f a
unfolding put_flag
flag_swap x f g a b h = put_swap x (bit_of f) 1 (bool_bit a) (bit_of g) 1 (bool_bit b) h
