-- Add, add with carry, subtract, subtract with borrow and compare (RULES 2.12 to 2.14), by the rules of the manual, over the width w of
-- the size. No number is cut before it is compared: the sum of two numbers of w bits may have w + 1, and b + c may be 2^w.
use Rattle.std.specs.Prelude.{ℕ, ◌+◌, ◌-◌, ◌*◌, ◌%◌, ◌^◌, Bool, true, false, cond, not, ◌||◌, ℤ, pos, ◌+ℤ◌, ◌-ℤ◌, neg_ℤ, ◌==◌, int_lt}
use Rattle.std.specs.Prelude.{nat_le, nat_lt}
use Rattle.utils.specs.Word.{extend}
use Rattle.instruction_set.specs.Sizes.{bytes_of}
use Rattle.instruction_set.specs.declared.ArgumentSize.{ArgumentSize}
use Rattle.instruction_set.specs.declared.Flags.TheVariants.{Carry, Parity, Zero, Sign, Overflow}
use Rattle.fields.specs.FlagBits.{bool_bit, flag_of, put_flag, sign_in, even_ones}
use Rattle.arithmetic.specs.declared.Computed.{Computed}
use Rattle.arithmetic.specs.declared.Operation.{Operation}
use Rattle.arithmetic.specs.declared.Operation.TheVariants.{Add, AddWithCarry, Subtract, SubtractWithBorrow, Compare}
use Rattle.arithmetic.specs.declared.Sum.{Sum}

-- the signed reading of a number of w bits: x below 2^(w - 1), and x - 2^w from there on
unfoldable pub signed : ℕ → ℕ → ℤ
signed w x = cond (nat_lt x (2 ^ (w - 1))) (pos x) (pos x -ℤ pos (2 ^ w))

-- what w bits can't hold as a signed number: below -2^(w - 1), or 2^(w - 1) or more
unfoldable pub outside : ℕ → ℤ → Bool
outside w z = int_lt z (neg_ℤ (pos (2 ^ (w - 1)))) || not (int_lt z (pos (2 ^ (w - 1))))

-- ---- a + b + c, of two numbers of w bits (RULES 2.13). Carry: the sum reaches 2^w; Overflow: the signed sum is outside its range
unfoldable pub added : ℕ → ℕ → ℕ → ℕ → Sum
added w a b c = record {
  value = (a + b + c) % 2 ^ w;
  carry = nat_le (2 ^ w) (a + b + c);
  overflow = outside w (signed w a +ℤ signed w b +ℤ pos c);
}

-- ---- a - (b + c) modulo 2^w, of two numbers of w bits (RULES 2.13). Carry: a is below b + c; Overflow: the signed difference is outside
-- its range
unfoldable pub subtracted : ℕ → ℕ → ℕ → ℕ → Sum
subtracted w a b c = record {
  value = (a + 2 ^ w - (b + c)) % 2 ^ w;
  carry = nat_lt a (b + c);
  overflow = outside w (signed w a -ℤ signed w b -ℤ pos c);
}

-- the Carry that an operation takes: that of rflags where it is with carry or borrow, else none (RULES 2.12)
abbrev pub carry_taken : Operation → Bool → Bool
carry_taken Add c = false
carry_taken AddWithCarry c = c
carry_taken Subtract c = false
carry_taken SubtractWithBorrow c = c
carry_taken Compare c = false

-- whether it answers a value: compare does not (RULES 2.14)
abbrev pub gives_value : Operation → Bool
gives_value Add = true
gives_value AddWithCarry = true
gives_value Subtract = true
gives_value SubtractWithBorrow = true
gives_value Compare = false

-- compare is a subtraction (RULES 2.13)
abbrev pub is_difference : Operation → Bool
is_difference Add = false
is_difference AddWithCarry = false
is_difference Subtract = true
is_difference SubtractWithBorrow = true
is_difference Compare = true

-- the sum or difference that an operation works out of two numbers of w bits and the carry that it takes (RULES 2.13)
unfoldable pub worked_of : Operation → ℕ → ℕ → ℕ → Bool → Sum
worked_of o w a b c = cond (is_difference o) (subtracted w a b (bool_bit c)) (added w a b (bool_bit c))

-- the five flags (RULES 2.13): Carry and Overflow of the sum, Parity of its low byte, Zero and Sign of it at the size. Direction stays,
-- and every other bit of rflags (RULES 2.14)
unfoldable pub flags_of : ℕ → ArgumentSize → Sum → ℕ
flags_of x s r =
    let p = put_flag (put_flag x Carry r.carry) Parity (even_ones r.value) in
    put_flag (put_flag (put_flag p Zero (r.value == 0)) Sign (sign_in s r.value)) Overflow r.overflow

-- what an operation works out of rflags x and two values, each cut to the size (RULES 2.12)
abbrev pub worked_at : ℕ → Operation → ArgumentSize → ℕ → ℕ → Sum
worked_at x o s a b = let w = 8 * bytes_of s in worked_of o w (a % 2 ^ w) (b % 2 ^ w) (carry_taken o (flag_of x Carry))

-- the answer is the result, sign-extended from the size (RULES 2.14)
unfoldable pub computed_of : ℕ → Operation → ArgumentSize → ℕ → ℕ → Computed
computed_of x o s a b =
    let r = worked_at x o s a b in
    record { rflags = flags_of x s r; value = extend (8 * bytes_of s) r.value }
