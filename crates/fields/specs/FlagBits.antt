-- The flags as bits of a word (RULES 2.8, 2.9), what `compute_flags` looks at in a result (RULES 2.10), and its sized form (RULES 2.11).
use Rattle.std.specs.Prelude.{Bool, true, false, ℕ, ◌-◌, ◌*◌, ◌%◌, ◌^◌, eqb}
use Rattle.std.specs.Int.Count.{ones}
use Rattle.utils.specs.Word.{cut, put}
use Rattle.instruction_set.specs.Flags.{bit_of}
use Rattle.instruction_set.specs.Sizes.{bytes_of}
use Rattle.instruction_set.specs.declared.ArgumentSize.{ArgumentSize}
use Rattle.instruction_set.specs.declared.Flags.{Flags}
use Rattle.instruction_set.specs.declared.Flags.TheVariants.{Parity, Zero, Sign}
use Rattle.fields.specs.Parts.{low_bits}

-- bit k of a word
unfoldable pub bit_set : ℕ → ℕ → Bool
bit_set k x = eqb (cut x k 1) 1

abbrev pub bool_bit : Bool → ℕ
bool_bit true = 1
bool_bit false = 0

-- whether a flag is set (RULES 2.9)
abbrev pub flag_of : ℕ → Flags → Bool
flag_of x f = bit_set (bit_of f) x

-- one bit is rewritten (RULES 2.9)
unfoldable pub put_flag : ℕ → Flags → Bool → ℕ
put_flag x f b = put x (bit_of f) 1 (bool_bit b)

-- Sign is the top bit of the size (RULES 2.10)
abbrev pub sign_in : ArgumentSize → ℕ → Bool
sign_in s x = bit_set (8 * bytes_of s - 1) x

-- Parity: the ones of the low byte are even in number (RULES 2.10)
unfoldable pub even_ones : ℕ → Bool
even_ones x = eqb (ones (x % 2 ^ 8) % 2) 0

-- rflags after a result: Zero as told, Sign and Parity of the result; other bits of rflags stay
abbrev pub result_flags : ℕ → Bool → ℕ → ArgumentSize → ℕ
result_flags x b v s = put_flag (put_flag (put_flag x Zero b) Sign (sign_in s v)) Parity (even_ones v)

-- Zero where all 64 bits are 0, whatever the size (RULES 2.10)
abbrev pub computed_flags : ℕ → ℕ → ArgumentSize → ℕ
computed_flags x v s = result_flags x (eqb v 0) v s

-- Zero, as Sign, of the bits of the size (RULES 2.11)
abbrev pub sized_flags : ℕ → ℕ → ArgumentSize → ℕ
sized_flags x v s = result_flags x (eqb (low_bits s v) 0) v s
