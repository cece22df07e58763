-- What reading and writing a part of a word is, by the table of registers (RULES 2.4, 2.5); a value of memory, and a value cut to a size.
use Rattle.std.specs.Prelude.{ℕ, ◌*◌, ◌%◌, ◌^◌}
use Rattle.utils.specs.Word.{cut, put, extend}
use Rattle.instruction_set.specs.Registers.{first_lane, lanes_read, lanes_rewritten}
use Rattle.instruction_set.specs.Sizes.{bytes_of}
use Rattle.instruction_set.specs.declared.ArgumentSize.{ArgumentSize}
use Rattle.instruction_set.specs.declared.ArgumentSize.TheVariants.{Bit64, Bit32, Bit16, Bit8}
use Rattle.instruction_set.specs.declared.Part.{Part}

-- the lanes of the part, sign-extended (RULES 2.4)
unfoldable pub read_of : Part → ℕ → ℕ
read_of p x = extend (8 * lanes_read p) (cut x (8 * first_lane p) (8 * lanes_read p))

-- the lanes that are rewritten come from as many low lanes of v as the part has (RULES 2.5), with zeros above those
unfoldable pub write_of : Part → ℕ → ℕ → ℕ
write_of p x v = put x (8 * first_lane p) (8 * lanes_rewritten p) (v % 2 ^ (8 * lanes_read p))

-- x is the number that the bytes are, low byte first; Bit8 has zeros above it, Bit16 and Bit32 their sign (RULES 4.2)
abbrev pub memory_value : ArgumentSize → ℕ → ℕ
memory_value Bit64 x = x
memory_value Bit32 x = extend 32 x
memory_value Bit16 x = extend 16 x
memory_value Bit8 x = x % 2 ^ 8

-- a value's low bits, as many as the size has (RULES 1.6)
abbrev pub low_bits : ArgumentSize → ℕ → ℕ
low_bits s v = cut v 0 (8 * bytes_of s)
