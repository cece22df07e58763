-- The six flags (RULES 2.8): which bit of rflags each is, and its number, by which places, records and hosts name it.
use Rattle.std.specs.Prelude.{List, [], ◌∷◌, ℕ, Option, slice_get}
use Rattle.instruction_set.specs.declared.Flags.{Flags}
use Rattle.instruction_set.specs.declared.Flags.TheVariants.{Carry, Parity, Zero, Sign, Direction, Overflow}

-- the bit of rflags that a flag is
abbrev pub bit_of : Flags → ℕ
bit_of Carry = 0
bit_of Parity = 2
bit_of Zero = 6
bit_of Sign = 7
bit_of Direction = 10
bit_of Overflow = 11

-- in the order of their numbers
abbrev pub flags : List Flags
flags = Carry ∷ Parity ∷ Zero ∷ Sign ∷ Direction ∷ Overflow ∷ []

abbrev pub flag_number : Flags → ℕ
flag_number Carry = 0
flag_number Parity = 1
flag_number Zero = 2
flag_number Sign = 3
flag_number Direction = 4
flag_number Overflow = 5

-- the flag of a number, and none past 5 (`flag_back`: proofs/Numbered.antt)
unfoldable pub flag_at : ℕ → Option Flags
flag_at n = slice_get flags n
