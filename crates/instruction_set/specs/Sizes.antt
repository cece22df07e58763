-- Sizes of operands and of registers (RULES 1.6, 2.6).
use Rattle.std.specs.Prelude.{ℕ}
use Rattle.instruction_set.specs.Registers.{part_of}
use Rattle.instruction_set.specs.declared.ArgumentSize.{ArgumentSize}
use Rattle.instruction_set.specs.declared.ArgumentSize.TheVariants.{Bit64, Bit32, Bit16, Bit8}
use Rattle.instruction_set.specs.declared.Part.{Part}
use Rattle.instruction_set.specs.declared.Part.TheVariants.{Whole, Low32, Low16, Low8, High8, Nothing}
use Rattle.instruction_set.specs.declared.Register.{Register}

-- how many bytes a size has (RULES 1.6)
abbrev pub bytes_of : ArgumentSize → ℕ
bytes_of Bit64 = 8
bytes_of Bit32 = 4
bytes_of Bit16 = 2
bytes_of Bit8 = 1

-- what `get_register_size` gives; of a segment Bit16 (RULES 2.6)
abbrev pub size_of_part : Part → ArgumentSize
size_of_part Whole = Bit64
size_of_part Low32 = Bit32
size_of_part Low16 = Bit16
size_of_part Low8 = Bit8
size_of_part High8 = Bit8
size_of_part Nothing = Bit16

abbrev pub register_size : Register → ArgumentSize
register_size r = size_of_part (part_of r)
