-- What may be amiss with an operand, by its kind and its parts alone (RULES 7.1, the first three).
use Rattle.std.specs.Prelude.{Bool, true, false, Option, Some, None}
use Rattle.instruction_set.specs.declared.InstructionArgument.{InstructionArgument}
use Rattle.instruction_set.specs.declared.InstructionArgument.TheVariants as arg

-- 1, where an address is asked of it: a register or an immediate has none (RULES 5.4)
abbrev pub no_address : InstructionArgument → Bool
no_address (arg.Register r) = true
no_address (arg.Immediate v) = true
no_address (arg.EffectiveAddress b i s d) = false

-- 2, where it is to be written (RULES 5.3)
abbrev pub is_immediate : InstructionArgument → Bool
is_immediate (arg.Register r) = false
is_immediate (arg.Immediate v) = true
is_immediate (arg.EffectiveAddress b i s d) = false

-- 3: its index has no scale; a scale without an index is not looked at (RULES 3.3)
abbrev pub lacks_scale : InstructionArgument → Bool
lacks_scale (arg.Register r) = false
lacks_scale (arg.Immediate v) = false
lacks_scale (arg.EffectiveAddress b None s d) = false
lacks_scale (arg.EffectiveAddress b (Some i) None d) = true
lacks_scale (arg.EffectiveAddress b (Some i) (Some s) d) = false

abbrev pub some_lacks_scale : Option InstructionArgument → Bool
some_lacks_scale None = false
some_lacks_scale (Some x) = lacks_scale x
