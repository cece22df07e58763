-- An arguments record of its parts.
use Rattle.std.specs.Prelude.{Option, Bool, ℕ}
use Rattle.instruction_set.specs.declared.InstructionArgument.{InstructionArgument}
use Rattle.instruction_set.specs.declared.ArgumentSize.{ArgumentSize}
use Rattle.instruction_set.specs.declared.InstructionArguments.{InstructionArguments}

abbrev pub arguments_of : Option InstructionArgument → Option InstructionArgument → Option ℕ → Option ArgumentSize → Bool → Bool
    → InstructionArguments
arguments_of a b o s e n = record {
  first_argument = a;
  second_argument = b;
  opcode = o;
  explicit_size = s;
  repeat_equal = e;
  repeat_not_equal = n;
}
