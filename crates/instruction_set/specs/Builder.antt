-- The builder of the Rust (RULES 5.5): each method gives one part, and a part that is given twice keeps the last.
use Rattle.std.specs.Prelude.{Bool, false, ℕ, Some, None}
use Rattle.instruction_set.specs.declared.ArgumentSize.{ArgumentSize}
use Rattle.instruction_set.specs.declared.InstructionArgument.{InstructionArgument}
use Rattle.instruction_set.specs.declared.InstructionArguments.{InstructionArguments}
use Rattle.instruction_set.specs.declared.InstructionArgumentsBuilder.{InstructionArgumentsBuilder}

-- the builder of a record, and the record that a builder is of
abbrev pub builder : InstructionArguments → InstructionArgumentsBuilder
builder x = record { arguments = x }

abbrev pub built : InstructionArgumentsBuilder → InstructionArguments
built b = b.arguments

-- nothing is given yet
abbrev pub new_builder : InstructionArgumentsBuilder
new_builder = builder (record {
  first_argument = None;
  second_argument = None;
  opcode = None;
  explicit_size = None;
  repeat_equal = false;
  repeat_not_equal = false;
})

module _ (b : InstructionArgumentsBuilder) where
  abbrev pub with_first : InstructionArgument → InstructionArgumentsBuilder
  with_first a = builder (record (built b) { first_argument = Some a })

  abbrev pub with_second : InstructionArgument → InstructionArgumentsBuilder
  with_second a = builder (record (built b) { second_argument = Some a })

  abbrev pub with_opcode : ℕ → InstructionArgumentsBuilder
  with_opcode o = builder (record (built b) { opcode = Some o })

  abbrev pub with_size : ArgumentSize → InstructionArgumentsBuilder
  with_size s = builder (record (built b) { explicit_size = Some s })

  abbrev pub with_repeat : Bool → Bool → InstructionArgumentsBuilder
  with_repeat e n = builder (record (built b) { repeat_equal = e; repeat_not_equal = n })
