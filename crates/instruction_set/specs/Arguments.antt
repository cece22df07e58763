-- What the calls on an arguments record answer, and in which order they refuse (RULES 5.6 to 5.8, 7.3).
use Rattle.std.specs.Prelude.{[], ◌∷◌, ℕ, Option, Some, None, Result, Ok, Err}
use Rattle.utils.specs.Outcome.{Outcome, gives, refuses}
use Rattle.instruction_set.specs.Sizes.{register_size}
use Rattle.instruction_set.specs.declared.ArgumentSize.{ArgumentSize}
use Rattle.instruction_set.specs.declared.ArgumentSize.TheVariants.{Bit64}
use Rattle.instruction_set.specs.declared.InstructionArgument.{InstructionArgument}
use Rattle.instruction_set.specs.declared.InstructionArgument.TheVariants as arg
use Rattle.instruction_set.specs.declared.InstructionArguments.{InstructionArguments}
use Rattle.instruction_set.specs.declared.Refusal.{Refusal}
use Rattle.instruction_set.specs.declared.Refusal.TheVariants.{NoSize, NoFirst, SecondGiven, NoSecond}

-- ---- the number and values of each answer (RULES 9.3)
abbrev pub arguments_number : Refusal → ℕ
arguments_number NoSize = 8
arguments_number NoFirst = 9
arguments_number SecondGiven = 10
arguments_number NoSecond = 11

abbrev pub one_outcome : Result InstructionArgument Refusal → Outcome InstructionArgument
one_outcome (Ok a) = gives (a ∷ [])
one_outcome (Err r) = refuses (arguments_number r)

abbrev pub two_outcome : Result (InstructionArgument × InstructionArgument) Refusal → Outcome InstructionArgument
two_outcome (Ok (a, b)) = gives (a ∷ b ∷ [])
two_outcome (Err r) = refuses (arguments_number r)

abbrev pub size_outcome : Result ArgumentSize Refusal → Outcome ArgumentSize
size_outcome (Ok s) = gives (s ∷ [])
size_outcome (Err r) = refuses (arguments_number r)

-- ---- what the calls owe
-- one argument (RULES 5.7): 9 where the first is absent, then 10 where there is a second
abbrev pub one_of : Option InstructionArgument → Option InstructionArgument → Outcome InstructionArgument
one_of None b = refuses 9
one_of (Some a) None = gives (a ∷ [])
one_of (Some a) (Some b) = refuses 10

abbrev pub one_argument : InstructionArguments → Outcome InstructionArgument
one_argument x = one_of x.first_argument x.second_argument

-- two arguments (RULES 5.8): 9 where the first is absent, then 11 where the second is
abbrev pub two_of : Option InstructionArgument → Option InstructionArgument → Outcome InstructionArgument
two_of None b = refuses 9
two_of (Some a) None = refuses 11
two_of (Some a) (Some b) = gives (a ∷ b ∷ [])

abbrev pub two_arguments : InstructionArguments → Outcome InstructionArgument
two_arguments x = two_of x.first_argument x.second_argument

-- a register operand has its own size (RULES 2.6)
abbrev pub register_size_or : InstructionArgument → Outcome ArgumentSize → Outcome ArgumentSize
register_size_or (arg.Register r) o = gives (register_size r ∷ [])
register_size_or (arg.Immediate v) o = o
register_size_or (arg.EffectiveAddress b i s d) o = o

-- no explicit size and a first argument that is no register (RULES 5.6): 8 where the second is no register either; a single argument
-- counts as Bit64
abbrev pub second_size : Option InstructionArgument → Outcome ArgumentSize
second_size None = gives (Bit64 ∷ [])
second_size (Some b) = register_size_or b (refuses 8)

abbrev pub first_size : Option InstructionArgument → Option InstructionArgument → Outcome ArgumentSize
first_size None b = refuses 9
first_size (Some a) b = register_size_or a (second_size b)

-- an explicit size goes before all (RULES 5.6)
abbrev pub explicit_size : Option ArgumentSize → Outcome ArgumentSize → Outcome ArgumentSize
explicit_size (Some s) o = gives (s ∷ [])
explicit_size None o = o

abbrev pub selected_size : InstructionArguments → Outcome ArgumentSize
selected_size x = explicit_size x.explicit_size (first_size x.first_argument x.second_argument)
