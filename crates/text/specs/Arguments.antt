-- What is told of operands and of the arguments record: the text, or a refusal instead (RULES 6.3 to 6.6, 7.3).
use Rattle.std.specs.Prelude.{Option, Some, None, Bool, true, false, []}
use Rattle.utils.specs.Outcome.{Outcome, on_value}
use Rattle.instruction_set.specs.Arguments.{selected_size}
use Rattle.instruction_set.specs.Operands.{lacks_scale, some_lacks_scale}
use Rattle.instruction_set.specs.declared.ArgumentSize.{ArgumentSize}
use Rattle.instruction_set.specs.declared.InstructionArgument.{InstructionArgument}
use Rattle.instruction_set.specs.declared.InstructionArguments.{InstructionArguments}
use Rattle.text_operands.specs.Operands.{operand_text, list_text}
use Rattle.text.specs.Answers.{TextOrRefusal, text_is, refused_with}

-- 3: an index without a scale is to be printed (RULES 3.3)
abbrev pub unless3 : Bool → TextOrRefusal → TextOrRefusal
unless3 true o = refused_with 3
unless3 false o = o

abbrev pub operand_answer : ArgumentSize → InstructionArgument → TextOrRefusal
operand_answer size x = unless3 (lacks_scale x) (text_is (operand_text size x))

abbrev pub list_answer : ArgumentSize → InstructionArgument → Option InstructionArgument → TextOrRefusal
list_answer size x y = unless3 (lacks_scale x) (unless3 (some_lacks_scale y) (text_is (list_text size x y)))

-- at the size that is selected, with its refusals 9 and 8 (RULES 5.6)
abbrev pub at_size : Outcome ArgumentSize → (ArgumentSize → TextOrRefusal) → TextOrRefusal
at_size o f = on_value o f (refused_with o.number)

-- no operand gives empty text; a second without a first is refused with 9 (RULES 6.6)
abbrev pub arguments_answer : Option InstructionArgument → Option InstructionArgument → Outcome ArgumentSize → TextOrRefusal
arguments_answer None None o = text_is []
arguments_answer None (Some y) o = refused_with 9
arguments_answer (Some x) y o = at_size o (λ s. list_answer s x y)

-- so 9, 8, 3 are given in this order, and 7 after them (RULES 7.3)
abbrev pub arguments_text : InstructionArguments → TextOrRefusal
arguments_text a = arguments_answer a.first_argument a.second_argument (selected_size a)
