-- The examples of operands' texts (RULES 10.14), and the longest (RULES 6.9), computed. Assumes nothing.
use Rattle.std.specs.Prelude.{Some, None}
use mathlib.Core.Bool.{false}
use mathlib.Core.List.{[], ◌∷◌}
use mathlib.Core.Path.{◌≡◌, refl}
use lib.Count.{count_leading_zeros}
use lib.IntN.{pos, negsuc}
use Rattle.utils.specs.Word.{cut}
use Rattle.instruction_set.specs.declared.ArgumentSize.TheVariants.{Bit64, Bit8}
use Rattle.instruction_set.specs.declared.InstructionArgument.{InstructionArgument}
use Rattle.instruction_set.specs.declared.InstructionArgument.TheVariants.{Immediate, EffectiveAddress}
use Rattle.instruction_set.specs.declared.InstructionArguments.{InstructionArguments}
use Rattle.instruction_set.specs.declared.Register.TheVariants.{RBP, RCX, R10D, R11D}
use Rattle.text_pieces.specs.Ascii.{ascii}
use Rattle.text_pieces.specs.Hex.{hex_digits}
use Rattle.text_names.specs.Names.{name_of}
use Rattle.text.specs.Answers.{text_is, refused_with}
use Rattle.text.specs.Arguments.{operand_answer, arguments_text}
use Rattle.text.proofs.Longest.{length_of}

-- `-0x8(%rbp)`; -1 at Bit8 `$0xff`; `0x0(,%rcx,8)`; lowest displacement alone `-0x80000000`; and an index without a scale
pub examples : operand_answer Bit64 (EffectiveAddress (Some RBP) None None (negsuc 7))
    ∷ operand_answer Bit8 (Immediate 18446744073709551615)
    ∷ operand_answer Bit64 (EffectiveAddress None (Some RCX) (Some 8) (pos 0))
    ∷ operand_answer Bit64 (EffectiveAddress None None None (negsuc 2147483647))
    ∷ operand_answer Bit64 (EffectiveAddress None (Some RCX) None (pos 0))
    ∷ []
    ≡ text_is (ascii "-0x8(%rbp)")
    ∷ text_is (ascii "$0xff")
    ∷ text_is (ascii "0x0(,%rcx,8)")
    ∷ text_is (ascii "-0x80000000")
    ∷ refused_with 3
    ∷ []
unfolding cut count_leading_zeros hex_digits name_of
examples = refl

-- two operands of 28 bytes each
abbrev widest : InstructionArgument
widest = EffectiveAddress (Some R10D) (Some R11D) (Some 255) (negsuc 2147483647)

abbrev longest : InstructionArguments
longest = record {
  first_argument = Some widest;
  second_argument = Some widest;
  opcode = None;
  explicit_size = Some Bit64;
  repeat_equal = false;
  repeat_not_equal = false;
}

pub longest_arguments : length_of (arguments_text longest) ≡ 57
unfolding count_leading_zeros hex_digits name_of
longest_arguments = refl
