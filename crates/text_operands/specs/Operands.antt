-- The text of operands (RULES 6.3 to 6.6). An absent scale leaves nothing between its comma and the parenthesis here; the calls of text
-- then give 3 (`lacks_scale`, instruction_set/specs/Operands.antt).
use Rattle.std.specs.Prelude.{Option, Some, None, List, [], ◌++◌, ℕ, suc, ℤ, pos, negsuc}
use Rattle.instruction_set.specs.declared.Register.{Register}
use Rattle.instruction_set.specs.declared.ArgumentSize.{ArgumentSize}
use Rattle.instruction_set.specs.declared.InstructionArgument.{InstructionArgument}
use Rattle.instruction_set.specs.declared.InstructionArgument.TheVariants as arg
use Rattle.fields.specs.Parts.{low_bits}
use Rattle.text_pieces.specs.Ascii.{ascii, decimal_text}
use Rattle.text_pieces.specs.Hex.{hex_text}
use Rattle.text_names.specs.Names.{register_text}

-- the digits of the value cut to the size (RULES 6.4)
abbrev pub immediate_text : ArgumentSize → ℕ → List ℕ
immediate_text size v = ascii "$0x" ++ hex_text (low_bits size v)

-- digits after a minus if it is below 0; 0 is `0x0` (RULES 6.5)
abbrev pub displacement_text : ℤ → List ℕ
displacement_text (pos n) = ascii "0x" ++ hex_text n
displacement_text (negsuc n) = ascii "-0x" ++ hex_text (suc n)

abbrev pub base_text : Option Register → List ℕ
base_text None = []
base_text (Some b) = register_text b

-- a scale is in decimal (RULES 6.5)
abbrev pub scale_text : Option ℕ → List ℕ
scale_text None = []
scale_text (Some s) = decimal_text s

-- what stands after the displacement: nothing, `(base)`, `(base,index,scale)` or `(,index,scale)` (RULES 6.5)
abbrev pub address_text : Option Register → Option Register → Option ℕ → List ℕ
address_text None None s = []
address_text (Some b) None s = ascii "(" ++ register_text b ++ ascii ")"
address_text b (Some i) s = ascii "(" ++ base_text b ++ ascii "," ++ register_text i ++ ascii "," ++ scale_text s ++ ascii ")"

-- one operand at a size (RULES 6.3 to 6.5); a register and an address ignore it
abbrev pub operand_text : ArgumentSize → InstructionArgument → List ℕ
operand_text size (arg.Immediate v) = immediate_text size v
operand_text size (arg.Register r) = register_text r
operand_text size (arg.EffectiveAddress b i s d) = displacement_text d ++ address_text b i s

-- one operand, or two joined by a comma (RULES 6.6)
abbrev pub list_text : ArgumentSize → InstructionArgument → Option InstructionArgument → List ℕ
list_text size x None = operand_text size x
list_text size x (Some y) = operand_text size x ++ ascii "," ++ operand_text size y
