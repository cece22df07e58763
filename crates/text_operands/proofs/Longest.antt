-- How long the text of operands can be: a text's bound is the sum of those of its parts. A displacement is taken as one of 32 bits, which
-- every operand of the code has. Assumes nothing.
use Rattle.std.specs.Prelude.{Option, Some, None}
use mathlib.Core.List.{◌++◌}
use Prim.Native.Nat.{ℕ, suc, ◌*◌, ◌≤◌}
use native.Mathlib.Omega.{arith}
use lib.IntN.{ℤ, pos, negsuc}
use lib.ListN.{length, length-append}
use mir.Syntax.{w32}
use mir.Val.{SFits}
use Rattle.utils.specs.Word.{cut}
use Rattle.instruction_set.specs.Sizes.{bytes_of}
use Rattle.instruction_set.specs.declared.ArgumentSize.{ArgumentSize}
use Rattle.instruction_set.specs.declared.InstructionArgument.{InstructionArgument}
use Rattle.instruction_set.specs.declared.InstructionArgument.TheVariants as arg
use Rattle.instruction_set.specs.declared.Register.{Register}
use Rattle.text_pieces.proofs.Longest.{joined, hex_most, decimal_most}
use Rattle.text_pieces.specs.Ascii.{ascii}
use Rattle.text_pieces.specs.Hex.{hex_text}
use Rattle.text_names.proofs.Longest.{register_most}
use Rattle.text_names.specs.Names.{register_text}
use Rattle.text_operands.specs.Operands.{displacement_text, base_text, scale_text, address_text, operand_text, list_text}
use Rattle.text_operands.proofs.Displacement.{eight}

displacement_most : (d : ℤ) → SFits w32 d → length (displacement_text d) ≤ 11
displacement_most (pos n) f = let h : length (hex_text n) ≤ 8 = eight f in omega arith
displacement_most (negsuc n) f = let h : length (hex_text (suc n)) ≤ 8 = eight f in omega arith

base_most : (b : Option Register) → length (base_text b) ≤ 5
base_most None = omega arith
base_most (Some r) = register_most r

scale_most : (s : Option ℕ) → length (scale_text s) ≤ 3
scale_most None = omega arith
scale_most (Some x) = decimal_most x

full_most : (b : Option Register) (i : Register) (s : Option ℕ)
    → length (ascii "(" ++ base_text b ++ ascii "," ++ register_text i ++ ascii "," ++ scale_text s ++ ascii ")") ≤ 17
full_most b i s = simp length-append (omega (arith, base_most b, register_most i, scale_most s))

address_most : (b i : Option Register) (s : Option ℕ) → length (address_text b i s) ≤ 17
address_most None None s = omega arith
address_most (Some b) None s = simp length-append (omega (arith, register_most b))
address_most None (Some i) s = full_most None i s
address_most (Some b) (Some i) s = full_most (Some b) i s

-- the displacement is one of 32 bits
abbrev pub Narrow : InstructionArgument → Type 0
Narrow (arg.Immediate v) = Unit
Narrow (arg.Register r) = Unit
Narrow (arg.EffectiveAddress b i s d) = SFits w32 d

abbrev pub SomeNarrow : Option InstructionArgument → Type 0
SomeNarrow None = Unit
SomeNarrow (Some x) = Narrow x

pub operand_most : (size : ArgumentSize) (x : InstructionArgument) → Narrow x → length (operand_text size x) ≤ 28
operand_most size (arg.Immediate v) n = let h = hex_most (cut v 0 (8 * bytes_of size)) in omega arith
operand_most size (arg.Register r) n = let h = register_most r in omega arith
operand_most size (arg.EffectiveAddress b i s d) n =
    joined 11 17 (displacement_text d) (address_text b i s) (displacement_most d n) (address_most b i s)

pub list_most : (size : ArgumentSize) (x : InstructionArgument) (y : Option InstructionArgument) → Narrow x → SomeNarrow y
    → length (list_text size x y) ≤ 57
list_most size x None n m = let h = operand_most size x n in omega arith
list_most size x (Some y) n m = simp length-append (omega (arith, operand_most size x n, operand_most size y m))
