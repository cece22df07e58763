-- The text that a state of the reader has read, and which states are reached. Assumes nothing.
use Rattle.std.specs.Prelude.{Option, Some, None}
use Rattle.instruction_set.specs.declared.InstructionArgument.{InstructionArgument}
use Rattle.instruction_set.specs.declared.Register.{Register}
use mathlib.Core.List.{List, [], ◌++◌}
use Prim.Native.Nat.{ℕ, ◌<◌}
use mir.Syntax.{w32}
use mir.Val.{to_z}
use Rattle.instruction_set.specs.declared.ArgumentSize.TheVariants.{Bit64}
use Rattle.text_pieces.specs.Ascii.{ascii}
use Rattle.text_names.specs.Names.{register_text}
use Rattle.text_operands.specs.Operands.{base_text, displacement_text, operand_text}
use Rattle.reading_numbers.proofs.Digits.{Within}
use Rattle.reading_numbers.proofs.Texts.{numeral_text}
use Rattle.reading_names.specs.Nodes.{spelt}
use Rattle.reading_operands.specs.Reads.{Lossless, OfSecond}
use Rattle.reading_operands.specs.Reader.{ReaderState}
use Rattle.reading_operands.specs.Steps.{numeral_of}
use Rattle.reading_operands.specs.declared.Lead.{Lead}
use Rattle.reading_operands.specs.declared.Lead.TheVariants as lead
use Rattle.reading_operands.specs.declared.Named.{Named}
use Rattle.reading_operands.specs.declared.Named.TheVariants as named
use Rattle.reading_operands.specs.declared.Numbered.{Numbered}
use Rattle.reading_operands.specs.declared.Numbered.TheVariants as numbered
use Rattle.reading_operands.specs.declared.Phase.{Phase}
use Rattle.reading_operands.specs.declared.Phase.TheVariants as phase

-- ---- what is read
abbrev pub lead_text : Lead → List ℕ
lead_text lead.Nothing = []
lead_text lead.Zero = ascii "0"
lead_text lead.Minus = ascii "-"
lead_text lead.MinusZero = ascii "-0"
lead_text lead.Dollar = ascii "$"
lead_text lead.DollarZero = ascii "$0"

-- a displacement by its 32 bits
abbrev pub offset_text : ℕ → List ℕ
offset_text o = displacement_text (to_z w32 o)

-- up to an index, and up to a scale
abbrev pub to_index : Option Register → List ℕ
to_index b = ascii "(" ++ base_text b ++ ascii ","

abbrev pub before_number : Numbered → List ℕ
before_number numbered.Immediate = ascii "$0x"
before_number numbered.Above = ascii "0x"
before_number numbered.Below = ascii "-0x"
before_number (numbered.Scale o b i) = offset_text o ++ (to_index b ++ register_text i ++ ascii ",")

abbrev pub before_name : Named → List ℕ
before_name named.Operand = ascii "%"
before_name (named.Base o) = offset_text o ++ ascii "(%"
before_name (named.Index o b) = offset_text o ++ (to_index b ++ ascii "%")

abbrev pub phase_text : Phase → List ℕ
phase_text (phase.Lead l) = lead_text l
phase_text (phase.FirstDigit role) = before_number role
phase_text (phase.Digits role v) = before_number role ++ numeral_text (numeral_of role) v
phase_text (phase.Name role n) = before_name role ++ spelt n
phase_text (phase.Opened o) = offset_text o ++ ascii "("
phase_text (phase.IndexWanted o b) = offset_text o ++ to_index b
phase_text (phase.Closed x) = operand_text Bit64 x

abbrev pub first_text : Option InstructionArgument → List ℕ
first_text None = []
first_text (Some x) = operand_text Bit64 x ++ ascii ","

abbrev pub text_of : ReaderState → List ℕ
text_of x = first_text x.first ++ phase_text x.phase

-- ---- what is reached
abbrev pub OffsetSound : ℕ → Type 0
OffsetSound o = o < 4294967296

abbrev pub NumberedSound : Numbered → Type 0
NumberedSound numbered.Immediate = Unit {0}
NumberedSound numbered.Above = Unit {0}
NumberedSound numbered.Below = Unit {0}
NumberedSound (numbered.Scale o b i) = OffsetSound o

abbrev pub NamedSound : Named → Type 0
NamedSound named.Operand = Unit {0}
NamedSound (named.Base o) = OffsetSound o
NamedSound (named.Index o b) = OffsetSound o

abbrev pub PhaseSound : Phase → Type 0
PhaseSound (phase.Lead l) = Unit {0}
PhaseSound (phase.FirstDigit role) = NumberedSound role
PhaseSound (phase.Digits role v) = NumberedSound role × Within (numeral_of role) v
PhaseSound (phase.Name role n) = NamedSound role × (n < 102)
PhaseSound (phase.Opened o) = OffsetSound o
PhaseSound (phase.IndexWanted o b) = OffsetSound o
PhaseSound (phase.Closed x) = Lossless Bit64 x

abbrev pub Sound : ReaderState → Type 0
Sound x = OfSecond (Lossless Bit64) x.first × PhaseSound x.phase
