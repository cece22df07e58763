-- Operand text read back (RULES 6.10 to 6.12; No. 1). But for `OneReading`, which is of print alone, each promise is about whatever
-- answer the contract of `read_operands` allows for a text, `Reads t r`, by its number and what it says. `OperandText t` is that printing
-- gives t. (Both: reading_operands/specs/Reads.antt.)
use Rattle.std.specs.Prelude.{Option, Some, None, true, false, List, [], ◌∷◌, ◌≡◌, ℕ, pos, negsuc}
use Prim.Native.String.{String}
use Rattle.utils.specs.Outcome.{Outcome, gives, refuses_with, accepted}
use Rattle.instruction_set.specs.Operands.{lacks_scale, some_lacks_scale}
use Rattle.instruction_set.specs.declared.ArgumentSize.{ArgumentSize}
use Rattle.instruction_set.specs.declared.InstructionArgument.{InstructionArgument}
use Rattle.instruction_set.specs.declared.InstructionArgument.TheVariants as arg
use Rattle.instruction_set.specs.declared.Register.TheVariants.{RCX, RBP, ES, ESI}
use Rattle.text_pieces.specs.Ascii.{ascii}
use Rattle.text_operands.specs.Operands.{list_text}
use Rattle.reading_operands.specs.Reads.{WithinSize, Lossless, OfSecond, OperandText, StopsAt, Reading, Reads, Finding, operands, offset}
use Rattle.reading_operands.specs.Reads.{operands_outcome}

-- what is read and then printed at a size that holds its immediates gives the same text: print does not refuse it (3), and gives t
abbrev pub PrintsAgain : Type 0
PrintsAgain =
    (t : List ℕ) (r : Reading) (x : InstructionArgument) (y : Option InstructionArgument)
    → Reads t r
    → operands_outcome r ≡ gives (operands x y ∷ [])
    → (size : ArgumentSize)
    → WithinSize size x
    → OfSecond (WithinSize size) y
    → (lacks_scale x ≡ false) × (some_lacks_scale y ≡ false) × (list_text size x y ≡ t)

-- a text has at most one reading (RULES 6.11): of print alone, no two lists of operands of which nothing is lost have one text, at
-- whatever sizes
abbrev pub OneReading : Type 0
OneReading =
    (size size' : ArgumentSize) (x x' : InstructionArgument) (y y' : Option InstructionArgument)
    → Lossless size x
    → OfSecond (Lossless size) y
    → Lossless size' x'
    → OfSecond (Lossless size') y'
    → list_text size x y ≡ list_text size' x' y'
    → (x ≡ x') × (y ≡ y')

-- and of answers: a text has exactly one
abbrev pub OneAnswer : Type 0
OneAnswer =
    (t : List ℕ)
    → ((r : Reading) × Reads t r) × ((r s : Reading) → Reads t r → Reads t s → r ≡ s)

-- what is printed and then read comes back, where print loses nothing of it (`Lossless`, RULES 6.11): one operand, or two joined by a
-- comma
abbrev pub OperandsReadBack : Type 0
OperandsReadBack =
    (size : ArgumentSize) (x : InstructionArgument) (y : Option InstructionArgument)
    → Lossless size x
    → OfSecond (Lossless size) y
    → (r : Reading)
    → Reads (list_text size x y) r
    → operands_outcome r ≡ gives (operands x y ∷ [])

-- a text is accepted where printing gives it, and only there (RULES 6.10)
abbrev pub TextAcceptedExactly : Type 0
TextAcceptedExactly =
    (t : List ℕ) (r : Reading)
    → Reads t r
    → (OperandText t → accepted (operands_outcome r) ≡ true) × (accepted (operands_outcome r) ≡ true → OperandText t)

-- any other text is refused with 13, which says the offset (RULES 6.12): some operand text goes on from the bytes before it, none from
-- the bytes up to it
abbrev pub OffsetGiven : Type 0
OffsetGiven =
    (t : List ℕ) (r : Reading)
    → Reads t r
    → (OperandText t → ⊥)
    → (k : ℕ) × (operands_outcome r ≡ refuses_with 13 (offset k ∷ [])) × StopsAt t k

-- ---- texts and what is said to them, one table with one claim
pub record Example : Type 0 where
  pub text : List ℕ
  pub outcome : Outcome Finding

abbrev pub refused_at : String → ℕ → Example
refused_at t k = record { text = ascii t; outcome = refuses_with 13 (offset k ∷ []) }

abbrev pub read_as : String → InstructionArgument → Option InstructionArgument → Example
read_as t x y = record { text = ascii t; outcome = gives (operands x y ∷ []) }

abbrev pub reading_examples : List Example
reading_examples =
    refused_at "" 0
    ∷ refused_at "-0x0" 3
    ∷ refused_at "0x00" 3
    ∷ refused_at "0x80000000" 9
    ∷ refused_at "0x7fffffff8" 10
    ∷ refused_at "-0x80000001" 10
    ∷ refused_at "$0x" 3
    ∷ refused_at "$0xFF" 3
    ∷ refused_at "$0x12345678123456789" 19
    ∷ refused_at "(%rax)" 0
    ∷ refused_at "0x8()" 4
    ∷ refused_at "0x8(%rax,%rbx)" 13
    ∷ refused_at "0x0(,%rcx,256)" 12
    ∷ refused_at "0x0(,%rcx,2555)" 13
    ∷ refused_at "0x0(,%rcx,08)" 11
    ∷ refused_at "%r1" 3
    ∷ refused_at "%r1," 3
    ∷ refused_at "%r16" 3
    ∷ refused_at "%esx" 3
    ∷ refused_at "%cr1" 3
    ∷ refused_at "%rax," 5
    ∷ refused_at "%rax,," 5
    ∷ refused_at "%rax,%rbx,%rcx" 9
    ∷ refused_at "%rax\n" 4
    ∷ read_as "$0xff" (arg.Immediate 255) None
    ∷ read_as "$0x1,$0x2" (arg.Immediate 1) (Some (arg.Immediate 2))
    ∷ read_as "%es,%esi" (arg.Register ES) (Some (arg.Register ESI))
    ∷ read_as "-0x80000000" (arg.EffectiveAddress None None None (negsuc 2147483647)) None
    ∷ read_as "-0x8(%rbp)" (arg.EffectiveAddress (Some RBP) None None (negsuc 7)) None
    ∷ read_as "0x0(,%rcx,8)" (arg.EffectiveAddress None (Some RCX) (Some 8) (pos 0)) None
    ∷ []

-- whatever answer is allowed for the text is the one of the table
abbrev pub EachHolds : List Example → Type 0
EachHolds [] = Unit {0}
EachHolds (e ∷ es) = ((r : Reading) → Reads e.text r → operands_outcome r ≡ e.outcome) × EachHolds es
