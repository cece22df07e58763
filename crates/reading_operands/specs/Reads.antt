-- What reading back answers (RULES 6.10 to 6.12), in terms of the printing definitions alone: nothing here speaks of how the reader
-- works.
use Rattle.std.specs.Prelude.{Option, Some, None, Result, Ok, Err}
use Rattle.std.specs.Prelude.{Bool, true, false, List, [], ◌∷◌, ◌++◌, ◌≡◌, ℕ, suc, ◌*◌, ◌^◌, ◌≤◌, ◌<◌, length, take}
use Rattle.std.specs.Int.{w32}
use Rattle.std.proofs.Common.{SFits}
use Rattle.utils.specs.Outcome.{Outcome, gives, refuses_with}
use Rattle.instruction_set.specs.Operands.{lacks_scale, some_lacks_scale}
use Rattle.instruction_set.specs.Sizes.{bytes_of}
use Rattle.instruction_set.specs.declared.ArgumentSize.{ArgumentSize}
use Rattle.instruction_set.specs.declared.ArgumentSize.TheVariants.{Bit64}
use Rattle.instruction_set.specs.declared.InstructionArgument.{InstructionArgument}
use Rattle.instruction_set.specs.declared.InstructionArgument.TheVariants as arg
use Rattle.text_operands.specs.Operands.{list_text}
use Rattle.reading_operands.specs.declared.NotOperandText.{NotOperandText}

-- ---- operands, and what print shows of them
-- the ranges of the code's types: an immediate is a u64, a scale a u8, a displacement an i32
abbrev pub HeldScale : Option ℕ → Type 0
HeldScale None = Unit {0}
HeldScale (Some s) = s < 256

abbrev pub Held : InstructionArgument → Type 0
Held (arg.Immediate v) = v < 2 ^ 64
Held (arg.Register r) = Unit {0}
Held (arg.EffectiveAddress b i s d) = SFits w32 d × HeldScale s

-- an immediate fits its size without sign (RULES 6.11)
abbrev pub WithinSize : ArgumentSize → InstructionArgument → Type 0
WithinSize size (arg.Immediate v) = v < 2 ^ (8 * bytes_of size)
WithinSize size (arg.Register r) = Unit {0}
WithinSize size (arg.EffectiveAddress b i s d) = Unit {0}

-- a scale stands without an index, which print does not show (RULES 6.5)
abbrev pub idle_scale : InstructionArgument → Bool
idle_scale (arg.Immediate v) = false
idle_scale (arg.Register r) = false
idle_scale (arg.EffectiveAddress b None None d) = false
idle_scale (arg.EffectiveAddress b None (Some s) d) = true
idle_scale (arg.EffectiveAddress b (Some i) s d) = false

-- an operand that is printed (3 is not given), and of which print at a size loses nothing
pub record Lossless (size : ArgumentSize) (x : InstructionArgument) : Type 0 where
  pub held : Held x
  pub printed : lacks_scale x ≡ false
  pub within : WithinSize size x
  pub scaled : idle_scale x ≡ false

-- of a second operand, where there is one
abbrev pub OfSecond : (InstructionArgument → Type 0) → Option InstructionArgument → Type 0
OfSecond P None = Unit {0}
OfSecond P (Some y) = P y

-- ---- operand text: what is printed, at whatever size, of one operand or of two joined by a comma (RULES 6.10)
pub record OperandText (t : List ℕ) : Type 0 where
  pub size : ArgumentSize
  pub first : InstructionArgument
  pub second : Option InstructionArgument
  pub first_held : Held first
  pub second_held : OfSecond Held second
  pub first_printed : lacks_scale first ≡ false
  pub second_printed : some_lacks_scale second ≡ false
  pub text : t ≡ list_text size first second

-- no operand text, and k is the offset that 13 says (RULES 6.12): the bytes before it go on to some operand text, and with the byte at it
-- they go on to none; where the text ends too soon, k is its length
pub record StopsAt (t : List ℕ) (k : ℕ) : Type 0 where
  pub refused : OperandText t → ⊥
  pub inside : k ≤ length t
  pub goes_on : (u : List ℕ) × OperandText (take k t ++ u)
  pub stops : k < length t → (u : List ℕ) → OperandText (take (suc k) t ++ u) → ⊥

-- the text shows these operands (RULES 6.11): an immediate is its 64 bits, since no size is read
pub record Shows (t : List ℕ) (x : InstructionArgument) (y : Option InstructionArgument) : Type 0 where
  pub first : Lossless Bit64 x
  pub second : OfSecond (Lossless Bit64) y
  pub text : t ≡ list_text Bit64 x y

-- ---- the answer to a text: one operand or two, or the offset; a text has exactly one answer (`one_answer`, `answered`:
-- proofs/Answers.antt)
abbrev pub Reading : Type 0
Reading = Result (InstructionArgument × Option InstructionArgument) NotOperandText

abbrev pub Reads : List ℕ → Reading → Type 0
Reads t (Ok read) = Shows t read.0 read.1
Reads t (Err refusal) = StopsAt t refusal.offset

-- its number and what it says (RULES 7.5, 9.3): 0 and the operands, or 13 and the offset
pub data Finding : Type 0 where
  operands : InstructionArgument → Option InstructionArgument → Finding
  offset : ℕ → Finding

abbrev pub operands_outcome : Reading → Outcome Finding
operands_outcome (Ok read) = gives (operands read.0 read.1 ∷ [])
operands_outcome (Err refusal) = refuses_with 13 (offset refusal.offset ∷ [])
