-- What only private functions' contracts cite: the reader over a text, byte by byte, up to the first byte at which no operand text goes on.
-- Nobody need believe it: the public contract speaks of print alone (Reads.antt).
use Rattle.std.specs.Prelude.{Option, Some, None, Ok, Err, cond, List, [], ◌∷◌, ℕ, suc, eqb}
use Rattle.instruction_set.specs.declared.Register.{Register}
use Rattle.instruction_set.specs.declared.InstructionArgument.{InstructionArgument}
use Rattle.instruction_set.specs.declared.InstructionArgument.TheVariants as arg
use Rattle.reading_numbers.specs.Numerals.{positive_bits, negative_bits}
use Rattle.reading_names.specs.Nodes.{register_of}
use Rattle.reading_operands.specs.Reads.{Reading}
use Rattle.reading_operands.specs.Steps.{plain_address, stepped}
use Rattle.reading_operands.specs.declared.Lead.TheVariants as lead
use Rattle.reading_operands.specs.declared.Named.{Named}
use Rattle.reading_operands.specs.declared.Named.TheVariants as named
use Rattle.reading_operands.specs.declared.Numbered.{Numbered}
use Rattle.reading_operands.specs.declared.Numbered.TheVariants as numbered
use Rattle.reading_operands.specs.declared.Phase.{Phase}
use Rattle.reading_operands.specs.declared.Phase.TheVariants as phase
pub use Rattle.reading_operands.specs.declared.ReaderState.{ReaderState}

-- ---- the operand that is read, where one is read to its end
abbrev pub finished_number : Numbered → ℕ → Option InstructionArgument
finished_number numbered.Immediate v = Some (arg.Immediate v)
finished_number numbered.Above v = Some (plain_address (positive_bits v) None)
finished_number numbered.Below v = Some (plain_address (negative_bits v) None)
finished_number (numbered.Scale o b i) v = None

abbrev pub named_register : Option Register → Option InstructionArgument
named_register None = None
named_register (Some r) = Some (arg.Register r)

abbrev pub finished_name : Named → ℕ → Option InstructionArgument
finished_name named.Operand n = named_register (register_of n)
finished_name (named.Base o) n = None
finished_name (named.Index o b) n = None

abbrev pub finished_operand : Phase → Option InstructionArgument
finished_operand (phase.Lead l) = None
finished_operand (phase.FirstDigit role) = None
finished_operand (phase.Digits role v) = finished_number role v
finished_operand (phase.Name role n) = finished_name role n
finished_operand (phase.Opened o) = None
finished_operand (phase.IndexWanted o b) = None
finished_operand (phase.Closed x) = Some x

-- ---- one byte more of the text
abbrev pub state : Option InstructionArgument → Phase → ReaderState
state f p = record { first = f; phase = p }

abbrev pub start : ReaderState
start = state None (phase.Lead lead.Nothing)

abbrev pub unless_second : Option InstructionArgument → Option InstructionArgument → Option InstructionArgument
unless_second None operand = operand
unless_second (Some f) operand = None

-- the operand that a comma ends, where it is the first: after the second no comma may follow
abbrev pub first_ended : Option InstructionArgument → Phase → ℕ → Option InstructionArgument
first_ended f p b = cond (eqb b 44) (unless_second f (finished_operand p)) None

abbrev pub second_begun : Option InstructionArgument → Option ReaderState
second_begun None = None
second_begun (Some x) = Some (state (Some x) (phase.Lead lead.Nothing))

abbrev pub step_taken : ReaderState → ℕ → Option Phase → Option ReaderState
step_taken x b (Some p) = Some (state x.first p)
step_taken x b None = second_begun (first_ended x.first x.phase b)

unfoldable pub advanced : ReaderState → ℕ → Option ReaderState
advanced x b = step_taken x b (stepped x.phase b)

-- ---- the whole text
abbrev pub given : InstructionArgument → Option InstructionArgument → Reading
given x y = Ok (x, y)

abbrev pub stopped_at : ℕ → Reading
stopped_at k = Err (record { offset = k })

abbrev pub operands_of : Option InstructionArgument → InstructionArgument → Reading
operands_of None x = given x None
operands_of (Some f) x = given f (Some x)

abbrev pub ended_by : ℕ → Option InstructionArgument → Option InstructionArgument → Reading
ended_by k f None = stopped_at k
ended_by k f (Some x) = operands_of f x

abbrev pub ended : ℕ → ReaderState → Reading
ended k x = ended_by k x.first (finished_operand x.phase)

abbrev pub go_on : Option ReaderState → ℕ → (ReaderState → Reading) → Reading
go_on (Some x) k rest = rest x
go_on None k rest = stopped_at k

-- the text from byte k on
unfoldable pub read_from : List ℕ → ℕ → ReaderState → Reading
read_from [] k x = ended k x
read_from (b ∷ t) k x = go_on (advanced x b) k (read_from t (suc k))

abbrev pub reader_answer : List ℕ → Reading
reader_answer t = read_from t 0 start
