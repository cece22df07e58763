-- What only private functions' contracts cite: where one byte more of an operand leads from a phase, or that the operand does not go on
-- so (a comma may still end it: Reader.antt). Nobody need believe it: the public contract speaks of print alone (Reads.antt).
-- Bytes: 36 $, 37 %, 40 (, 41 ), 44 comma, 45 -, 48 the digit 0, 120 x.
use Rattle.std.specs.Prelude.{Option, Some, None, cond, ℕ, eqb}
use Rattle.std.specs.Int.{w32}
use Rattle.std.proofs.Common.{to_z}
use Rattle.instruction_set.specs.declared.InstructionArgument.{InstructionArgument}
use Rattle.instruction_set.specs.declared.InstructionArgument.TheVariants as arg
use Rattle.instruction_set.specs.declared.Register.{Register}
use Rattle.reading_numbers.specs.Numerals.{first_digit, next_digit, positive_bits, negative_bits, scale_of}
use Rattle.reading_numbers.specs.declared.Numeral.{Numeral}
use Rattle.reading_numbers.specs.declared.Numeral.TheVariants as numeral
use Rattle.reading_names.specs.Nodes.{next_node, register_of}
use Rattle.reading_operands.specs.declared.Lead.{Lead}
use Rattle.reading_operands.specs.declared.Lead.TheVariants as lead
use Rattle.reading_operands.specs.declared.Named.{Named}
use Rattle.reading_operands.specs.declared.Named.TheVariants as named
use Rattle.reading_operands.specs.declared.Numbered.{Numbered}
use Rattle.reading_operands.specs.declared.Numbered.TheVariants as numbered
use Rattle.reading_operands.specs.declared.Phase.{Phase}
use Rattle.reading_operands.specs.declared.Phase.TheVariants as phase

abbrev pub wanted : ℕ → ℕ → Phase → Option Phase
wanted b want next = cond (eqb b want) (Some next) None

-- ---- up to the first digit or letter
abbrev pub begun : ℕ → Option Phase
begun b =
    cond (eqb b 37) (Some (phase.Name named.Operand 0))
    (cond (eqb b 36) (Some (phase.Lead lead.Dollar)) (cond (eqb b 45) (Some (phase.Lead lead.Minus)) (wanted b 48 (phase.Lead lead.Zero))))

abbrev pub step_lead : Lead → ℕ → Option Phase
step_lead lead.Nothing b = begun b
step_lead lead.Zero b = wanted b 120 (phase.FirstDigit numbered.Above)
step_lead lead.Minus b = wanted b 48 (phase.Lead lead.MinusZero)
step_lead lead.MinusZero b = wanted b 120 (phase.FirstDigit numbered.Below)
step_lead lead.Dollar b = wanted b 48 (phase.Lead lead.DollarZero)
step_lead lead.DollarZero b = wanted b 120 (phase.FirstDigit numbered.Immediate)

-- ---- numbers: another digit, or what follows a number where it stands
abbrev pub numeral_of : Numbered → Numeral
numeral_of numbered.Immediate = numeral.Immediate
numeral_of numbered.Above = numeral.Above
numeral_of numbered.Below = numeral.Below
numeral_of (numbered.Scale o b i) = numeral.Scale

abbrev pub plain_address : ℕ → Option Register → InstructionArgument
plain_address o b = arg.EffectiveAddress b None None (to_z w32 o)

abbrev pub indexed_address : ℕ → Option Register → Register → ℕ → InstructionArgument
indexed_address o b i v = arg.EffectiveAddress b (Some i) (Some (scale_of v)) (to_z w32 o)

abbrev pub after_number : Numbered → ℕ → ℕ → Option Phase
after_number numbered.Immediate v b = None
after_number numbered.Above v b = wanted b 40 (phase.Opened (positive_bits v))
after_number numbered.Below v b = wanted b 40 (phase.Opened (negative_bits v))
after_number (numbered.Scale o base i) v b = wanted b 41 (phase.Closed (indexed_address o base i v))

abbrev pub begun_number : Numbered → Option ℕ → Option Phase
begun_number role None = None
begun_number role (Some v) = Some (phase.Digits role v)

abbrev pub grown_number : Numbered → ℕ → ℕ → Option ℕ → Option Phase
grown_number role v b None = after_number role v b
grown_number role v b (Some w) = Some (phase.Digits role w)

abbrev pub step_first_digit : Numbered → ℕ → Option Phase
step_first_digit role b = begun_number role (first_digit (numeral_of role) b)

abbrev pub step_digits : Numbered → ℕ → ℕ → Option Phase
step_digits role v b = grown_number role v b (next_digit (numeral_of role) v b)

-- ---- names: another letter, or what follows a name where it stands
abbrev pub after_base : ℕ → Register → ℕ → Option Phase
after_base o r b = cond (eqb b 41) (Some (phase.Closed (plain_address o (Some r)))) (wanted b 44 (phase.IndexWanted o (Some r)))

abbrev pub after_name : Named → Register → ℕ → Option Phase
after_name named.Operand r b = None
after_name (named.Base o) r b = after_base o r b
after_name (named.Index o base) r b = wanted b 44 (phase.FirstDigit (numbered.Scale o base r))

abbrev pub after_node : Named → Option Register → ℕ → Option Phase
after_node role None b = None
after_node role (Some r) b = after_name role r b

abbrev pub grown_name : Named → ℕ → ℕ → Option ℕ → Option Phase
grown_name role n b None = after_node role (register_of n) b
grown_name role n b (Some m) = Some (phase.Name role m)

abbrev pub step_name : Named → ℕ → ℕ → Option Phase
step_name role n b = grown_name role n b (next_node n b)

-- ---- any phase
abbrev pub step_opened : ℕ → ℕ → Option Phase
step_opened o b = cond (eqb b 37) (Some (phase.Name (named.Base o) 0)) (wanted b 44 (phase.IndexWanted o None))

abbrev pub stepped : Phase → ℕ → Option Phase
stepped (phase.Lead l) b = step_lead l b
stepped (phase.FirstDigit role) b = step_first_digit role b
stepped (phase.Digits role v) b = step_digits role v b
stepped (phase.Name role n) b = step_name role n b
stepped (phase.Opened o) b = step_opened o b
stepped (phase.IndexWanted o base) b = wanted b 37 (phase.Name (named.Index o base) 0)
stepped (phase.Closed x) b = None
