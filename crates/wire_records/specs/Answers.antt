-- The words of an answer (docs/FORMAT.md, "An answer"), and those of an operand that an answer gives.
use Rattle.std.specs.Prelude.{cond, List, [], ◌∷◌, ℕ, ◌+◌, replicate, Option, Some, None}
use Rattle.instruction_set.specs.declared.Register.{Register}
use Rattle.std.specs.Int.{w64}
use Rattle.std.proofs.Common.{of_z}
use Rattle.instruction_set.specs.declared.InstructionArgument.{InstructionArgument}
use Rattle.instruction_set.specs.declared.InstructionArgument.TheVariants as arg
use Rattle.machine_state.specs.declared.Event.{Event}
use Rattle.machine_state.specs.declared.Given.{Given}
use Rattle.machine_state.specs.declared.Given.TheVariants.{Nothing, Word, Truth}
use Rattle.byte_runs.specs.Runs.{filled, lane_in}
use Rattle.wire_numbers.specs.Numbers.{register_number}
use Rattle.wire_records.specs.Events.{event_kind, event_register, event_value}
use Rattle.wire_records.specs.declared.Reply.{Reply}

-- "what the value is: 0 none, 1 a value, 2 a truth", and "the value; a truth is 0 or 1"
abbrev pub shape_of : Given → ℕ
shape_of Nothing = 0
shape_of (Word v) = 1
shape_of (Truth b) = 2

abbrev pub value_of : Given → ℕ
value_of Nothing = 0
value_of (Word v) = v
value_of (Truth b) = cond b 1 0

-- "refusal; what the value is; the value; event; its register; its value; slots in use; bytes that follow"
abbrev pub reply_words : Reply → Event → ℕ → List ℕ
reply_words r e u = r.refusal ∷ shape_of r.said ∷ value_of r.said ∷ event_kind e ∷ event_register e ∷ event_value e ∷ u ∷ r.given ∷ []

unfoldable pub encoded : Reply → Event → ℕ → List ℕ
encoded r e u = filled (replicate 64 0) 0 (lane_in (reply_words r e u)) 64

-- "the register's number plus 1", or 0 for absent; likewise a scale
abbrev pub part_number : Option Register → ℕ
part_number None = 0
part_number (Some r) = register_number r + 1

abbrev pub scale_number : Option ℕ → ℕ
scale_number None = 0
scale_number (Some s) = s + 1

-- "An operand is five words: kind, base, index, scale, value"
abbrev pub operand_words : InstructionArgument → List ℕ
operand_words (arg.Immediate v) = 1 ∷ 0 ∷ 0 ∷ 0 ∷ v ∷ []
operand_words (arg.Register r) = 2 ∷ (register_number r + 1) ∷ 0 ∷ 0 ∷ 0 ∷ []
operand_words (arg.EffectiveAddress b i s d) = 3 ∷ part_number b ∷ part_number i ∷ scale_number s ∷ of_z w64 d ∷ []
