-- Kinds 32 to 37 (docs/FORMAT.md, "Texts and the report"; RULES 6): the answer's value is the text's length, and the whole buffer
-- follows, refused or not.
use Rattle.std.specs.Prelude.{List, ◌≡◌, ℕ, length, Option, Some, None}
use Rattle.instruction_set.specs.declared.ArgumentSize.TheVariants.{Bit64}
use Rattle.instruction_set.specs.declared.InstructionArgument.{InstructionArgument}
use Rattle.instruction_set.specs.declared.InstructionArgument.TheVariants as arg
use Rattle.machine_state.specs.Memory.{word_outcome}
use Rattle.machine_state.specs.declared.MachineState.{MachineState}
use Rattle.text.specs.Answers.{TextOrRefusal, text_is, text_answer, buffer_after}
use Rattle.text_state.specs.Lines.{state_text, event_text}
use Rattle.text_names.specs.Names.{register_text}
use Rattle.text.specs.Arguments.{operand_answer, arguments_text}
use Rattle.wire_records.specs.Decoded.{on_found, given_at, arguments_at, event_at}
use Rattle.wire_numbers.specs.Numbers.{size_at}
use Rattle.wire_records.specs.declared.Header.{Header}
use Rattle.wire_records.specs.declared.Reply.{Reply}
use Rattle.wire_records.specs.declared.kinds.TextKind.{TextKind}
use Rattle.wire_records.specs.declared.kinds.TextKind.TheVariants as kind
use Rattle.wire_session.specs.Replies.{reply_of, NoRecord}

-- whose text a record asks for, if it asks for one
unfoldable pub operand_asked : Header → Option TextOrRefusal
operand_asked h =
    on_found (given_at h.first) (λ a. on_found (size_at h.size) (λ z. Some (operand_answer z a)))

-- "built by the builder, with no repeat"
unfoldable pub arguments_asked : Header → Option TextOrRefusal
arguments_asked h = on_found (arguments_at h 0 0) (λ a. Some (arguments_text a))

unfoldable pub event_asked : Header → Option TextOrRefusal
event_asked h = on_found (event_at h.first) (λ e. Some (text_is (event_text e)))

unfoldable pub plain_asked : Header → Option TextOrRefusal
plain_asked h = on_found (given_at h.first) (λ a. Some (operand_answer Bit64 a))

-- "first operand, a register"
abbrev pub name_asked : InstructionArgument → Option TextOrRefusal
name_asked (arg.Immediate v) = None
name_asked (arg.Register g) = Some (text_is (register_text g))
name_asked (arg.EffectiveAddress b i s d) = None

unfoldable pub register_asked : Header → Option TextOrRefusal
register_asked h = on_found (given_at h.first) name_asked

-- by the kind; the state's text is that of the machine at hand
abbrev pub asked : TextKind → Header → MachineState → Option TextOrRefusal
asked kind.OperandText h m = operand_asked h
asked kind.ArgumentsText h m = arguments_asked h
asked kind.StateText h m = Some (text_is (state_text m))
asked kind.EventText h m = event_asked h
asked kind.PlainText h m = plain_asked h
asked kind.RegisterText h m = register_asked h

abbrev pub Texts : Option TextOrRefusal → List ℕ → Option Reply → List ℕ → Type 0
Texts None l r l' = NoRecord l r l'
Texts (Some t) l r l' = (r ≡ Some (reply_of (word_outcome (text_answer t l)) (length l))) × (l' ≡ buffer_after t l)
