-- What the words of a record ask for (docs/FORMAT.md, "A record"; an event: "Texts and the report"), as functions of the words. A number
-- that names nothing is malformed, and so is all that it is a part of: the words alone say what is malformed, and decoders that meet this
-- agree.
use Rattle.std.specs.Prelude.{Bool, true, false, cond, List, [], ◌∷◌, ℕ, zero, suc, eqb, ltb, ℤ, pos, negsuc, get_or}
use Rattle.std.specs.Prelude.{Option, Some, None, option_map, option_and_then}
use Rattle.std.specs.Int.Signed.{lt_z}
use Rattle.std.specs.Int.{w64}
use Rattle.std.proofs.Common.{to_z}
use Rattle.instruction_set.specs.Flags.{flag_at}
use Rattle.instruction_set.specs.declared.ArgumentSize.{ArgumentSize}
use Rattle.instruction_set.specs.declared.InstructionArgument.{InstructionArgument}
use Rattle.instruction_set.specs.declared.InstructionArgument.TheVariants as arg
use Rattle.instruction_set.specs.declared.InstructionArguments.{InstructionArguments}
use Rattle.instruction_set.specs.declared.Register.{Register}
use Rattle.machine_state.specs.declared.Event.{Event}
use Rattle.machine_state.specs.declared.Event.TheVariants as event
use Rattle.calls.specs.declared.Call.{Call}
use Rattle.calls.specs.declared.Call.TheVariants as call
use Rattle.wire_numbers.specs.Numbers.{register_at, size_at, operation_at}
use Rattle.wire_records.specs.Built.{arguments_of}
use Rattle.wire_records.specs.declared.Header.{Header}
use Rattle.wire_records.specs.declared.OperandWords.{OperandWords}
use Rattle.wire_records.specs.declared.kinds.CallKind.{CallKind}
use Rattle.wire_records.specs.declared.kinds.CallKind.TheVariants as kind
use Rattle.wire_records.specs.declared.kinds.Kind.{Kind}
use Rattle.wire_records.specs.declared.kinds.Kind.TheVariants as asked

-- what goes on with a part that was found; where it was not, nothing is
abbrev pub on_found : {A B : Type 0} → Option A → (A → Option B) → Option B
on_found o go = option_and_then go o

-- ---- one word
-- "register number plus 1, or 0 for absent"
unfoldable pub base_or_index_at : ℕ → Option (Option Register)
base_or_index_at zero = Some None
base_or_index_at (suc n) = option_map (λ r. Some r) (register_at n)

-- "its number plus 1, or 0 for absent", of a byte: a scale, or an opcode
unfoldable pub byte_at : ℕ → Option (Option ℕ)
byte_at zero = Some None
byte_at (suc n) = cond (ltb n 256) (Some (Some n)) None

-- "the displacement, sign-extended to 64 bits": the word with its sign, which is at least -2^31 and at most 2^31 - 1
unfoldable pub displacement_at : ℕ → Option ℤ
displacement_at n =
    cond (lt_z (to_z w64 n) (negsuc 2147483647)) None
    (cond (lt_z (pos 2147483647) (to_z w64 n)) None (Some (to_z w64 n)))

-- "size: 0 Bit64 .. 3 Bit8; in an arguments record also 4: none"
unfoldable pub explicit_at : ℕ → Option (Option ArgumentSize)
explicit_at n = cond (eqb n 4) (Some None) (option_map (λ z. Some z) (size_at n))

-- a truth, "0 or 1"
unfoldable pub truth_at : ℕ → Option Bool
truth_at n = cond (ltb 1 n) None (Some (eqb n 1))

-- ---- an operand's five words
-- a base that must be given, which is the register of a register operand and of an event
unfoldable pub register_in : OperandWords → Option Register
register_in w = on_found (base_or_index_at w.base) (λ p. p)

unfoldable pub register_operand : OperandWords → Option (Option InstructionArgument)
register_operand w = option_map (λ r. Some (arg.Register r)) (register_in w)

unfoldable pub address_operand : OperandWords → Option (Option InstructionArgument)
address_operand w =
    on_found (base_or_index_at w.base) (λ b.
    on_found (base_or_index_at w.index) (λ i.
    on_found (byte_at w.scale) (λ s.
    on_found (displacement_at w.value) (λ d. Some (Some (arg.EffectiveAddress b i s d))))))

-- kinds 0 to 3: none, immediate, register, address
abbrev pub operand_kinds : OperandWords → List (Option (Option InstructionArgument))
operand_kinds w =
    Some None ∷ Some (Some (arg.Immediate w.value)) ∷ register_operand w ∷ address_operand w ∷ []

unfoldable pub operand_at : OperandWords → Option (Option InstructionArgument)
operand_at w = get_or (operand_kinds w) w.kind None

-- an operand that must be given: none where the words are malformed or say that there is none
unfoldable pub given_at : OperandWords → Option InstructionArgument
given_at w = on_found (operand_at w) (λ a. a)

-- ---- an arguments record, with the words of its two repeats: "the repeats (0 or 1)"
unfoldable pub arguments_at : Header → ℕ → ℕ → Option InstructionArguments
arguments_at h e n =
    on_found (truth_at e) (λ equal.
    on_found (truth_at n) (λ not_equal.
    on_found (operand_at h.first) (λ a.
    on_found (operand_at h.second) (λ b.
    on_found (byte_at h.a) (λ o.
    on_found (explicit_at h.size) (λ z. Some (arguments_of a b o z equal not_equal)))))))

-- ---- a tabled call
unfoldable pub read_call : Header → Option Call
read_call h =
    on_found (given_at h.first) (λ a.
    on_found (size_at h.size) (λ z. Some (call.ReadOperand a z)))

unfoldable pub write_call : Header → Option Call
write_call h =
    on_found (given_at h.first) (λ a.
    on_found (size_at h.size) (λ z. Some (call.WriteOperand a z h.a)))

unfoldable pub address_call : Header → Option Call
address_call h = on_found (given_at h.first) (λ a. Some (call.EffectiveAddress a))

unfoldable pub test_call : Header → Option Call
test_call h = on_found (flag_at h.a) (λ f. Some (call.TestFlag f))

-- "b 0 or 1"
unfoldable pub set_call : Header → Option Call
set_call h =
    on_found (flag_at h.a) (λ f.
    on_found (truth_at h.b) (λ b. Some (call.SetFlag f b)))

-- either form of the flag call: "a result, size"
unfoldable pub flag_call : Bool → Header → Option Call
flag_call sized h =
    on_found (size_at h.size) (λ z.
    Some (cond sized (call.ComputeSizedFlags h.a z) (call.ComputeFlags h.a z)))

-- "size; a and b the values, c the operation"
unfoldable pub operation_call : Header → Option Call
operation_call h =
    on_found (operation_at h.c) (λ o.
    on_found (size_at h.size) (λ z. Some (call.Arithmetic o z h.a h.b)))

abbrev pub call_by : CallKind → Header → Option Call
call_by kind.ReadOperand h = read_call h
call_by kind.WriteOperand h = write_call h
call_by kind.EffectiveAddress h = address_call h
call_by kind.Push h = Some call.Push
call_by kind.Pop h = Some call.Pop
call_by kind.ReadMemory h = Some (call.ReadMemory h.a)
call_by kind.WriteMemory h = Some (call.WriteMemory h.a)
call_by kind.TestFlag h = test_call h
call_by kind.SetFlag h = set_call h
call_by kind.ComputeFlags h = flag_call false h
call_by kind.Arithmetic h = operation_call h
call_by kind.ComputeSizedFlags h = flag_call true h

-- what is of another kind is no call
abbrev pub call_in : Kind → Header → Option Call
call_in asked.Unknown h = None
call_in (asked.Call k) h = call_by k h
call_in asked.ReadByte h = None
call_in (asked.Access x) h = None
call_in (asked.Show x) h = None
call_in (asked.Text t) h = None
call_in asked.Reset h = None
call_in asked.ReadBack h = None
call_in asked.Depends h = None

unfoldable pub call_of : Header → Option Call
call_of h = call_in h.kind h

-- ---- an event, in the words of the first operand
unfoldable pub control_event : OperandWords → Option Event
control_event w = option_map (λ r. event.Control r w.value) (register_in w)

unfoldable pub video_event : OperandWords → Option Event
video_event w = cond (ltb 255 w.value) None (Some (event.Video w.value))

-- "0 no event, 1 a control register written, 2 the screen"
abbrev pub event_kinds : OperandWords → List (Option Event)
event_kinds w = Some event.Quiet ∷ control_event w ∷ video_event w ∷ []

unfoldable pub event_at : OperandWords → Option Event
event_at w = get_or (event_kinds w) w.kind None
