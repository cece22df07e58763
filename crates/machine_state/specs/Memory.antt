-- What the calls that reach memory owe (RULES 4.1 to 4.8, 5.2, 5.3), over the definitions of mmu.
use Rattle.std.specs.Prelude.{Option, Some, None}
use Rattle.std.specs.Prelude.{ℕ, ◌+◌, ◌-◌, ◌%◌, ◌^◌, cond, List, [], ◌∷◌, map, length, replicate, slice_set}
use Rattle.utils.specs.Bytes.{to_bytes, from_bytes}
use Rattle.utils.specs.Outcome.{Outcome, gives, refuses, accepted, on_value}
use Rattle.instruction_set.specs.Sizes.{bytes_of}
use Rattle.instruction_set.specs.declared.ArgumentSize.{ArgumentSize}
use Rattle.instruction_set.specs.declared.ArgumentSize.TheVariants.{Bit64}
use Rattle.instruction_set.specs.declared.InstructionArgument.{InstructionArgument}
use Rattle.instruction_set.specs.declared.InstructionArgument.TheVariants as arg
use Rattle.fields.specs.Parts.{memory_value}
use Rattle.mmu.specs.Calls.{read_outcome, read_out, write_outcome, write_store, shown_of}
use Rattle.store.specs.Store.{Store}
use Rattle.walk.specs.Walk.{physical}
use Rattle.machine_state.specs.Address.{address_of}
use Rattle.machine_state.specs.Answers.{Value, word, CallResult}
use Rattle.machine_state.specs.Machine.{parent_at, with_regs, read_reg, write_reg, event_of}
use Rattle.machine_state.specs.declared.Event.{Event}
use Rattle.machine_state.specs.declared.Event.TheVariants.{Quiet, Video}
use Rattle.machine_state.specs.declared.MachineState.{MachineState}

-- the parents RSP and CR3 by their numbers (RULES 2.2)
abbrev pub rsp : MachineState → ℕ
rsp m = parent_at m 4

abbrev pub cr3 : MachineState → ℕ
cr3 m = parent_at m 19

abbrev pub with_rsp : MachineState → ℕ → MachineState
with_rsp m x = with_regs m (slice_set m.regs 4 x)

abbrev pub leaves : MachineState → Store → List ℕ → Event → Outcome Value → CallResult
leaves m s l e o = record { machine = m; store = s; lent = l; event = e; outcome = o }

-- memory's outcome among the answers'
abbrev pub word_outcome : Outcome ℕ → Outcome Value
word_outcome o = record { number = o.number; values = map word o.values }

-- what is shown on the screen is the video event (RULES 4.5)
abbrev pub event_shown : Option ℕ → Event
event_shown None = Quiet
event_shown (Some b) = Video b

-- ---- memory by address (RULES 4.1)
unfoldable pub read_memory : MachineState → Store → ℕ → List ℕ → CallResult
read_memory m s a out = leaves m s (read_out s (cr3 m) a out) Quiet (word_outcome (read_outcome s (length out)))

unfoldable pub write_memory : MachineState → Store → ℕ → List ℕ → CallResult
write_memory m s a d =
    let p = physical s (cr3 m) a in
    leaves m (write_store s p d) d (event_shown (shown_of s p d)) (word_outcome (write_outcome s p (length d)))

-- a call that is accepted gives this value, and lends nothing
abbrev pub valued : Outcome Value → ℕ → Outcome Value
valued o v = cond (accepted o) (gives (word v ∷ [])) o

abbrev pub with_value : CallResult → ℕ → CallResult
with_value r v = leaves r.machine r.store [] r.event (valued r.outcome v)

-- the value at a size: its bytes low byte first, extended by the size (RULES 4.2)
unfoldable pub loaded : MachineState → Store → ℕ → ArgumentSize → CallResult
loaded m s a z = let r = read_memory m s a (replicate (bytes_of z) 0) in with_value r (memory_value z (from_bytes r.lent))

-- the value cut to the size goes to its bytes, low byte first (RULES 4.2)
unfoldable pub stored_at : MachineState → Store → ℕ → ArgumentSize → ℕ → CallResult
stored_at m s a z v = let r = write_memory m s a (to_bytes (bytes_of z) v) in leaves r.machine r.store [] r.event r.outcome

-- ---- operands
-- what is done at an address, or its refusal
abbrev pub at_address : MachineState → Store → Outcome ℕ → (ℕ → CallResult) → CallResult
at_address m s o go = on_value o go (leaves m s [] Quiet (word_outcome o))

-- a register whatever the size, an immediate whole, and at an address a value of memory (RULES 5.2)
unfoldable pub read_operand : MachineState → Store → InstructionArgument → ArgumentSize → CallResult
read_operand m s (arg.Register r) z = leaves m s [] Quiet (gives (word (read_reg m r) ∷ []))
read_operand m s (arg.Immediate v) z = leaves m s [] Quiet (gives (word v ∷ []))
read_operand m s (arg.EffectiveAddress b i k d) z = at_address m s (address_of m (arg.EffectiveAddress b i k d)) (λ a. loaded m s a z)

-- a register whatever the size, with its event, and at an address the value cut to the size; 2: it is an immediate (RULES 5.3)
unfoldable pub write_operand : MachineState → Store → InstructionArgument → ArgumentSize → ℕ → CallResult
write_operand m s (arg.Register r) z v = leaves (write_reg m r v) s [] (event_of r v) (gives [])
write_operand m s (arg.Immediate x) z v = leaves m s [] Quiet (refuses 2)
write_operand m s (arg.EffectiveAddress b i k d) z v =
    at_address m s (address_of m (arg.EffectiveAddress b i k d)) (λ a. stored_at m s a z v)

-- ---- the stack
-- rsp moves where the call is accepted, and stays where it is refused (RULES 4.3)
abbrev pub rsp_if_accepted : CallResult → ℕ → CallResult
rsp_if_accepted r x = leaves (cond (accepted r.outcome) (with_rsp r.machine x) r.machine) r.store r.lent r.event r.outcome

-- n below x, modulo 2^64 (RULES 1.2)
abbrev pub minus64 : ℕ → ℕ → ℕ
minus64 x n = (x + (2 ^ 64 - n % 2 ^ 64)) % 2 ^ 64

-- the bytes go to rsp minus their length, and rsp moves there where they are accepted (RULES 4.3)
unfoldable pub pushed : MachineState → Store → List ℕ → CallResult
pushed m s d = rsp_if_accepted (write_memory m s (minus64 (rsp m) (length d)) d) (minus64 (rsp m) (length d))

-- the eight bytes at rsp, and rsp moves up by 8 where they are accepted (RULES 4.3)
unfoldable pub popped : MachineState → Store → CallResult
popped m s = rsp_if_accepted (loaded m s (rsp m) Bit64) ((rsp m + 8) % 2 ^ 64)
