-- The places of a machine, and the calls of a list: a call with the bytes lent to it, done to a machine and a store.
use Rattle.std.specs.Prelude.{Bool, cond, List, [], ◌∷◌, ℕ, ◌-◌, ◌/◌, ◌%◌, ◌^◌, ◌<◌, ◌≡◌, ltb, length, get_or}
use Rattle.utils.specs.Outcome.{Outcome}
use Rattle.utils.specs.Word.{cut, lane}
use Rattle.store.specs.Store.{Store}
use Rattle.machine_state.specs.Answers.{Value, CallResult}
use Rattle.machine_state.specs.Machine.{parent_at}
use Rattle.machine_state.specs.declared.Event.{Event}
use Rattle.machine_state.specs.declared.MachineState.{MachineState}
use Rattle.calls.specs.Step.{step}
use Rattle.calls.specs.declared.Call.{Call}
use Rattle.effects.specs.Exposed.{Performed}
use Rattle.effects.specs.Rows.{reads_of, rewrites_of, reaches, in_spans}

-- rflags in ten fields: Carry, Parity, Zero, Sign, Direction, Overflow, and the four stretches of other bits between and above them:
-- the lowest bit of each, and how many bits it has
unfoldable pub bit_at : ℕ → ℕ
bit_at k = get_or (0 ∷ 2 ∷ 6 ∷ 7 ∷ 10 ∷ 11 ∷ 1 ∷ 3 ∷ 8 ∷ 12 ∷ []) k 64

unfoldable pub bits_at : ℕ → ℕ
bits_at k = get_or (1 ∷ 1 ∷ 1 ∷ 1 ∷ 1 ∷ 1 ∷ 1 ∷ 3 ∷ 2 ∷ 52 ∷ []) k 0

-- the 182 places (RULES 8.1): lane j of parent i is place 8 i + j, and flag n is place 176 + n.
-- Here 182 to 185 are the other bits of rflags, and 186 and 187 gdt and idt: no call reads or rewrites those, and a machine is its places
unfoldable pub place : MachineState → ℕ → ℕ
place m p =
    cond (ltb p 176) (lane (p % 8) (parent_at m (p / 8)))
    (cond (ltb p 186) (cut m.rflags (bit_at (p - 176)) (bits_at (p - 176))) (get_or (m.gdt ∷ m.idt ∷ []) (p - 186) 0))

-- what every machine of Rattle is, by the types of its fields: 22 registers, and each word below 2^64 (RULES 1.1, 2.1)
pub record WellTyped (m : MachineState) : Type 0 where
  pub parents : length m.regs ≡ 22
  pub words : (i : ℕ) → i < 22 → parent_at m i < 2 ^ 64
  pub flags : m.rflags < 2 ^ 64
  pub tables : (m.gdt < 2 ^ 64) × (m.idt < 2 ^ 64)

-- a call of a list, its arguments fixed beforehand: the bytes that push and write memory write, or the buffer that read memory fills, are
-- lent to it
pub record Act : Type 0 where
  pub call : Call
  pub lent : List ℕ

pub record State : Type 0 where
  pub machine : MachineState
  pub store : Store

-- how a call answers: its number and values (RULES 9.3), the event, and the lent bytes as it leaves them
pub record CallAnswer : Type 0 where
  pub outcome : Outcome Value
  pub event : Event
  pub lent : List ℕ

abbrev pub call_answer : CallResult → CallAnswer
call_answer r = record { outcome = r.outcome; event = r.event; lent = r.lent }

-- what the call does is `step`, which the contract of `calls::perform` gives
unfoldable pub does : Act → State → Performed CallAnswer State
does a x =
    let r = step a.call x.machine x.store a.lent in
    record { answer = call_answer r; after = record { machine = r.machine; store = r.store } }

-- the rows of the table (RULES 8.2)
unfoldable pub reads : Act → ℕ → Bool
reads a p = in_spans (reads_of a.call) p

unfoldable pub rewrites : Act → ℕ → Bool
rewrites a p = in_spans (rewrites_of a.call) p

abbrev pub reaches_memory : Act → Bool
reaches_memory a = reaches a.call

abbrev pub place_in : State → ℕ → ℕ
place_in x p = place x.machine p

abbrev pub store_in : State → Store
store_in x = x.store

abbrev pub WellTypedState : State → Type 0
WellTypedState x = WellTyped x.machine
