-- What an answer says, by the numbers of the refusals (RULES 7.1, 9.3), and what a call leaves.
use Rattle.std.specs.Prelude.{ℕ, Bool, List, [], ◌∷◌, map, Result, Ok, Err}
use Rattle.utils.specs.Outcome.{Outcome, gives, refuses_with}
use Rattle.mmu.specs.Calls.{memory_number, said_by_memory}
use Rattle.store.specs.Store.{Store, store_of}
use Rattle.machine_state.specs.declared.Answered.{Answered}
use Rattle.machine_state.specs.declared.Event.{Event}
use Rattle.machine_state.specs.declared.Event.TheVariants.{Quiet}
use Rattle.machine_state.specs.declared.Given.{Given}
use Rattle.machine_state.specs.declared.Given.TheVariants.{Nothing, Word, Truth}
use Rattle.machine_state.specs.declared.MachineState.{MachineState}
use Rattle.machine_state.specs.declared.Refusal.{Refusal}
use Rattle.machine_state.specs.declared.Refusal.TheVariants.{NotAnAddress, IntoImmediate, NoScale, Memory}

-- ---- the number and values of each answer
abbrev pub refusal_number : Refusal → ℕ
refusal_number NotAnAddress = 1
refusal_number IntoImmediate = 2
refusal_number NoScale = 3
refusal_number (Memory r) = memory_number r

-- what a refusal says besides its number (RULES 7.5)
abbrev pub said_by : Refusal → List ℕ
said_by NotAnAddress = []
said_by IntoImmediate = []
said_by NoScale = []
said_by (Memory r) = said_by_memory r

abbrev pub address_outcome : Result ℕ Refusal → Outcome ℕ
address_outcome (Ok a) = gives (a ∷ [])
address_outcome (Err r) = refuses_with (refusal_number r) (said_by r)

-- a value is a word, or yes or no
pub data Value : Type 0 where
  word : ℕ → Value
  truth : Bool → Value

abbrev pub given_values : Given → List Value
given_values Nothing = []
given_values (Word v) = word v ∷ []
given_values (Truth b) = truth b ∷ []

abbrev pub outcome_of : Result Given Refusal → Outcome Value
outcome_of (Ok g) = gives (given_values g)
outcome_of (Err r) = refuses_with (refusal_number r) (map word (said_by r))

-- an answer by its parts (RULES 4.8): the machine, the count of slots in use, the event and what is answered; and of a call that leaves the
-- machine as it is, with no event
abbrev pub answered : MachineState → ℕ → Event → Result Given Refusal → Answered
answered m u e a = record { machine = m; used = u; event = e; answer = a }

abbrev pub finished : MachineState → ℕ → Result Given Refusal → Answered
finished m u a = answered m u Quiet a

-- ---- what a call leaves (RULES 4.8): the machine, the store with its count, the bytes lent to it, the event and what it answers
pub record CallResult : Type 0 where
  pub machine : MachineState
  pub store : Store
  pub lent : List ℕ
  pub event : Event
  pub outcome : Outcome Value

-- the answer, with the slices as the call leaves them: what each contract speaks of
abbrev pub result_of : Answered → List ℕ → List ℕ → List ℕ → CallResult
result_of r dir bytes lent = record {
  machine = r.machine;
  store = store_of dir bytes r.used;
  lent = lent;
  event = r.event;
  outcome = outcome_of r.answer;
}
