-- What demand 3 says of the case that it was asked for: a rule drops the call that sets a flag which a later call still reads. For any
-- place and any calls, and for Carry between the halves of an addition. A place is exposed by the rows (`exposed`,
-- effects/specs/Exposed.antt; RULES 8.4).
use Rattle.std.specs.Prelude.{true, false, List, ◌∷◌, ◌++◌, ◌≡◌, ℕ}
use Rattle.instruction_set.specs.declared.ArgumentSize.{ArgumentSize}
use Rattle.instruction_set.specs.declared.Flags.TheVariants.{Carry}
use Rattle.arithmetic.specs.declared.Operation.{Operation}
use Rattle.arithmetic.specs.declared.Operation.TheVariants.{Add, AddWithCarry, Subtract, SubtractWithBorrow}
use Rattle.store.specs.Store.{Store}
use Rattle.machine_state.specs.Flagged.{set_flag}
use Rattle.machine_state.specs.declared.MachineState.{MachineState}
use Rattle.calls.specs.Step.{step}
use Rattle.calls.specs.declared.Call.TheVariants.{Arithmetic}
use Rattle.effects.specs.Exposed.{exposed, rewritten}
use Rattle.effects.specs.Places.{Act, reads, rewrites}
use Rattle.effects.specs.Rows.{flag_place}
use Rattle.promises.specs.Chain.{Link, operation}

-- a call that sets p is dropped before one that reads it: the list then takes p for granted, where it did not before
pub record Dropped (before : List Act) (setter : Act) (between : List Act) (reader : Act) (after : List Act) (p : ℕ) : Type 0 where
  pub set : exposed reads rewrites (before ++ setter ∷ (between ++ reader ∷ after)) p ≡ false
  pub dropped : exposed reads rewrites (before ++ (between ++ reader ∷ after)) p ≡ true

-- so it is wherever no other call before the reader rewrites p, and none before the setter, nor the setter, reads it
abbrev pub DropExposes : Type 0
DropExposes =
    (before : List Act) (setter : Act) (between : List Act) (reader : Act) (after : List Act) (p : ℕ)
    → exposed reads rewrites before p ≡ false
    → rewritten rewrites before p ≡ false
    → reads setter p ≡ false
    → rewrites setter p ≡ true
    → rewritten rewrites between p ≡ false
    → reads reader p ≡ true
    → Dropped before setter between reader after p

-- the lower half is dropped before the upper half: place 176 is exposed
abbrev pub CarryDropped : Operation → Operation → Type 0
CarryDropped lower upper =
    (before : List Act) (low : Link) (between : List Act) (high : Link) (after : List Act)
    → exposed reads rewrites before (flag_place Carry) ≡ false
    → rewritten rewrites before (flag_place Carry) ≡ false
    → rewritten rewrites between (flag_place Carry) ≡ false
    → Dropped before (operation lower low) between (operation upper high) after (flag_place Carry)

abbrev pub HalvesDropped : Type 0
HalvesDropped = CarryDropped Add AddWithCarry × CarryDropped Subtract SubtractWithBorrow

-- and somebody sees it: an operation whose row reads Carry answers otherwise where Carry is otherwise, whatever the values and the machine
abbrev pub CarrySeen : Type 0
CarrySeen =
    (o : Operation) (z : ArgumentSize) (a b : ℕ) (m : MachineState) (s : Store) (l : List ℕ)
    → reads (record { call = Arithmetic o z a b; lent = l }) (flag_place Carry) ≡ true
    → (step (Arithmetic o z a b) (set_flag m Carry true) s l).outcome ≡ (step (Arithmetic o z a b) (set_flag m Carry false) s l).outcome
    → ⊥
