-- Demand 1: every call takes every input, and where a condition of a refusal holds, its number comes back (RULES 7.1): machine, store,
-- count and lent bytes stay as they were, and there is no value and no event; 6 says how many slots lack (RULES 7.5).
use Rattle.std.specs.Prelude.{List, ◌≡◌, ℕ}
use Rattle.store.specs.Store.{Store}
use Rattle.machine_state.specs.Answers.{CallResult}
use Rattle.machine_state.specs.declared.Event.TheVariants.{Quiet}
use Rattle.machine_state.specs.declared.MachineState.{MachineState}
use Rattle.calls.specs.Step.{step}
use Rattle.calls.specs.declared.Call.{Call}
use Rattle.promises.specs.Refusals.{access_of}
use Rattle.promises.specs.SlotsLacking.{lacking_for, said_with}

-- what a refused call leaves: everything as it was; where it is 6 it says k, and otherwise nothing but its number
pub record Untouched (m : MachineState) (s : Store) (l : List ℕ) (k : ℕ) (r : CallResult) : Type 0 where
  pub machine : r.machine ≡ m
  pub store : r.store ≡ s
  pub lent : r.lent ≡ l
  pub event : r.event ≡ Quiet
  pub values : r.outcome.values ≡ said_with r.outcome.number k

-- of every tabled call, on every machine, store and lent bytes
abbrev pub RefusedUntouched : Type 0
RefusedUntouched =
    (c : Call) (m : MachineState) (s : Store) (l : List ℕ)
    → ((step c m s l).outcome.number ≡ 0 → ⊥)
    → Untouched m s l (lacking_for m s (access_of c m l)) (step c m s l)
