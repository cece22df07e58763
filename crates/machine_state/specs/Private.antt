-- What only the contracts of private functions cite: answers on the way to a call's own.
use Rattle.std.specs.Prelude.{ℕ, cond, Result, Ok, Err, is_ok}
use Rattle.mmu.specs.declared.Refusal.{Refusal as MemoryRefusal}
use Rattle.machine_state.specs.Answers.{answered}
use Rattle.machine_state.specs.Memory.{with_rsp}
use Rattle.machine_state.specs.declared.Answered.{Answered}
use Rattle.machine_state.specs.declared.Given.{Given}
use Rattle.machine_state.specs.declared.Given.TheVariants.{Nothing, Word}
use Rattle.machine_state.specs.declared.Refusal.{Refusal}
use Rattle.machine_state.specs.declared.Refusal.TheVariants.{Memory}

-- memory's answer as the machine's
abbrev pub from_memory : Result (Unit {0}) MemoryRefusal → Result Given Refusal
from_memory (Ok x) = Ok Nothing
from_memory (Err r) = Err (Memory r)

-- where a call is accepted: its value, and where rsp goes
abbrev pub value_or : Result Given Refusal → ℕ → Result Given Refusal
value_or (Ok g) v = Ok (Word v)
value_or (Err r) v = Err r

abbrev pub given_value : Answered → ℕ → Answered
given_value r v = answered r.machine r.used r.event (value_or r.answer v)

abbrev pub given_rsp : Answered → ℕ → Answered
given_rsp r x = answered (cond (is_ok r.answer) (with_rsp r.machine x) r.machine) r.used r.event r.answer
