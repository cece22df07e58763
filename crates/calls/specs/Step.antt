-- What a tabled call (RULES 8.2) does to a machine, a store and the bytes lent to it: put together from the definitions that the
-- contracts of machine_state cite. It knows nothing of the table's rows; those are proved of it, in the crate `effects`.
use Rattle.std.specs.Prelude.{List, [], ◌∷◌, ℕ}
use Rattle.utils.specs.Outcome.{gives}
use Rattle.store.specs.Store.{Store}
use Rattle.machine_state.specs.Address.{address_of}
use Rattle.machine_state.specs.Answers.{truth, given_values, CallResult}
use Rattle.machine_state.specs.Flagged.{flag_in, set_flag, compute_flags, compute_sized_flags}
use Rattle.machine_state.specs.Memory.{leaves, word_outcome, read_memory, write_memory, read_operand, write_operand, pushed, popped}
use Rattle.machine_state.specs.Operating.{operated}
use Rattle.machine_state.specs.declared.Event.TheVariants.{Quiet}
use Rattle.machine_state.specs.declared.MachineState.{MachineState}
use Rattle.calls.specs.declared.Call.{Call}
use Rattle.calls.specs.declared.Call.TheVariants.{ReadOperand, WriteOperand, EffectiveAddress, Push, Pop, ReadMemory, WriteMemory}
use Rattle.calls.specs.declared.Call.TheVariants.{TestFlag, SetFlag, ComputeFlags, ComputeSizedFlags, Arithmetic}

-- a call that lends no bytes leaves those that stand beside it
abbrev pub with_lent : List ℕ → CallResult → CallResult
with_lent l r = leaves r.machine r.store l r.event r.outcome

-- operands by RULES 5.2 and 5.3, the effective address by 3.1, push and pop by 4.3, memory by 4.1, flags by 2.9 to 2.11, arithmetic by
-- 2.12 to 2.14
unfoldable pub step : Call → MachineState → Store → List ℕ → CallResult
step (ReadOperand a z) m s l = with_lent l (read_operand m s a z)
step (WriteOperand a z v) m s l = with_lent l (write_operand m s a z v)
step (EffectiveAddress a) m s l = leaves m s l Quiet (word_outcome (address_of m a))
step Push m s l = pushed m s l
step Pop m s l = with_lent l (popped m s)
step (ReadMemory a) m s l = read_memory m s a l
step (WriteMemory a) m s l = write_memory m s a l
step (TestFlag f) m s l = leaves m s l Quiet (gives (truth (flag_in m f) ∷ []))
step (SetFlag f b) m s l = leaves (set_flag m f b) s l Quiet (gives [])
step (ComputeFlags x z) m s l = leaves (compute_flags m x z) s l Quiet (gives [])
step (ComputeSizedFlags x z) m s l = leaves (compute_sized_flags m x z) s l Quiet (gives [])
step (Arithmetic o z a b) m s l = let r = operated m o z a b in leaves r.machine s l Quiet (gives (given_values r.given))
