-- An operation on two given values (RULES 2.12 to 2.14): what it leaves of a machine, and what it gives.
use Rattle.std.specs.Prelude.{ℕ, cond}
use Rattle.instruction_set.specs.declared.ArgumentSize.{ArgumentSize}
use Rattle.arithmetic.specs.Sums.{gives_value, computed_of}
use Rattle.arithmetic.specs.declared.Operation.{Operation}
use Rattle.machine_state.specs.Machine.{with_flags}
use Rattle.machine_state.specs.declared.Given.{Given}
use Rattle.machine_state.specs.declared.Given.TheVariants.{Nothing, Word}
use Rattle.machine_state.specs.declared.MachineState.{MachineState}
use Rattle.machine_state.specs.declared.Operated.{Operated}

-- a value, but for compare (RULES 2.14)
abbrev pub operation_given : Operation → ℕ → Given
operation_given o v = cond (gives_value o) (Word v) Nothing

unfoldable pub operated : MachineState → Operation → ArgumentSize → ℕ → ℕ → Operated
operated m o z a b =
    let r = computed_of m.rflags o z a b in
    record { machine = with_flags m r.rflags; given = operation_given o r.value }
