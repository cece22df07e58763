-- The flags of a machine: what a test reads and what `set_flag` leaves (RULES 2.9), and what `compute_flags` (RULES 2.10) and its sized
-- form (RULES 2.11) leave.
use Rattle.std.specs.Prelude.{ℕ, Bool}
use Rattle.fields.specs.FlagBits.{flag_of, put_flag, computed_flags, sized_flags}
use Rattle.instruction_set.specs.declared.ArgumentSize.{ArgumentSize}
use Rattle.instruction_set.specs.declared.Flags.{Flags}
use Rattle.machine_state.specs.Machine.{with_flags}
use Rattle.machine_state.specs.declared.MachineState.{MachineState}

abbrev pub flag_in : MachineState → Flags → Bool
flag_in m f = flag_of m.rflags f

abbrev pub set_flag : MachineState → Flags → Bool → MachineState
set_flag m f b = with_flags m (put_flag m.rflags f b)

abbrev pub compute_flags : MachineState → ℕ → ArgumentSize → MachineState
compute_flags m x s = with_flags m (computed_flags m.rflags x s)

abbrev pub compute_sized_flags : MachineState → ℕ → ArgumentSize → MachineState
compute_sized_flags m x s = with_flags m (sized_flags m.rflags x s)
