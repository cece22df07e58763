-- A flag by its number (RULES 2.8, 9.8), for a host that is not written in Rattle and has no `Flags`.
use Rattle.std.specs.Prelude.{Bool, true, false, not, ℕ, eqb, Option, Some, None}
use Rattle.instruction_set.specs.declared.Flags.{Flags}
use Rattle.machine_state.specs.Flagged.{set_flag}
use Rattle.machine_state.specs.declared.MachineState.{MachineState}

-- whether a number named one
abbrev pub names_flag : Option Flags → Bool
names_flag None = false
names_flag (Some f) = true

-- 0 clears, any other value sets
abbrev pub is_set : ℕ → Bool
is_set v = not (eqb v 0)

-- a number that names no flag leaves the machine as it is
unfoldable pub set_numbered : MachineState → Option Flags → Bool → MachineState
set_numbered m None b = m
set_numbered m (Some f) b = set_flag m f b
