-- The numbers of an event (docs/FORMAT.md, "An answer").
use Rattle.std.specs.Prelude.{ℕ}
use Rattle.machine_state.specs.declared.Event.{Event}
use Rattle.machine_state.specs.declared.Event.TheVariants.{Quiet, Control, Video}
use Rattle.wire_numbers.specs.Numbers.{register_number}

-- an event's three words: what it is, the register, and the value written or the byte shown
abbrev pub event_kind : Event → ℕ
event_kind Quiet = 0
event_kind (Control r v) = 1
event_kind (Video b) = 2

abbrev pub event_register : Event → ℕ
event_register Quiet = 0
event_register (Control r v) = register_number r
event_register (Video b) = 0

abbrev pub event_value : Event → ℕ
event_value Quiet = 0
event_value (Control r v) = v
event_value (Video b) = b
