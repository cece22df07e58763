-- The machine's registers: what a read gives and a write leaves, by the table of registers (RULES 2.4, 2.5).
use Rattle.std.specs.Prelude.{ℕ, Bool, true, false, cond, List, [], ◌∷◌, replicate, ◌==◌, slice_index, slice_set}
use Rattle.fields.specs.Parts.{read_of, write_of}
use Rattle.instruction_set.specs.Registers.{parent_of, part_of}
use Rattle.instruction_set.specs.declared.Register.{Register}
use Rattle.instruction_set.specs.declared.Register.TheVariants.{CR0, CR2, CR3, CR4, CR8}
use Rattle.machine_state.specs.declared.Changed.{Changed}
use Rattle.machine_state.specs.declared.Event.{Event}
use Rattle.machine_state.specs.declared.Event.TheVariants.{Quiet, Control}
use Rattle.machine_state.specs.declared.MachineState.{MachineState}

-- a new machine is all zeros (RULES 2.1)
abbrev pub new_machine : MachineState
new_machine = record { regs = replicate 22 0; rflags = 0; gdt = 0; idt = 0 }

-- m with other registers, or with other flags, and all else as it is
abbrev pub with_regs : MachineState → List ℕ → MachineState
with_regs m xs = record { regs = xs; rflags = m.rflags; gdt = m.gdt; idt = m.idt }

abbrev pub with_flags : MachineState → ℕ → MachineState
with_flags m x = record { regs = m.regs; rflags = x; gdt = m.gdt; idt = m.idt }

-- the machine after a call, and its event
abbrev pub changed : MachineState → Event → Changed
changed m e = record { machine = m; event = e }

-- parent i (RULES 2.2)
abbrev pub parent_at : MachineState → ℕ → ℕ
parent_at m i = slice_index m.regs i

-- what a register reads, and the machine after one is written (RULES 2.4, 2.5)
unfoldable pub read_reg : MachineState → Register → ℕ
read_reg m r = read_of (part_of r) (parent_at m (parent_of r))

unfoldable pub write_reg : MachineState → Register → ℕ → MachineState
write_reg m r v = with_regs m (slice_set m.regs (parent_of r) (write_of (part_of r) (parent_at m (parent_of r)) v))

-- the registers whose writing gives an event (RULES 2.7)
abbrev pub controls : List Register
controls = CR0 ∷ CR2 ∷ CR3 ∷ CR4 ∷ CR8 ∷ []

-- whether parent i is that of one of these registers
abbrev pub parent_among : ℕ → List Register → Bool
parent_among i [] = false
parent_among i (r ∷ rs) = cond (i == parent_of r) true (parent_among i rs)

-- whether r is one of the five: its parent tells, each being the only register of its parent (`control_named`: proofs/Controls.antt)
unfoldable pub is_control : Register → Bool
is_control r = parent_among (parent_of r) controls

-- writing one of the five gives an event, with the register and the value; writing another gives none (RULES 2.7)
unfoldable pub event_of : Register → ℕ → Event
event_of r v = cond (is_control r) (Control r v) Quiet
