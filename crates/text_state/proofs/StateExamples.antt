-- The labels and lines that the rules name (RULES 6.8), and the longest state (RULES 6.9), computed. Assumes nothing.
use mathlib.Core.List.{[], ◌∷◌, map}
use mathlib.Core.Path.{◌≡◌, refl}
use lib.Count.{count_leading_zeros}
use lib.ListN.{length, replicate}
use Rattle.instruction_set.specs.Registers.{row}
use Rattle.instruction_set.specs.declared.Register.TheVariants.{CR0, CR2, CR3, CR4, CR8}
use Rattle.machine_state.specs.declared.Event.TheVariants.{Control, Video}
use Rattle.machine_state.specs.declared.MachineState.{MachineState}
use Rattle.text_pieces.specs.Ascii.{ascii}
use Rattle.text_pieces.specs.Hex.{hex_digits}
use Rattle.text_names.specs.Names.{name_of}
use Rattle.text_state.specs.Lines.{lines_after, label_of, event_text, state_text}

-- the labels of the control registers
pub labels : map label_of (CR0 ∷ CR2 ∷ CR3 ∷ CR4 ∷ CR8 ∷ []) ≡ ascii "02345"
unfolding row
labels = refl

-- event lines: CR8 -1, and the byte 0xe9
pub event_lines : event_text (Control CR8 18446744073709551615) ∷ event_text (Video 233) ∷ []
    ≡ ascii "CR5: ffffffffffffffff" ∷ ascii "VIDEO: Ã©" ∷ []
unfolding row count_leading_zeros hex_digits
event_lines = refl

-- every register -1
abbrev full : MachineState
full = record { regs = replicate 22 18446744073709551615; rflags = 0; gdt = 0; idt = 0 }

pub longest_state : length (state_text full) ≡ 577
unfolding count_leading_zeros hex_digits name_of lines_after row
longest_state = refl
