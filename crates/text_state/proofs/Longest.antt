-- How long the state's text and the lines of events can be: a text's bound is the sum of those of its parts. Assumes nothing.
use mathlib.Core.List.{List, [], ◌∷◌, ◌++◌}
use Prim.Native.Nat.{ℕ, ◌+◌, ◌*◌, ◌/◌, ◌%◌, ◌≤◌}
use native.Mathlib.Omega.{arith}
use lib.Dec.{ltb}
use lib.ListN.{length, length-append, length-replicate, get_or}
use Rattle.instruction_set.specs.Registers.{parent_of}
use Rattle.instruction_set.specs.declared.Register.{Register}
use Rattle.instruction_set.specs.declared.Register.TheVariants.{RAX}
use Rattle.machine_state.specs.declared.Event.{Event}
use Rattle.machine_state.specs.declared.Event.TheVariants as event
use Rattle.machine_state.specs.declared.MachineState.{MachineState}
use Rattle.text_pieces.proofs.Longest.{either, joined, hex_most}
use Rattle.text_pieces.specs.Ascii.{ascii}
use Rattle.text_pieces.specs.Hex.{hex_text}
use Rattle.text_names.proofs.Longest.{name_most}
use Rattle.text_state.specs.Lines.{line_of, lines_after, others, state_text, event_text, utf8, label_of}

line_most : (regs : List ℕ) (r : Register) → length (line_of regs r) ≤ 33
line_most regs r = simp (length-append, length-replicate) (omega (arith, name_most r, hex_most (get_or regs (parent_of r) 0)))

pub lines_most : (regs : List ℕ) (rs : List Register) → length (lines_after regs rs) ≤ 34 * length rs
unfolding lines_after
lines_most regs [] = omega arith
lines_most regs (r ∷ rs) = let h = lines_most regs rs in let l = line_most regs r in
    omega (arith, length-append (ascii "\n") (line_of regs r ++ lines_after regs rs), length-append (line_of regs r) (lines_after regs rs))

pub state_most : (m : MachineState) → length (state_text m) ≤ 577
state_most m = joined 33 544 (line_of m.regs RAX) (lines_after m.regs others) (line_most m.regs RAX) (lines_most m.regs others)

pub event_most : (e : Event) → length (event_text e) ≤ 21
event_most event.Quiet = omega arith
event_most (event.Control r v) =
    either 21 (ltb (parent_of r) 17) [] (ascii "CR" ++ ((label_of r ∷ []) ++ (ascii ": " ++ hex_text v))) (omega arith)
    (let h = hex_most v in omega arith)
event_most (event.Video b) =
    let h : length (utf8 b) ≤ 2 = either 2 (ltb b 128) (b ∷ []) ((192 + b / 64) ∷ (128 + b % 64) ∷ []) (omega arith) (omega arith) in
    omega arith
