-- The state's text (RULES 6.7) and the lines of events (RULES 6.8).
use Rattle.std.specs.Prelude.{cond, List, [], ◌∷◌, ◌++◌, ℕ, ◌+◌, ◌-◌, ◌/◌, ◌%◌, ltb, length, get_or, replicate}
use Rattle.instruction_set.specs.Registers.{parent_of}
use Rattle.instruction_set.specs.declared.Register.{Register}
use Rattle.instruction_set.specs.declared.Register.TheVariants.{RAX, RBX, RCX, RDX, RSI, RDI, RBP, RSP, R8, R9, R10, R11, R12, R13, R14}
use Rattle.instruction_set.specs.declared.Register.TheVariants.{R15, RIP}
use Rattle.machine_state.specs.declared.Event.{Event}
use Rattle.machine_state.specs.declared.Event.TheVariants as event
use Rattle.machine_state.specs.declared.MachineState.{MachineState}
use Rattle.text_pieces.specs.Ascii.{ascii}
use Rattle.text_pieces.specs.Hex.{hex_text}
use Rattle.text_names.specs.Names.{name_of}

-- ---- the state: the name, spaces up to column 15, `0x` and hex (RULES 6.7)
abbrev pub padded : List ℕ → List ℕ
padded t = t ++ replicate (15 - length t) 32

abbrev pub line_of : List ℕ → Register → List ℕ
line_of regs r = padded (name_of r) ++ (ascii "0x" ++ hex_text (get_or regs (parent_of r) 0))

-- each further line stands after a newline; none stands at the end
unfoldable pub lines_after : List ℕ → List Register → List ℕ
lines_after regs [] = []
lines_after regs (r ∷ rs) = ascii "\n" ++ (line_of regs r ++ lines_after regs rs)

-- after the line of rax, in the order of RULES 6.7
abbrev pub others : List Register
others = RBX ∷ RCX ∷ RDX ∷ RSI ∷ RDI ∷ RBP ∷ RSP ∷ R8 ∷ R9 ∷ R10 ∷ R11 ∷ R12 ∷ R13 ∷ R14 ∷ R15 ∷ RIP ∷ []

abbrev pub state_text : MachineState → List ℕ
state_text m = line_of m.regs RAX ++ lines_after m.regs others

-- ---- events (RULES 6.8): a label and lowercase hex; CR8's label is `CR5: `, as in the Rust
-- the label's digit for CR0, CR2, CR3, CR4 and CR8, parents 17 to 21
abbrev pub label_of : Register → ℕ
label_of r = get_or (ascii "02345") (parent_of r - 17) 0

-- no call of the machine gives an event of another register (RULES 2.7, machine_state's `event_of`); it would have no line (RULES 6.8)
abbrev pub control_text : Register → ℕ → List ℕ
control_text r v = cond (ltb (parent_of r) 17) [] (ascii "CR" ++ ((label_of r ∷ []) ++ (ascii ": " ++ hex_text v)))

-- the character of this number, in UTF-8 (RULES 6.8)
abbrev pub utf8 : ℕ → List ℕ
utf8 b = cond (ltb b 128) (b ∷ []) ((192 + b / 64) ∷ (128 + b % 64) ∷ [])

abbrev pub event_text : Event → List ℕ
event_text event.Quiet = []
event_text (event.Control r v) = control_text r v
event_text (event.Video b) = ascii "VIDEO: " ++ utf8 b
