-- The numbers of demand 1, for every tabled call: the conditions of the refusals one by one (RULES 7.1), and their order (RULES 7.2).
use Rattle.std.specs.Prelude.{Bool, true, false, cond, not, ◌&&◌, List, [], ◌∷◌, ◌++◌, ◌≡◌, ℕ, ltb, length}
use Rattle.utils.specs.Bytes.{to_bytes}
use Rattle.utils.specs.Outcome.{accepted, on_value}
use Rattle.instruction_set.specs.Operands.{no_address, is_immediate, lacks_scale}
use Rattle.instruction_set.specs.Sizes.{bytes_of}
use Rattle.instruction_set.specs.declared.InstructionArgument.{InstructionArgument}
use Rattle.store.specs.Store.{page_size, Store, is_store, pages_in_use, unused, touched, absent_of}
use Rattle.walk.specs.Walk.{physical}
use Rattle.machine_state.specs.Address.{address_of}
use Rattle.machine_state.specs.Memory.{rsp, cr3, minus64}
use Rattle.machine_state.specs.declared.MachineState.{MachineState}
use Rattle.calls.specs.Step.{step}
use Rattle.calls.specs.declared.Call.{Call}
use Rattle.calls.specs.declared.Call.TheVariants.{ReadOperand, WriteOperand, EffectiveAddress, Push, Pop, ReadMemory, WriteMemory}
use Rattle.calls.specs.declared.Call.TheVariants.{TestFlag, SetFlag, ComputeFlags, ComputeSizedFlags, Arithmetic}
use Rattle.effects.specs.Rows.{reaches}

-- ---- the access that a call makes: so many bytes are read, or these are written, from an address on
pub data Access : Type 0 where
  none : Access
  reading : ℕ → ℕ → Access
  writing : ℕ → List ℕ → Access

-- an operand in memory stands at its effective address; a register, an immediate and one that has no address make no access
abbrev pub at_operand : MachineState → InstructionArgument → (ℕ → Access) → Access
at_operand m a go = on_value (address_of m a) go none

unfoldable pub access_of : Call → MachineState → List ℕ → Access
access_of (ReadOperand a z) m l = at_operand m a (λ x. reading x (bytes_of z))
access_of (WriteOperand a z v) m l = at_operand m a (λ x. writing x (to_bytes (bytes_of z) v))
access_of (EffectiveAddress a) m l = none
access_of Push m l = writing (minus64 (rsp m) (length l)) l
access_of Pop m l = reading (rsp m) 8
access_of (ReadMemory a) m l = reading a (length l)
access_of (WriteMemory a) m l = writing a l
access_of (TestFlag f) m l = none
access_of (SetFlag f b) m l = none
access_of (ComputeFlags x z) m l = none
access_of (ComputeSizedFlags x z) m l = none
access_of (Arithmetic o z a b) m l = none

-- ---- a number of the table, and whether its condition holds
pub record Check : Type 0 where
  pub number : ℕ
  pub holds : Bool

abbrev pub check : ℕ → Bool → Check
check n b = record { number = n; holds = b }

-- 1, 2, 3: where a call uses an operand
abbrev pub operand_checks : Call → List Check
operand_checks (ReadOperand a z) = check 3 (lacks_scale a) ∷ []
operand_checks (WriteOperand a z v) = check 2 (is_immediate a) ∷ check 3 (lacks_scale a) ∷ []
operand_checks (EffectiveAddress a) = check 1 (no_address a) ∷ check 3 (lacks_scale a) ∷ []
operand_checks Push = []
operand_checks Pop = []
operand_checks (ReadMemory a) = []
operand_checks (WriteMemory a) = []
operand_checks (TestFlag f) = []
operand_checks (SetFlag f b) = []
operand_checks (ComputeFlags x z) = []
operand_checks (ComputeSizedFlags x z) = []
operand_checks (Arithmetic o z a b) = []

-- 5: more than 4,096 bytes (RULES 4.1)
abbrev pub too_long : Access → Bool
too_long none = false
too_long (reading x n) = ltb page_size n
too_long (writing x d) = ltb page_size (length d)

-- 6: more absent pages than unused slots (RULES 3.9)
abbrev pub no_room : MachineState → Store → Access → Bool
no_room m s none = false
no_room m s (reading x n) = false
no_room m s (writing x d) = ltb (unused s) (absent_of (pages_in_use s) (touched (physical s (cr3 m) x) (length d)))

-- 4: memory is reached, and what is lent is no store (RULES 3.5); then 5, then 6
abbrev pub memory_checks : Call → MachineState → Store → List ℕ → List Check
memory_checks c m s l =
    check 4 (reaches c && not (is_store s)) ∷ check 5 (too_long (access_of c m l)) ∷ check 6 (no_room m s (access_of c m l)) ∷ []

abbrev pub checks : Call → MachineState → Store → List ℕ → List Check
checks c m s l = operand_checks c ++ memory_checks c m s l

-- the first that holds, or 0; whether none does
abbrev pub first_held : List Check → ℕ
first_held [] = 0
first_held (c ∷ cs) = cond c.holds c.number (first_held cs)

abbrev pub none_holds : List Check → Bool
none_holds [] = true
none_holds (c ∷ cs) = not c.holds && none_holds cs

-- ---- every call is refused with the first number whose condition holds, and is accepted exactly where none does
abbrev pub RefusedInOrder : Type 0
RefusedInOrder =
    (c : Call) (m : MachineState) (s : Store) (l : List ℕ)
    → (step c m s l).outcome.number ≡ first_held (checks c m s l)

abbrev pub AcceptedExactly : Type 0
AcceptedExactly =
    (c : Call) (m : MachineState) (s : Store) (l : List ℕ)
    → accepted (step c m s l).outcome ≡ none_holds (checks c m s l)
