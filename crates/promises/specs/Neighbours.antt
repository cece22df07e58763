-- Independent neighbours (RULES 8.6; No. 7). What a call does is `step`, which `calls::perform` is proved to do; what it reads, what it
-- rewrites and whether it reaches memory is the table (effects/specs/Rows.antt); a machine of Rattle is `WellTyped` by its type.
use Rattle.std.specs.Prelude.{Bool, true, false, List, ◌≡◌, ℕ}
use Rattle.instruction_set.specs.declared.ArgumentSize.{ArgumentSize}
use Rattle.instruction_set.specs.declared.Flags.TheVariants.{Carry, Zero, Direction}
use Rattle.instruction_set.specs.declared.InstructionArgument.TheVariants.{Register}
use Rattle.instruction_set.specs.declared.Register.TheVariants.{AX, AL, AH, RSP, CR0, CR3}
use Rattle.arithmetic.specs.declared.Operation.TheVariants.{Add, AddWithCarry}
use Rattle.calls.specs.declared.Call.{Call}
use Rattle.calls.specs.declared.Call.TheVariants.{ReadOperand, WriteOperand, Push, ReadMemory, TestFlag, SetFlag, Arithmetic}
use Rattle.effects.specs.Places.{Act, State, WellTyped, does}
use Rattle.neighbours.specs.Dependent.{dependent, Dependent}
use Rattle.neighbours.specs.Swapped.{Swapped, Exchanged}

-- `dependent`, the contract of `neighbours::depends`, is the rule's sentence, and it does not matter which of the two comes first
pub record DependentMeans (c d : Call) : Type 0 where
  pub only : dependent c d ≡ true → Dependent c d
  pub where_so : Dependent c d → dependent c d ≡ true
  pub either_way : dependent c d ≡ dependent d c

-- neighbours that are not dependent can be exchanged, whatever the calls, refused or not: each answers as before, and the same state is
-- left. An answer is the outcome with its values, the event and the lent bytes; the state is the whole machine and the whole store
abbrev pub NeighboursSwap : Type 0
NeighboursSwap =
    (a b : Act) (x : State)
    → WellTyped x.machine
    → dependent a.call b.call ≡ false
    → Swapped does a b x

-- and so wherever the two stand in a list: every other call answers as before
abbrev pub NeighboursExchange : Type 0
NeighboursExchange =
    (before : List Act) (a b : Act) (after : List Act) (x : State)
    → WellTyped x.machine
    → dependent a.call b.call ≡ false
    → Exchanged does before a b after x

-- some pairs, whatever the sizes z and y, the values v and w and the truth t
pub record Pairs (z y : ArgumentSize) (v w : ℕ) (t : Bool) : Type 0 where
  pub al_ah : dependent (WriteOperand (Register AL) z v) (WriteOperand (Register AH) y w) ≡ false
  pub ax_ah : dependent (WriteOperand (Register AX) z v) (ReadOperand (Register AH) y) ≡ true
  pub carry_zero : dependent (SetFlag Carry t) (TestFlag Zero) ≡ false
  pub rsp_push : dependent (WriteOperand (Register RSP) z v) Push ≡ true
  -- the walk goes by CR3 alone
  pub cr0_memory : dependent (WriteOperand (Register CR0) z v) (ReadMemory w) ≡ false
  pub cr3_memory : dependent (WriteOperand (Register CR3) z v) (ReadMemory w) ≡ true
  -- by their kind, though they would give the same in either order
  pub two_reads : dependent (ReadMemory v) (ReadMemory w) ≡ true
  -- sums and the flags of results do not reach memory (RULES 8.2)
  pub sum_memory : dependent (Arithmetic Add z v w) (ReadMemory w) ≡ false
  pub sum_sum : dependent (Arithmetic Add z v w) (Arithmetic AddWithCarry y v w) ≡ true
  pub direction_sum : dependent (SetFlag Direction t) (Arithmetic AddWithCarry z v w) ≡ false
