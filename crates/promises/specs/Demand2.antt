-- What the definitions of demand 2 shut out (RULES 9.4): a machine that always refuses, one that always reads 0, one whose writes do
-- nothing, or only the first of a list. What each of them would have to break, as statements about the calls. That a call is accepted
-- wherever no condition of a refusal holds is `AcceptedExactly`, Refusals.antt.
use Rattle.std.specs.Prelude.{Bool, true, false, cond, ◌&&◌, List, [], ◌∷◌, ◌⊎◌, ◌≡◌, ℕ, ◌+◌, ◌-◌, ◌*◌, ◌%◌, ◌^◌, ◌<◌, ◌≤◌, eqb, ltb, leb}
use Rattle.std.specs.Prelude.{length, get_or}
use Rattle.utils.specs.Bytes.{from_bytes}
use Rattle.utils.specs.Outcome.{gives, accepted}
use Rattle.utils.specs.Word.{lane, extend}
use Rattle.instruction_set.specs.Registers.{parent_of, part_of, first_lane, lanes_read}
use Rattle.instruction_set.specs.declared.InstructionArgument.{InstructionArgument}
use Rattle.instruction_set.specs.declared.InstructionArgument.TheVariants as arg
use Rattle.instruction_set.specs.Sizes.{bytes_of}
use Rattle.instruction_set.specs.declared.ArgumentSize.{ArgumentSize}
use Rattle.fields.specs.Parts.{memory_value, low_bits}
use Rattle.instruction_set.specs.declared.Flags.{Flags}
use Rattle.instruction_set.specs.declared.Register.{Register}
use Rattle.fields.specs.FlagBits.{bool_bit, even_ones, sign_in}
use Rattle.arithmetic.specs.Sums.{worked_at}
use Rattle.store.specs.Store.{Store, pages_in_use, touched, absent_of, byte_at}
use Rattle.walk.specs.Walk.{physical, entries_read}
use Rattle.machine_state.specs.Answers.{word}
use Rattle.machine_state.specs.Flagged.{flag_in, set_flag}
use Rattle.machine_state.specs.Machine.{read_reg, write_reg}
use Rattle.machine_state.specs.Memory.{rsp, cr3, leaves, minus64, read_memory, write_memory, loaded, stored_at, pushed, popped}
use Rattle.machine_state.specs.declared.Event.TheVariants.{Quiet}
use Rattle.machine_state.specs.declared.MachineState.{MachineState}
use Rattle.calls.specs.declared.Call.{Call}
use Rattle.calls.specs.declared.Call.TheVariants.{ReadOperand, WriteOperand, EffectiveAddress, Push, Pop, ReadMemory, WriteMemory}
use Rattle.calls.specs.declared.Call.TheVariants.{TestFlag, SetFlag, ComputeFlags, ComputeSizedFlags, Arithmetic}
use Rattle.effects.specs.Exposed.{end}
use Rattle.effects.specs.Places.{Act, State, WellTyped, place, does, rewrites}
use Rattle.promises.specs.Refusals.{Access, none, reading, writing, access_of}

-- ---- one write: no machine that reads 0 always, and none whose writes change nothing
-- an accepted write reads back where it leaves the walk as it was
abbrev pub MemoryReadsBack : Type 0
MemoryReadsBack =
    (m : MachineState) (s : Store) (a : ℕ) (d out : List ℕ)
    → accepted (write_memory m s a d).outcome ≡ true
    → length out ≡ length d
    → physical (write_memory m s a d).store (cr3 m) a ≡ physical s (cr3 m) a
    → (read_memory m (write_memory m s a d).store a out).lent ≡ d

-- when a walk stays: with cr3 = 0 always, and otherwise where the write goes over none of the three entries that the walk reads
abbrev pub Apart : MachineState → Store → ℕ → List ℕ → ℕ → Type 0
Apart m s p d b =
    (j : ℕ)
    → j < 3
    → (get_or (entries_read s 3 (cr3 m) b) j 0 + 8 ≤ p) ⊎ (p + length d ≤ get_or (entries_read s 3 (cr3 m) b) j 0)

abbrev pub WalkStays : Type 0
WalkStays =
    (m : MachineState) (s : Store) (a : ℕ) (d : List ℕ) (b : ℕ)
    → accepted (write_memory m s a d).outcome ≡ true
    → (cr3 m ≡ 0) ⊎ Apart m s (physical s (cr3 m) a) d b
    → physical (write_memory m s a d).store (cr3 m) b ≡ physical s (cr3 m) b

-- every other byte of memory stays
abbrev pub OthersStay : Type 0
OthersStay =
    (m : MachineState) (s : Store) (a : ℕ) (d : List ℕ)
    → accepted (write_memory m s a d).outcome ≡ true
    → (q : ℕ)
    → (q < physical s (cr3 m) a) ⊎ (physical s (cr3 m) a + length d ≤ q)
    → byte_at (write_memory m s a d).store q ≡ byte_at s q

-- a push of 8 bytes and then a pop: the bytes come back as a value, and the machine is as it was
abbrev pub PopsBack : Type 0
PopsBack =
    (m : MachineState) (s : Store) (d : List ℕ)
    → WellTyped m
    → length d ≡ 8
    → accepted (pushed m s d).outcome ≡ true
    → physical (pushed m s d).store (cr3 m) (minus64 (rsp m) 8) ≡ physical s (cr3 m) (minus64 (rsp m) 8)
    → popped (pushed m s d).machine (pushed m s d).store ≡ leaves m (pushed m s d).store [] Quiet (gives (word (from_bytes d) ∷ []))

-- what is written to a register reads back, sign-extended from the register's size
abbrev pub RegistersBack : Type 0
RegistersBack =
    (m : MachineState) (r : Register) (v : ℕ)
    → length m.regs ≡ 22
    → read_reg (write_reg m r v) r ≡ extend (8 * lanes_read (part_of r)) v

-- a value written at an address reads back at the same size, extended by it (RULES 4.2)
abbrev pub OperandsBack : Type 0
OperandsBack =
    (m : MachineState) (s : Store) (a : ℕ) (z : ArgumentSize) (v : ℕ)
    → accepted (stored_at m s a z v).outcome ≡ true
    → physical (stored_at m s a z v).store (cr3 m) a ≡ physical s (cr3 m) a
    → (loaded m (stored_at m s a z v).store a z).outcome ≡ gives (word (memory_value z (v % 2 ^ (8 * bytes_of z))) ∷ [])

-- a flag that is set tests as it was set
abbrev pub FlagsBack : Type 0
FlagsBack =
    (m : MachineState) (f : Flags) (b : Bool)
    → flag_in (set_flag m f b) f ≡ b

-- ---- lists: no machine that honours only the first write of a list
-- what a call gives to one byte of memory, or to one place of the machine: nothing, or a value
pub data GivenValue : Type 0 where
  nothing : GivenValue
  value : ℕ → GivenValue

abbrev pub if_so : Bool → ℕ → GivenValue
if_so true v = value v
if_so false v = nothing

-- what held b holds what it is given
abbrev pub holding : GivenValue → ℕ → ℕ
holding nothing b = b
holding (value v) b = v

-- what held b, after the calls of a list: each finds the machine and the store as those before it left them, and the last that gives a
-- value counts
unfoldable pub last_given : (Act → State → GivenValue) → List Act → State → ℕ → ℕ
last_given given [] x b = b
last_given given (a ∷ acts) x b = last_given given acts (does a x).after (holding (given a x) b)

abbrev pub is_accepted : Act → State → Bool
is_accepted a x = accepted (does a x).answer.outcome

-- memory: an accepted write gives its bytes to those from the physical address of its first one on
abbrev pub byte_from : ℕ → ℕ → List ℕ → GivenValue
byte_from q p d = if_so (leb p q && ltb q (p + length d)) (get_or d (q - p) 0)

abbrev pub byte_written : MachineState → Store → Access → ℕ → GivenValue
byte_written m s none q = nothing
byte_written m s (reading x n) q = nothing
byte_written m s (writing x d) q = byte_from q (physical s (cr3 m) x) d

abbrev pub byte_given : ℕ → Act → State → GivenValue
byte_given q a x = cond (is_accepted a x) (byte_written x.machine x.store (access_of a.call x.machine a.lent) q) nothing

abbrev pub BytesLast : Type 0
BytesLast =
    (acts : List Act) (x : State) (q : ℕ)
    → byte_at (end does acts x).store q ≡ last_given (byte_given q) acts x (byte_at x.store q)

-- lanes and flags: an accepted call gives to each place of its rewrite row what its rule says; other places keep what they had.
-- A register gets the low lanes of the value, as many as it has, with zeros above them
abbrev pub lane_of : InstructionArgument → ℕ → ℕ → ℕ
lane_of (arg.Register r) v p = lane (p - (8 * parent_of r + first_lane (part_of r))) (v % 2 ^ (8 * lanes_read (part_of r)))
lane_of (arg.Immediate x) v p = 0
lane_of (arg.EffectiveAddress b i s d) v p = 0

-- a result gives Parity, Zero and Sign, places 177 to 179; Zero is as told
abbrev pub result_flag_at : Bool → ℕ → ArgumentSize → ℕ → ℕ
result_flag_at b v z p = bool_bit (get_or (even_ones v ∷ b ∷ sign_in z v ∷ []) (p - 177) false)

-- rsp stands at places 32 to 39, and the flags at 176 to 181: Carry, Parity, Zero, Sign, Direction, which no operation rewrites, Overflow
unfoldable pub place_value : Call → MachineState → List ℕ → ℕ → ℕ
place_value (ReadOperand a z) m l p = 0
place_value (WriteOperand a z v) m l p = lane_of a v p
place_value (EffectiveAddress a) m l p = 0
place_value Push m l p = lane (p - 32) (minus64 (rsp m) (length l))
place_value Pop m l p = lane (p - 32) ((rsp m + 8) % 2 ^ 64)
place_value (ReadMemory a) m l p = 0
place_value (WriteMemory a) m l p = 0
place_value (TestFlag f) m l p = 0
place_value (SetFlag f b) m l p = bool_bit b
place_value (ComputeFlags v z) m l p = result_flag_at (eqb v 0) v z p
place_value (ComputeSizedFlags v z) m l p = result_flag_at (eqb (low_bits z v) 0) v z p
place_value (Arithmetic o z a b) m l p =
    let r = worked_at m.rflags o z a b in
    let v = r.value in
    bool_bit (get_or (r.carry ∷ even_ones v ∷ eqb v 0 ∷ sign_in z v ∷ false ∷ r.overflow ∷ []) (p - 176) false)

abbrev pub place_given : ℕ → Act → State → GivenValue
place_given p a x = if_so (is_accepted a x && rewrites a p) (place_value a.call x.machine a.lent p)

abbrev pub PlacesLast : Type 0
PlacesLast =
    (acts : List Act) (x : State) (p : ℕ)
    → WellTyped x.machine
    → place (end does acts x).machine p ≡ last_given (place_given p) acts x (place x.machine p)

-- the count: a slot for each absent page that a write touches, where it is accepted (RULES 3.9)
abbrev pub slots_for : MachineState → Store → Access → ℕ
slots_for m s none = 0
slots_for m s (reading x n) = 0
slots_for m s (writing x d) = absent_of (pages_in_use s) (touched (physical s (cr3 m) x) (length d))

abbrev pub slots_taken : Act → State → ℕ
slots_taken a x = cond (is_accepted a x) (slots_for x.machine x.store (access_of a.call x.machine a.lent)) 0

unfoldable pub all_taken : List Act → State → ℕ
all_taken [] x = 0
all_taken (a ∷ acts) x = slots_taken a x + all_taken acts (does a x).after

abbrev pub CountRule : Type 0
CountRule =
    (acts : List Act) (x : State)
    → (end does acts x).store.used ≡ x.store.used + all_taken acts x
