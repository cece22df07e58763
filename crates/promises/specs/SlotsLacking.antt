-- What refusal 6 says: how many slots lack (RULES 7.5, 7.6; No. 5). Stated of every tabled call, by what the call does (`step`, the
-- contract of `calls::perform`). That no other refusal says anything stands in Demand1.antt.
use Rattle.std.specs.Prelude.{cond, not, ◌&&◌, List, [], ◌∷◌, ◌++◌, ◌≡◌, ℕ, ◌+◌, ◌-◌, ◌*◌, ◌<◌, ◌≤◌, eqb, pos, length, Some, None}
use Rattle.utils.specs.Outcome.{gives, refuses_with}
use Rattle.instruction_set.specs.declared.ArgumentSize.TheVariants.{Bit8, Bit16}
use Rattle.instruction_set.specs.declared.InstructionArgument.{InstructionArgument}
use Rattle.instruction_set.specs.declared.InstructionArgument.TheVariants as arg
use Rattle.instruction_set.specs.declared.Register.TheVariants.{RSP, CR3}
use Rattle.store.specs.Store.{page_size, Store, store_of, is_store, slots_lacking, with_slots}
use Rattle.walk.specs.Walk.{physical}
use Rattle.machine_state.specs.Answers.{Value, word}
use Rattle.machine_state.specs.Machine.{new_machine, write_reg}
use Rattle.machine_state.specs.Memory.{cr3, write_memory, write_operand, pushed}
use Rattle.machine_state.specs.declared.MachineState.{MachineState}
use Rattle.calls.specs.Step.{step}
use Rattle.calls.specs.declared.Call.{Call}
use Rattle.effects.specs.Rows.{reaches}
use Rattle.promises.specs.Refusals.{Access, none, reading, writing, access_of, Check, check, operand_checks, too_long, no_room, none_holds}
use Rattle.promises.specs.Table.{Line, line, number_and_values, one_slot, two_slots, eighty, page_tables}

-- how many slots a call lacks: those of its write, at the address to which the walk leads
abbrev pub lacking_for : MachineState → Store → Access → ℕ
lacking_for m s none = 0
lacking_for m s (reading x n) = 0
lacking_for m s (writing x d) = slots_lacking s (physical s (cr3 m) x) (length d)

-- what the refusal of number n says besides it, where k slots lack: 6 says k, the others nothing
abbrev pub said_with : ℕ → ℕ → List Value
said_with n k = cond (eqb n 6) (word k ∷ []) []

-- where 6 is given, it says so many, and at least one
pub record SaysLacking (c : Call) (m : MachineState) (s : Store) (l : List ℕ) : Type 0 where
  pub outcome : (step c m s l).outcome ≡ refuses_with 6 (word (lacking_for m s (access_of c m l)) ∷ [])
  pub at_least_one : 1 ≤ lacking_for m s (access_of c m l)

abbrev pub LackingSaid : Type 0
LackingSaid =
    (c : Call) (m : MachineState) (s : Store) (l : List ℕ)
    → (step c m s l).outcome.number ≡ 6
    → SaysLacking c m s l

-- ---- 6 is given exactly where nothing holds that is checked before it (RULES 7.2), and a write needs more slots for absent pages
-- than are unused (`no_room`, in which nothing is subtracted)
abbrev pub checked_before : Call → MachineState → Store → List ℕ → List Check
checked_before c m s l = operand_checks c ++ check 4 (reaches c && not (is_store s)) ∷ check 5 (too_long (access_of c m l)) ∷ []

abbrev pub SixAsBefore : Type 0
SixAsBefore =
    (c : Call) (m : MachineState) (s : Store) (l : List ℕ)
    → eqb (step c m s l).outcome.number 6 ≡ (none_holds (checked_before c m s l) && no_room m s (access_of c m l))

-- ---- what the number is good for (RULES 7.6): the same call on the same store with more slots, whatever numbers ds and bytes bs they
-- hold. A call that lacked n slots is accepted with n more, and with fewer it lacks the rest; with just n more, every slot is in use
-- after it
pub record WithMore (c : Call) (m : MachineState) (s : Store) (l : List ℕ) (n : ℕ) (ds bs : List ℕ) : Type 0 where
  pub accepted : n ≤ length ds → (step c m (with_slots s ds bs) l).outcome ≡ gives []
  pub fewer : length ds < n → (step c m (with_slots s ds bs) l).outcome ≡ refuses_with 6 (word (n - length ds) ∷ [])
  pub full : length ds ≡ n → (step c m (with_slots s ds bs) l).store.used ≡ length s.dir + n

-- a store has at most 65,536 slots (RULES 3.5): one that grew past them would be refused with 4
abbrev pub MoreSlots : Type 0
MoreSlots =
    (c : Call) (m : MachineState) (s : Store) (l : List ℕ) (n : ℕ) (ds bs : List ℕ)
    → (step c m s l).outcome ≡ refuses_with 6 (word n ∷ [])
    → length bs ≡ page_size * length ds
    → length s.dir + length ds ≤ 65536
    → WithMore c m s l n ds bs

-- ---- worked out by hand, one table with one claim: 6 and the number, or 0
unfoldable pub no_slots : Store
no_slots = store_of [] [] 0

abbrev pub two_bytes : List ℕ
two_bytes = 1 ∷ 2 ∷ []

-- an operand at 4095, and one where rsp points; a machine whose push of two bytes goes to 4095, and one that walks
abbrev pub at4095 : InstructionArgument
at4095 = arg.EffectiveAddress None None None (pos 4095)

abbrev pub at_stack : InstructionArgument
at_stack = arg.EffectiveAddress (Some RSP) None None (pos 0)

abbrev pub stack_at_4097 : MachineState
stack_at_4097 = write_reg new_machine RSP 4097

abbrev pub walking : MachineState
walking = write_reg new_machine CR3 0x1000

abbrev pub lacking_table : List Line
lacking_table =
    -- by address: two bytes at 4095 in no slot, in one, in two; one byte in a new page of a full store
    line (number_and_values (write_memory new_machine no_slots 4095 two_bytes).outcome) (6 ∷ 2 ∷ [])
    ∷ line (number_and_values (write_memory new_machine one_slot 4095 two_bytes).outcome) (6 ∷ 1 ∷ [])
    ∷ line (number_and_values (write_memory new_machine two_slots 4095 two_bytes).outcome) (0 ∷ [])
    ∷ line (number_and_values (write_memory new_machine eighty 4096 (1 ∷ [])).outcome) (6 ∷ 1 ∷ [])
    -- the same by a push, but for the store of two slots
    ∷ line (number_and_values (pushed stack_at_4097 no_slots two_bytes).outcome) (6 ∷ 2 ∷ [])
    ∷ line (number_and_values (pushed stack_at_4097 one_slot two_bytes).outcome) (6 ∷ 1 ∷ [])
    ∷ line (number_and_values (pushed stack_at_4097 eighty (1 ∷ [])).outcome) (6 ∷ 1 ∷ [])
    -- and by an operand's write
    ∷ line (number_and_values (write_operand new_machine no_slots at4095 Bit16 513).outcome) (6 ∷ 2 ∷ [])
    ∷ line (number_and_values (write_operand new_machine one_slot at4095 Bit16 513).outcome) (6 ∷ 1 ∷ [])
    ∷ line (number_and_values (write_operand stack_at_4097 eighty at_stack Bit8 1).outcome) (6 ∷ 1 ∷ [])
    -- by the walk of RULES 10.9, in a full store: two bytes in one page that the walk leads to, in two, and in one that is there
    ∷ line (number_and_values (write_memory walking page_tables 0x40200005 two_bytes).outcome) (6 ∷ 1 ∷ [])
    ∷ line (number_and_values (write_memory walking page_tables 0x40200fff two_bytes).outcome) (6 ∷ 2 ∷ [])
    ∷ line (number_and_values (write_memory walking page_tables 0x40001000 two_bytes).outcome) (0 ∷ [])
    ∷ []
