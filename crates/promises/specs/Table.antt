-- The examples of RULES 10.1 to 10.12, one or two lines each: on the left what the definitions give, on the right what the example says.
use Rattle.std.specs.Prelude.{List, [], ◌∷◌, Bool, true, false, ℕ, zero, suc, ◌-◌, ◌^◌, negsuc, replicate, set, Some}
use Rattle.utils.specs.Outcome.{Outcome}
use Rattle.instruction_set.specs.declared.ArgumentSize.TheVariants.{Bit8, Bit16, Bit64}
use Rattle.instruction_set.specs.declared.Flags.TheVariants.{Parity, Zero, Sign}
use Rattle.instruction_set.specs.declared.InstructionArgument.{InstructionArgument}
use Rattle.instruction_set.specs.declared.InstructionArgument.TheVariants as arg
use Rattle.instruction_set.specs.declared.Register.{Register}
use Rattle.instruction_set.specs.declared.Register.TheVariants.{RAX, RBX, RSP, EAX, AX, AL, AH, SPL}
use Rattle.fields.specs.FlagBits.{bool_bit}
use Rattle.store.specs.Store.{page_size, Store, store_of, byte_at}
use Rattle.walk.specs.Walk.{physical}
use Rattle.machine_state.specs.Address.{address_of}
use Rattle.machine_state.specs.Answers.{Value, word, truth, CallResult}
use Rattle.machine_state.specs.Flagged.{flag_in, set_flag, compute_flags}
use Rattle.machine_state.specs.Machine.{new_machine, read_reg, write_reg}
use Rattle.machine_state.specs.Memory.{word_outcome, loaded, pushed, write_memory}
use Rattle.machine_state.specs.declared.MachineState.{MachineState}
use Rattle.calls.specs.declared.Call.TheVariants.{ReadOperand, WriteOperand, Push}
use Rattle.effects.specs.Exposed.{exposed}
use Rattle.effects.specs.Places.{Act, reads, rewrites}

pub record Line : Type 0 where
  pub computed : List ℕ
  pub stated : List ℕ

abbrev pub line : List ℕ → List ℕ → Line
line a b = record { computed = a; stated = b }

abbrev pub minus : ℕ → ℕ
minus n = 2 ^ 64 - n

-- a machine whose rax holds v
abbrev pub rax : ℕ → MachineState
rax v = write_reg new_machine RAX v

abbrev pub registers_in : MachineState → List Register → List ℕ
registers_in m [] = []
registers_in m (r ∷ rs) = read_reg m r ∷ registers_in m rs

abbrev pub zero_sign_parity : MachineState → List ℕ
zero_sign_parity m = bool_bit (flag_in m Zero) ∷ bool_bit (flag_in m Sign) ∷ bool_bit (flag_in m Parity) ∷ []

abbrev pub values_of : List Value → List ℕ
values_of [] = []
values_of (word v ∷ vs) = v ∷ values_of vs
values_of (truth b ∷ vs) = bool_bit b ∷ values_of vs

-- an outcome: its number, then its values
abbrev pub number_and_values : Outcome Value → List ℕ
number_and_values o = o.number ∷ values_of o.values

-- [base + index * 8 - 8], with base rax and index rbx
abbrev pub operand : InstructionArgument
operand = arg.EffectiveAddress (Some RAX) (Some RBX) (Some 8) (negsuc 7)

-- page 0 with bytes 80 80 at its start; an empty store with two slots, whose stale bytes are 9; one with one slot; page 0 and one slot more
unfoldable pub eighty : Store
eighty = store_of (0 ∷ []) (set (set (replicate page_size 0) 0 0x80) 1 0x80) 1

unfoldable pub two_slots : Store
two_slots = store_of (7 ∷ 7 ∷ []) (replicate 8192 9) 0

unfoldable pub one_slot : Store
one_slot = store_of (7 ∷ []) (replicate page_size 9) 0

unfoldable pub page_zero : Store
page_zero = store_of (0 ∷ 7 ∷ []) (replicate 8192 9) 1

-- pages 1, 2, 3 with the entries 0x2003 at 0x1000, 0x3003 at 0x2008, 0x600083 at 0x3008
unfoldable pub page_tables : Store
page_tables =
    store_of (1 ∷ 2 ∷ 3 ∷ [])
    (set (set (set (set (set (set (replicate 12288 0) 0 3) 1 0x20) 4104 3) 4105 0x30) 8200 0x83) 8202 0x60) 3

-- what a push of eight bytes at rsp 0 leaves: rsp, and the bytes from 2^64 - 8 on
abbrev pub eight : List ℕ
eight = 1 ∷ 2 ∷ 3 ∷ 4 ∷ 5 ∷ 6 ∷ 7 ∷ 8 ∷ []

abbrev pub after_push : CallResult
after_push = pushed new_machine two_slots eight

-- two bytes at 2^64 - 1
abbrev pub after_top : CallResult
after_top = write_memory new_machine two_slots (minus 1) (1 ∷ 2 ∷ [])

-- the exposed places of a list of calls, of the 182
abbrev pub if_yes : Bool → ℕ → List ℕ → List ℕ
if_yes true k ks = k ∷ ks
if_yes false k ks = ks

unfoldable pub places_of : ℕ → ℕ → (ℕ → Bool) → List ℕ
places_of zero k f = []
places_of (suc n) k f = if_yes (f k) k (places_of n (suc k) f)

unfoldable pub exposed_of : List Act → List ℕ
exposed_of acts = places_of 182 0 (exposed reads rewrites acts)

abbrev pub writing_register : Register → Act
writing_register r = record { call = WriteOperand (arg.Register r) Bit64 1; lent = [] }

abbrev pub reading_register : Register → Act
reading_register r = record { call = ReadOperand (arg.Register r) Bit64; lent = [] }

abbrev pub pushing_byte : Act
pushing_byte = record { call = Push; lent = 7 ∷ [] }

abbrev pub table : List Line
table =
    -- RULES 10.1: 0x80 written to AL where rax is 0 makes rax 128; AL then reads -128 and AH 0
    line (registers_in (write_reg (rax 0) AL 0x80) (RAX ∷ AL ∷ AH ∷ [])) (128 ∷ minus 128 ∷ 0 ∷ [])
    -- RULES 10.2: -1 written to EAX where rax is -1 clears its upper half: rax is 4294967295, and EAX reads -1
    ∷ line (registers_in (write_reg (rax (minus 1)) EAX (minus 1)) (RAX ∷ EAX ∷ [])) (4294967295 ∷ minus 1 ∷ [])
    -- RULES 10.3: where rax is 0x8000, AH reads -128, AL 0, AX -32768 and EAX 32768
    ∷ line (registers_in (rax 0x8000) (AH ∷ AL ∷ AX ∷ EAX ∷ [])) (minus 128 ∷ 0 ∷ minus 32768 ∷ 32768 ∷ [])
    -- RULES 10.4: where memory begins with two bytes 0x80, a read at 0 gives 128 at Bit8, and -32640 at Bit16
    ∷ line (number_and_values (loaded new_machine eighty 0 Bit8).outcome) (0 ∷ 128 ∷ [])
    ∷ line (number_and_values (loaded new_machine eighty 0 Bit16).outcome) (0 ∷ minus 32640 ∷ [])
    -- RULES 10.5: the result 256 at Bit8 clears Zero and Sign, which were set, and sets Parity
    ∷ line (zero_sign_parity (compute_flags (set_flag (set_flag new_machine Zero true) Sign true) 256 Bit8)) (0 ∷ 0 ∷ 1 ∷ [])
    -- RULES 10.6: a base of 16, an index of -1 by the scale 8 and a displacement of -8 give the address 0
    ∷ line (number_and_values (word_outcome (address_of (write_reg (rax 16) RBX (minus 1)) operand))) (0 ∷ 0 ∷ [])
    -- RULES 10.7: a push of eight bytes where rsp is 0 moves rsp to -8, and the bytes stand from 2^64 - 8 on
    ∷ line (read_reg after_push.machine RSP ∷ number_and_values (loaded new_machine after_push.store (minus 8) Bit64).outcome)
    (minus 8 ∷ 0 ∷ 0x0807060504030201 ∷ [])
    -- RULES 10.8: the second of two bytes written at 2^64 - 1 does not come round to address 0, where there is still 0
    ∷ line (after_top.outcome.number ∷ byte_at after_top.store 0 ∷ []) (0 ∷ 0 ∷ [])
    -- RULES 10.9: with cr3 0x1000 the walk goes by the three entries of `page_tables` from 0x40200005 to 0x600005
    ∷ line (physical page_tables 0x1000 0x40200005 ∷ []) (0x600005 ∷ [])
    -- RULES 10.10: two bytes at 4095 where one slot is unused: 6 if pages 0 and 1 are both absent, accepted if page 0 is there
    ∷ line
    ((write_memory new_machine one_slot 4095 (1 ∷ 2 ∷ [])).outcome.number
    ∷ (write_memory new_machine page_zero 4095 (1 ∷ 2 ∷ [])).outcome.number
    ∷ [])
    (6 ∷ 0 ∷ [])
    -- RULES 10.11: AX written and then EAX read exposes places 2 and 3; EAX written and then RAX read, none
    ∷ line (exposed_of (writing_register AX ∷ reading_register EAX ∷ [])) (2 ∷ 3 ∷ [])
    ∷ line (exposed_of (writing_register EAX ∷ reading_register RAX ∷ [])) []
    -- RULES 10.12: one byte pushed and then SPL read exposes RSP (32 to 39) and CR3 (152 to 159)
    ∷ line (exposed_of (pushing_byte ∷ reading_register SPL ∷ []))
    (32 ∷ 33 ∷ 34 ∷ 35 ∷ 36 ∷ 37 ∷ 38 ∷ 39 ∷ 152 ∷ 153 ∷ 154 ∷ 155 ∷ 156 ∷ 157 ∷ 158 ∷ 159 ∷ [])
    ∷ []

-- the two sides of a table
abbrev pub all_computed : List Line → List (List ℕ)
all_computed [] = []
all_computed (l ∷ ls) = l.computed ∷ all_computed ls

abbrev pub all_stated : List Line → List (List ℕ)
all_stated [] = []
all_stated (l ∷ ls) = l.stated ∷ all_stated ls
