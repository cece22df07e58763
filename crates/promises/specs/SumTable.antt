-- Sums and differences worked out by hand (RULES 2.12 to 2.14; No. 2), one line each: on the left what the definitions give, on the right
-- what a hand gives: the outcome's number and values, then Carry, Parity, Zero, Sign, Direction, Overflow. b + c cut to the size before
-- it is compared, or a Carry that forgets the carry in, would give others.
use Rattle.std.specs.Prelude.{true, List, [], ◌∷◌, ◌++◌, map, ℕ}
use Rattle.instruction_set.specs.declared.ArgumentSize.{ArgumentSize}
use Rattle.instruction_set.specs.declared.ArgumentSize.TheVariants.{Bit8, Bit16, Bit64}
use Rattle.instruction_set.specs.declared.Flags.TheVariants.{Carry, Parity, Zero, Sign, Direction, Overflow}
use Rattle.fields.specs.FlagBits.{bool_bit}
use Rattle.arithmetic.specs.declared.Operation.{Operation}
use Rattle.arithmetic.specs.declared.Operation.TheVariants.{Add, AddWithCarry, Subtract, SubtractWithBorrow, Compare}
use Rattle.store.specs.Store.{store_of}
use Rattle.machine_state.specs.Answers.{CallResult}
use Rattle.machine_state.specs.Flagged.{flag_in, set_flag}
use Rattle.machine_state.specs.Machine.{new_machine, with_flags}
use Rattle.machine_state.specs.declared.MachineState.{MachineState}
use Rattle.calls.specs.Step.{step}
use Rattle.calls.specs.declared.Call.TheVariants.{Arithmetic}
use Rattle.promises.specs.Table.{Line, line, minus, number_and_values}

-- what an operation on a machine leaves
abbrev pub operation_leaves : MachineState → Operation → ArgumentSize → ℕ → ℕ → CallResult
operation_leaves m o z a b = step (Arithmetic o z a b) m (store_of [] [] 0) []

abbrev pub six_flags : MachineState → List ℕ
six_flags m = map (λ f. bool_bit (flag_in m f)) (Carry ∷ Parity ∷ Zero ∷ Sign ∷ Direction ∷ Overflow ∷ [])

abbrev pub outcome_and_flags : CallResult → List ℕ
outcome_and_flags r = number_and_values r.outcome ++ six_flags r.machine

-- Carry clear, Carry set, and every bit of rflags set
abbrev pub carry_clear : MachineState
carry_clear = new_machine

abbrev pub carry_set : MachineState
carry_set = set_flag new_machine Carry true

abbrev pub all_set : MachineState
all_set = with_flags new_machine (minus 1)

abbrev pub sum_table : List Line
sum_table =
    -- a borrow in: b + 1 is not cut to the size before it is taken from a
    line (outcome_and_flags (operation_leaves carry_set SubtractWithBorrow Bit8 0x0 0xff)) (0 ∷ 0 ∷ 1 ∷ 1 ∷ 1 ∷ 0 ∷ 0 ∷ 0 ∷ [])
    ∷ line (outcome_and_flags (operation_leaves carry_set SubtractWithBorrow Bit8 0x0 0x7f)) (0 ∷ minus 128 ∷ 1 ∷ 0 ∷ 0 ∷ 1 ∷ 0 ∷ 0 ∷ [])
    ∷ line (outcome_and_flags (operation_leaves carry_set SubtractWithBorrow Bit8 0x80 0x7f)) (0 ∷ 0 ∷ 0 ∷ 1 ∷ 1 ∷ 0 ∷ 0 ∷ 1 ∷ [])
    ∷ line (outcome_and_flags (operation_leaves carry_set SubtractWithBorrow Bit8 5 5)) (0 ∷ minus 1 ∷ 1 ∷ 1 ∷ 0 ∷ 1 ∷ 0 ∷ 0 ∷ [])
    -- a carry in: it may be what makes Overflow, and Carry counts it
    ∷ line (outcome_and_flags (operation_leaves carry_set AddWithCarry Bit8 0x7f 0)) (0 ∷ minus 128 ∷ 0 ∷ 0 ∷ 0 ∷ 1 ∷ 0 ∷ 1 ∷ [])
    ∷ line (outcome_and_flags (operation_leaves carry_set AddWithCarry Bit8 0xff 0xff)) (0 ∷ minus 1 ∷ 1 ∷ 1 ∷ 0 ∷ 1 ∷ 0 ∷ 0 ∷ [])
    ∷ line (outcome_and_flags (operation_leaves carry_set AddWithCarry Bit8 0x80 0xff)) (0 ∷ minus 128 ∷ 1 ∷ 0 ∷ 0 ∷ 1 ∷ 0 ∷ 0 ∷ [])
    ∷ line (outcome_and_flags (operation_leaves carry_set AddWithCarry Bit64 (minus 1) (minus 1)))
    (0 ∷ minus 1 ∷ 1 ∷ 1 ∷ 0 ∷ 1 ∷ 0 ∷ 0 ∷ [])
    -- Carry that is set does not come in where none is asked for
    ∷ line (outcome_and_flags (operation_leaves carry_set Subtract Bit8 0x80 1)) (0 ∷ 0x7f ∷ 0 ∷ 0 ∷ 0 ∷ 0 ∷ 0 ∷ 1 ∷ [])
    ∷ line (outcome_and_flags (operation_leaves carry_set Subtract Bit8 0 0x80)) (0 ∷ minus 128 ∷ 1 ∷ 0 ∷ 0 ∷ 1 ∷ 0 ∷ 1 ∷ [])
    -- 01ff + 0001 by bytes
    ∷ line (outcome_and_flags (operation_leaves carry_clear Add Bit8 0xff 0x01)) (0 ∷ 0 ∷ 1 ∷ 1 ∷ 1 ∷ 0 ∷ 0 ∷ 0 ∷ [])
    ∷ line (outcome_and_flags (operation_leaves (operation_leaves carry_clear Add Bit8 0xff 0x01).machine AddWithCarry Bit8 0x01 0x00))
    (0 ∷ 2 ∷ 0 ∷ 0 ∷ 0 ∷ 0 ∷ 0 ∷ 0 ∷ [])
    -- bits above the size are not looked at; Direction stays; compare answers nothing
    ∷ line (outcome_and_flags (operation_leaves all_set Add Bit16 0xabcd7fff 0x10001)) (0 ∷ minus 32768 ∷ 0 ∷ 1 ∷ 0 ∷ 1 ∷ 1 ∷ 1 ∷ [])
    ∷ line (outcome_and_flags (operation_leaves all_set Compare Bit8 0x180 0x201)) (0 ∷ 0 ∷ 0 ∷ 0 ∷ 0 ∷ 1 ∷ 1 ∷ [])
    -- every other bit of rflags stays: 8c5 are the five flags, all clear here
    ∷ line ((operation_leaves all_set Add Bit8 0x40 0x21).machine.rflags ∷ []) (minus 0x8c6 ∷ [])
    ∷ []
