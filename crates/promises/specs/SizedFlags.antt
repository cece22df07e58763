-- Zero at the size (RULES 2.11; No. 4): the sized form of the flag call beside the old one. What a call does is `step`, which
-- `calls::perform` is proved to do, so that an equation here is of the whole machine, the store, the lent bytes, the event and the
-- answer.
use Rattle.std.specs.Prelude.{Bool, true, false, List, [], ◌∷◌, ◌++◌, ◌⊎◌, ◌≡◌, ℕ, ◌*◌, ◌^◌, ◌<◌, eqb}
use Rattle.utils.specs.Outcome.{gives}
use Rattle.utils.specs.Word.{extend}
use Rattle.instruction_set.specs.Sizes.{bytes_of}
use Rattle.instruction_set.specs.declared.ArgumentSize.{ArgumentSize}
use Rattle.instruction_set.specs.declared.ArgumentSize.TheVariants.{Bit64, Bit32, Bit16, Bit8}
use Rattle.instruction_set.specs.declared.Flags.TheVariants.{Zero}
use Rattle.fields.specs.Parts.{low_bits}
use Rattle.arithmetic.specs.declared.Operation.{Operation}
use Rattle.store.specs.Store.{Store, store_of}
use Rattle.machine_state.specs.Answers.{word, CallResult}
use Rattle.machine_state.specs.Flagged.{flag_in, set_flag}
use Rattle.machine_state.specs.Machine.{new_machine}
use Rattle.machine_state.specs.Memory.{leaves}
use Rattle.machine_state.specs.declared.Event.TheVariants.{Quiet}
use Rattle.machine_state.specs.declared.MachineState.{MachineState}
use Rattle.calls.specs.Step.{step}
use Rattle.calls.specs.declared.Call.TheVariants.{ComputeFlags, ComputeSizedFlags, Arithmetic}
use Rattle.promises.specs.SumTable.{all_set}
use Rattle.promises.specs.Table.{Line, line, minus, zero_sign_parity}

-- ---- the forms agree on a result that is sign-extended or zero-extended from its size
abbrev pub Extended : ArgumentSize → ℕ → Type 0
Extended z v = (v ≡ low_bits z v) ⊎ (v ≡ extend (8 * bytes_of z) (low_bits z v))

-- on a result both calls do the same to every machine, store and lent bytes
abbrev pub FormsAlike : ArgumentSize → ℕ → Type 0
FormsAlike z v =
    (m : MachineState) (s : Store) (l : List ℕ)
    → step (ComputeSizedFlags v z) m s l ≡ step (ComputeFlags v z) m s l

abbrev pub FormsAgree : Type 0
FormsAgree =
    (z : ArgumentSize) (v : ℕ)
    → Extended z v
    → FormsAlike z v

-- so at Bit64 on every word
abbrev pub OneAtBit64 : Type 0
OneAtBit64 =
    (v : ℕ)
    → v < 2 ^ 64
    → FormsAlike Bit64 v

-- ---- where they differ, they differ in Zero alone: the sized form leaves what the old one does, with Zero of the low bits
abbrev pub with_zero : Bool → CallResult → CallResult
with_zero b r = leaves (set_flag r.machine Zero b) r.store r.lent r.event r.outcome

abbrev pub ZeroAlone : Type 0
ZeroAlone =
    (z : ArgumentSize) (v : ℕ) (m : MachineState) (s : Store) (l : List ℕ)
    → step (ComputeSizedFlags v z) m s l ≡ with_zero (eqb (low_bits z v) 0) (step (ComputeFlags v z) m s l)

-- ---- exactly when the low bits are zero and the rest are not: there the old Zero is clear and the sized one set, elsewhere they agree
abbrev pub OnlyLowZero : ArgumentSize → ℕ → Type 0
OnlyLowZero z v = (low_bits z v ≡ 0) × (v ≡ 0 → ⊥)

pub record Differ (z : ArgumentSize) (v : ℕ) : Type 0 where
  pub old : (m : MachineState) (s : Store) (l : List ℕ) → flag_in (step (ComputeFlags v z) m s l).machine Zero ≡ false
  pub sized : (m : MachineState) (s : Store) (l : List ℕ) → flag_in (step (ComputeSizedFlags v z) m s l).machine Zero ≡ true

abbrev pub DifferExactly : Type 0
DifferExactly =
    (z : ArgumentSize) (v : ℕ)
    → (OnlyLowZero z v → Differ z v) × ((OnlyLowZero z v → ⊥) → FormsAlike z v)

-- ---- on every value that an operation answers (RULES 2.14) both forms agree, and after the operation the flags stand already as they
-- set them
pub record FlagsSettled (z : ArgumentSize) (v : ℕ) (m : MachineState) : Type 0 where
  pub alike : FormsAlike z v
  pub stand : (s : Store) (l : List ℕ) → step (ComputeSizedFlags v z) m s l ≡ leaves m s l Quiet (gives [])

abbrev pub AnswersTold : Type 0
AnswersTold =
    (o : Operation) (z : ArgumentSize) (a b v : ℕ) (m : MachineState) (s : Store) (l : List ℕ)
    → (step (Arithmetic o z a b) m s l).outcome ≡ gives (word v ∷ [])
    → FlagsSettled z v (step (Arithmetic o z a b) m s l).machine

-- ---- worked out by hand, one line each: Zero, Sign and Parity as the old form leaves them, then as the sized one does; once rflags whole
abbrev pub both_forms : MachineState → ℕ → ArgumentSize → List ℕ
both_forms m v z =
    zero_sign_parity (step (ComputeFlags v z) m (store_of [] [] 0) []).machine
    ++ zero_sign_parity (step (ComputeSizedFlags v z) m (store_of [] [] 0) []).machine

abbrev pub sized_examples : List Line
sized_examples =
    line (both_forms new_machine 256 Bit8) (0 ∷ 0 ∷ 1 ∷ 1 ∷ 0 ∷ 1 ∷ [])
    ∷ line (both_forms new_machine 0xff Bit8) (0 ∷ 1 ∷ 1 ∷ 0 ∷ 1 ∷ 1 ∷ [])
    ∷ line (both_forms new_machine (minus 1) Bit8) (0 ∷ 1 ∷ 1 ∷ 0 ∷ 1 ∷ 1 ∷ [])
    ∷ line (both_forms all_set 0x10000 Bit16) (0 ∷ 0 ∷ 1 ∷ 1 ∷ 0 ∷ 1 ∷ [])
    ∷ line (both_forms all_set 0x18001 Bit16) (0 ∷ 1 ∷ 0 ∷ 0 ∷ 1 ∷ 0 ∷ [])
    -- bit 63 alone: Sign at Bit64, and Zero at Bit32
    ∷ line (both_forms new_machine 0x8000000000000000 Bit32) (0 ∷ 0 ∷ 1 ∷ 1 ∷ 0 ∷ 1 ∷ [])
    ∷ line (both_forms new_machine 0x8000000000000000 Bit64) (0 ∷ 1 ∷ 1 ∷ 0 ∷ 1 ∷ 1 ∷ [])
    ∷ line (both_forms new_machine 0x100000000 Bit64) (0 ∷ 0 ∷ 1 ∷ 0 ∷ 0 ∷ 1 ∷ [])
    ∷ line (both_forms all_set 0 Bit8) (1 ∷ 0 ∷ 1 ∷ 1 ∷ 0 ∷ 1 ∷ [])
    -- every other bit of rflags stays: c4 are the three flags, all clear here
    ∷ line ((step (ComputeSizedFlags 1 Bit8) all_set (store_of [] [] 0) []).machine.rflags ∷ []) (minus 0xc5 ∷ [])
    ∷ []
