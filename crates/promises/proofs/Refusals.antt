-- The refusals in their order (RULES 7.2), of every tabled call: memory's two outcomes by their tests, then a call at a time. Assumes
-- nothing.
use Rattle.std.specs.Prelude.{Some, None}
use Rattle.std.proofs.lemmas.Bool.{cases_Bool, and_parts}
use mathlib.Core.Bool.{Bool, true, false, cond, not, ◌&&◌}
use mathlib.Core.List.{List, [], ◌∷◌}
use mathlib.Core.Logic.{◌⊎◌, inl, inr}
use mathlib.Core.Path.{◌≡◌, refl, sym, ◌∙◌, ap}
use Prim.Native.Nat.{ℕ, ◌≤◌}
use native.Mathlib.Omega.{arith}
use borrow.Author.Tests.{ne_eqb, eqb-true, leb-true}
use lib.Dec.{eqb, leb, ltb}
use lib.ListN.{length, replicate, length-replicate}
use Rattle.utils.specs.Bytes.{to_bytes}
use Rattle.utils.specs.Outcome.{Outcome, gives, refuses, refuses_with}
use Rattle.instruction_set.specs.Sizes.{bytes_of}
use Rattle.instruction_set.specs.declared.ArgumentSize.{ArgumentSize}
use Rattle.instruction_set.specs.declared.ArgumentSize.TheVariants.{Bit64}
use Rattle.instruction_set.specs.declared.InstructionArgument.{InstructionArgument}
use Rattle.instruction_set.specs.declared.InstructionArgument.TheVariants as arg
use Rattle.mmu.specs.Calls.{read_outcome, write_outcome}
use Rattle.store.specs.Store.{Store, is_store, pages_in_use, unused, touched, absent_of, slots_lacking}
use Rattle.walk.specs.Walk.{physical}
use Rattle.machine_state.specs.Address.{address_of}
use Rattle.machine_state.specs.Answers.{Value}
use Rattle.machine_state.specs.Memory.{word_outcome, cr3, rsp, minus64, read_memory, write_memory, valued, loaded, stored_at, read_operand}
use Rattle.machine_state.specs.Memory.{write_operand, pushed, popped}
use Rattle.machine_state.specs.declared.MachineState.{MachineState}
use Rattle.calls.specs.Step.{step}
use Rattle.calls.specs.declared.Call.{Call}
use Rattle.calls.specs.declared.Call.TheVariants.{ReadOperand, WriteOperand, EffectiveAddress, Push, Pop, ReadMemory, WriteMemory}
use Rattle.calls.specs.declared.Call.TheVariants.{TestFlag, SetFlag, ComputeFlags, ComputeSizedFlags, Arithmetic}
use Rattle.effects.specs.Rows.{reaches}
use Rattle.promises.specs.Refusals.{access_of, Check, check, checks, first_held, none_holds, RefusedInOrder, AcceptedExactly}
use Rattle.promises.proofs.Demand1.{never_refused}

-- ---- memory's two outcomes
not_over : (a b : ℕ) → leb a b ≡ not (ltb b a)
not_over a b = grind arith

read_number : (s : Store) (n : ℕ)
    → (read_outcome s n).number ≡ first_held (check 4 (not (is_store s)) ∷ check 5 (ltb 4096 n) ∷ check 6 false ∷ [])
unfolding read_outcome
read_number s n = rw (not_over n 4096) (go (is_store s) (ltb 4096 n))
  where
    go : (a b : Bool) → (cond a (cond (not b) (gives {X = ℕ} []) (refuses 5)) (refuses 4)).number ≡ cond (not a) 4 (cond b 5 0)
    go true true = refl
    go true false = refl
    go false b = refl

write_number : (s : Store) (p n : ℕ)
    → (write_outcome s p n).number
    ≡ first_held (check 4 (not (is_store s)) ∷ check 5 (ltb 4096 n)
    ∷ check 6 (ltb (unused s) (absent_of (pages_in_use s) (touched p n))) ∷ [])
unfolding write_outcome
write_number s p n =
    rw (not_over n 4096, not_over (absent_of (pages_in_use s) (touched p n)) (unused s))
    (go (is_store s) (ltb 4096 n) (ltb (unused s) (absent_of (pages_in_use s) (touched p n))))
  where
    go : (a b c : Bool)
        → (cond a (cond (not b) (cond (not c) (gives []) (refuses_with 6 (slots_lacking s p n ∷ []))) (refuses 5)) (refuses 4)).number
        ≡ cond (not a) 4 (cond b 5 (cond c 6 0))
    go true true c = refl
    go true false true = refl
    go true false false = refl
    go false b c = refl

-- ---- a value given: its number is the access's
valued_number : (o : Outcome Value) (v : ℕ) → (valued o v).number ≡ o.number
valued_number o v = go (cases_Bool (eqb o.number 0))
  where
    go : (eqb o.number 0 ≡ true) ⊎ (eqb o.number 0 ≡ false) → (valued o v).number ≡ o.number
    go (inl t) = rw t (sym (eqb-true o.number 0 t))
    go (inr f) = rw f refl

load_number : (m : MachineState) (s : Store) (a : ℕ) (z : ArgumentSize)
    → (loaded m s a z).outcome.number ≡ first_held (check 4 (not (is_store s)) ∷ check 5 (ltb 4096 (bytes_of z)) ∷ check 6 false ∷ [])
unfolding loaded read_memory
load_number m s a z =
    valued_number (word_outcome (read_outcome s (length (replicate {A = ℕ} (bytes_of z) 0)))) _
    ∙ ap (λ (n : ℕ). (read_outcome s n).number) (length-replicate (bytes_of z) 0)
    ∙ read_number s (bytes_of z)

store_number : (m : MachineState) (s : Store) (a : ℕ) (z : ArgumentSize) (v : ℕ)
    → (stored_at m s a z v).outcome.number
    ≡ first_held (check 4 (not (is_store s)) ∷ check 5 (ltb 4096 (length (to_bytes (bytes_of z) v)))
    ∷ check 6 (ltb (unused s) (absent_of (pages_in_use s) (touched (physical s (cr3 m) a) (length (to_bytes (bytes_of z) v))))) ∷ [])
unfolding stored_at write_memory
store_number m s a z v = write_number s (physical s (cr3 m) a) (length (to_bytes (bytes_of z) v))

-- ---- operands
operand_read : (a : InstructionArgument) (z : ArgumentSize) (m : MachineState) (s : Store) (l : List ℕ)
    → (step (ReadOperand a z) m s l).outcome.number ≡ first_held (checks (ReadOperand a z) m s l)
unfolding step read_operand address_of access_of reaches
operand_read (arg.Register r) z m s l = refl
operand_read (arg.Immediate v) z m s l = refl
operand_read (arg.EffectiveAddress b None k d) z m s l = load_number m s _ z
operand_read (arg.EffectiveAddress b (Some r) None d) z m s l = refl
operand_read (arg.EffectiveAddress b (Some r) (Some n) d) z m s l = load_number m s _ z

operand_written : (a : InstructionArgument) (z : ArgumentSize) (v : ℕ) (m : MachineState) (s : Store) (l : List ℕ)
    → (step (WriteOperand a z v) m s l).outcome.number ≡ first_held (checks (WriteOperand a z v) m s l)
unfolding step write_operand address_of access_of reaches
operand_written (arg.Register r) z v m s l = refl
operand_written (arg.Immediate x) z v m s l = refl
operand_written (arg.EffectiveAddress b None k d) z v m s l = store_number m s _ z v
operand_written (arg.EffectiveAddress b (Some r) None d) z v m s l = refl
operand_written (arg.EffectiveAddress b (Some r) (Some n) d) z v m s l = store_number m s _ z v

addressed : (a : InstructionArgument) (m : MachineState) (s : Store) (l : List ℕ)
    → (step (EffectiveAddress a) m s l).outcome.number ≡ first_held (checks (EffectiveAddress a) m s l)
unfolding step address_of access_of reaches
addressed (arg.Register r) m s l = refl
addressed (arg.Immediate v) m s l = refl
addressed (arg.EffectiveAddress b None k d) m s l = refl
addressed (arg.EffectiveAddress b (Some r) None d) m s l = refl
addressed (arg.EffectiveAddress b (Some r) (Some n) d) m s l = refl

-- ---- every call
pub refused_in_order : RefusedInOrder
unfolding step pushed popped read_memory write_memory access_of reaches
refused_in_order (ReadOperand a z) m s l = operand_read a z m s l
refused_in_order (WriteOperand a z v) m s l = operand_written a z v m s l
refused_in_order (EffectiveAddress a) m s l = addressed a m s l
refused_in_order Push m s l = write_number s (physical s (cr3 m) (minus64 (rsp m) (length l))) (length l)
refused_in_order Pop m s l = load_number m s (rsp m) Bit64
refused_in_order (ReadMemory a) m s l = read_number s (length l)
refused_in_order (WriteMemory a) m s l = write_number s (physical s (cr3 m) a) (length l)
refused_in_order (TestFlag f) m s l = refl
refused_in_order (SetFlag f b) m s l = refl
refused_in_order (ComputeFlags x z) m s l = refl
refused_in_order (ComputeSizedFlags x z) m s l = refl
refused_in_order (Arithmetic o z a b) m s l = never_refused o z a b m s l

-- ---- accepted: no number of the table is 0
some_numbers : List Check → Bool
some_numbers [] = true
some_numbers (c ∷ cs) = leb 1 c.number && some_numbers cs

none_held : (cs : List Check) → some_numbers cs ≡ true → eqb (first_held cs) 0 ≡ none_holds cs
unfolding some_numbers
none_held [] h = refl
none_held (c ∷ cs) h = go (cases_Bool c.holds) (none_held cs (and_parts (leb 1 c.number) (some_numbers cs) h).1)
  where
    some : 1 ≤ c.number
    some = leb-true 1 c.number (and_parts (leb 1 c.number) (some_numbers cs) h).0

    go : (c.holds ≡ true) ⊎ (c.holds ≡ false) → eqb (first_held cs) 0 ≡ none_holds cs → eqb (first_held (c ∷ cs)) 0 ≡ none_holds (c ∷ cs)
    go (inl t) r = let k = some in rw t (ne_eqb c.number 0 (λ e. omega arith))
    go (inr f) r = rw f r

numbered : (c : Call) (m : MachineState) (s : Store) (l : List ℕ) → some_numbers (checks c m s l) ≡ true
unfolding some_numbers
numbered (ReadOperand a z) m s l = refl
numbered (WriteOperand a z v) m s l = refl
numbered (EffectiveAddress a) m s l = refl
numbered Push m s l = refl
numbered Pop m s l = refl
numbered (ReadMemory a) m s l = refl
numbered (WriteMemory a) m s l = refl
numbered (TestFlag f) m s l = refl
numbered (SetFlag f b) m s l = refl
numbered (ComputeFlags x z) m s l = refl
numbered (ComputeSizedFlags x z) m s l = refl
numbered (Arithmetic o z a b) m s l = refl

pub accepted_exactly : AcceptedExactly
accepted_exactly c m s l = ap (λ (n : ℕ). eqb n 0) (refused_in_order c m s l) ∙ none_held (checks c m s l) (numbered c m s l)
