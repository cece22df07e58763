-- Demand 1 of every call: by the call, and within it by whether memory's part is refused. Assumes nothing.
use Rattle.std.specs.Prelude.{Some, None}
use mathlib.Core.Bool.{Bool, true, false, cond}
use mathlib.Core.List.{List, [], ◌∷◌}
use mathlib.Core.Path.{◌≡◌, refl}
use Prim.Native.Nat.{ℕ}
use borrow.Author.Tests.{ne_eqb}
use lib.Dec.{leb, eqb}
use lib.ListN.{length, replicate}
use Rattle.utils.specs.Bytes.{to_bytes, from_bytes}
use Rattle.utils.specs.Outcome.{gives, refuses, refuses_with}
use Rattle.instruction_set.specs.Sizes.{bytes_of}
use Rattle.instruction_set.specs.declared.ArgumentSize.{ArgumentSize}
use Rattle.instruction_set.specs.declared.ArgumentSize.TheVariants.{Bit64}
use Rattle.instruction_set.specs.declared.InstructionArgument.{InstructionArgument}
use Rattle.instruction_set.specs.declared.InstructionArgument.TheVariants as arg
use Rattle.fields.specs.Parts.{memory_value}
use Rattle.arithmetic.specs.declared.Operation.{Operation}
use Rattle.mmu.specs.Calls.{read_outcome, read_out, write_outcome, write_store, shown_of}
use Rattle.store.specs.Store.{Store, is_store, pages_in_use, unused, touched, absent_of, slots_lacking}
use Rattle.walk.specs.Walk.{physical}
use Rattle.machine_state.specs.Address.{address_of}
use Rattle.machine_state.specs.Answers.{CallResult}
use Rattle.machine_state.specs.Memory.{leaves, word_outcome, cr3, rsp, minus64, read_memory, write_memory, valued, with_value, loaded}
use Rattle.machine_state.specs.Memory.{stored_at}
use Rattle.machine_state.specs.Memory.{read_operand, write_operand, rsp_if_accepted, pushed, popped}
use Rattle.machine_state.specs.declared.Event.TheVariants.{Quiet}
use Rattle.machine_state.specs.declared.MachineState.{MachineState}
use Rattle.calls.specs.Step.{step, with_lent}
use Rattle.calls.specs.declared.Call.TheVariants.{ReadOperand, WriteOperand, EffectiveAddress, Push, Pop, ReadMemory, WriteMemory}
use Rattle.calls.specs.declared.Call.TheVariants.{TestFlag, SetFlag, ComputeFlags, ComputeSizedFlags, Arithmetic}
use Rattle.promises.specs.Refusals.{writing, at_operand, access_of}
use Rattle.promises.specs.SlotsLacking.{lacking_for, said_with}
use Rattle.promises.specs.Demand1.{Untouched, RefusedUntouched}

-- ---- what memory's outcomes say: 6 how many slots lack, and nothing else
read_says : (s : Store) (n k : ℕ) → (word_outcome (read_outcome s n)).values ≡ said_with (read_outcome s n).number k
unfolding read_outcome
read_says s n k = go (is_store s) (leb n 4096)
  where
    go : (a b : Bool) → (let o = cond a (cond b (gives []) (refuses 5)) (refuses 4) in (word_outcome o).values ≡ said_with o.number k)
    go true true = refl
    go true false = refl
    go false b = refl

write_says : (s : Store) (p n : ℕ)
    → (word_outcome (write_outcome s p n)).values ≡ said_with (write_outcome s p n).number (slots_lacking s p n)
unfolding write_outcome
write_says s p n = go (is_store s) (leb n 4096) (leb (absent_of (pages_in_use s) (touched p n)) (unused s))
  where
    k : ℕ
    k = slots_lacking s p n

    go : (a b c : Bool)
        → (let o = cond a (cond b (cond c (gives []) (refuses_with 6 (k ∷ []))) (refuses 5)) (refuses 4) in
        (word_outcome o).values ≡ said_with o.number k)
    go true true true = refl
    go true true false = refl
    go true false c = refl
    go false b c = refl

-- ---- memory by address
module _ (m : MachineState) (s : Store) (a : ℕ) (l : List ℕ) where
  read_untouched : (k : ℕ) → ((read_memory m s a l).outcome.number ≡ 0 → ⊥) → Untouched m s l k (read_memory m s a l)
  unfolding read_memory read_out
  read_untouched k h = record {
    machine = refl;
    store = refl;
    lent = rw (ne_eqb (read_outcome s (length l)).number 0 h);
    event = refl;
    values = read_says s (length l) k;
  }

  write_untouched : ((write_memory m s a l).outcome.number ≡ 0 → ⊥) → Untouched m s l (lacking_for m s (writing a l)) (write_memory m s a l)
  unfolding write_memory write_store shown_of
  write_untouched h =
      let p = physical s (cr3 m) a in
      record {
        machine = refl;
        store = rw (ne_eqb (write_outcome s p (length l)).number 0 h);
        lent = refl;
        event = rw (ne_eqb (write_outcome s p (length l)).number 0 h);
        values = write_says s p (length l);
      }

-- ---- a value given, rsp moved, other bytes beside
module _ (m : MachineState) (s : Store) (l : List ℕ) (k : ℕ) (r : CallResult) where
  beside_untouched : (g : List ℕ) → Untouched m s l k r → Untouched m s g k (with_lent g r)
  beside_untouched g u = record { machine = u.machine; store = u.store; lent = refl; event = u.event; values = u.values }

  valued_refused : (v : ℕ) → ((valued r.outcome v).number ≡ 0 → ⊥) → (r.outcome.number ≡ 0 → ⊥)
  valued_refused v h e = h (rw e)

  value_untouched : (v : ℕ) → ((valued r.outcome v).number ≡ 0 → ⊥) → Untouched m s l k r → Untouched m s [] k (with_value r v)
  value_untouched v h u = record {
    machine = u.machine;
    store = u.store;
    lent = refl;
    event = u.event;
    values = rw (ne_eqb r.outcome.number 0 (valued_refused v h)) u.values;
  }

  moved_untouched : (x : ℕ) → (r.outcome.number ≡ 0 → ⊥) → Untouched m s l k r → Untouched m s l k (rsp_if_accepted r x)
  moved_untouched x h u = record {
    machine = rw (ne_eqb r.outcome.number 0 h) u.machine;
    store = u.store;
    lent = u.lent;
    event = u.event;
    values = u.values;
  }

load_untouched : (m : MachineState) (s : Store) (a : ℕ) (z : ArgumentSize) (k : ℕ) → ((loaded m s a z).outcome.number ≡ 0 → ⊥)
    → Untouched m s [] k (loaded m s a z)
unfolding loaded
load_untouched m s a z k h =
    let o = replicate {A = ℕ} (bytes_of z) 0 in
    let r = read_memory m s a o in
    let v = memory_value z (from_bytes r.lent) in
    value_untouched m s o k r v h (read_untouched m s a o k (valued_refused m s o k r v h))

store_untouched : (m : MachineState) (s : Store) (a : ℕ) (z : ArgumentSize) (v : ℕ) → ((stored_at m s a z v).outcome.number ≡ 0 → ⊥)
    → Untouched m s [] (lacking_for m s (writing a (to_bytes (bytes_of z) v))) (stored_at m s a z v)
unfolding stored_at
store_untouched m s a z v h =
    let d = to_bytes (bytes_of z) v in
    beside_untouched m s d _ (write_memory m s a d) [] (write_untouched m s a d h)

-- ---- operands
plain : (m : MachineState) (s : Store) (l : List ℕ) (k n : ℕ) → eqb n 6 ≡ false → Untouched m s l k (leaves m s l Quiet (refuses n))
plain m s l k n e = record { machine = refl; store = refl; lent = refl; event = refl; values = rw e }

operand_read : (m : MachineState) (s : Store) (a : InstructionArgument) (z : ArgumentSize) (k : ℕ)
    → ((read_operand m s a z).outcome.number ≡ 0 → ⊥) → Untouched m s [] k (read_operand m s a z)
unfolding read_operand address_of
operand_read m s (arg.Register r) z k h = absurd (h refl)
operand_read m s (arg.Immediate v) z k h = absurd (h refl)
operand_read m s (arg.EffectiveAddress b None c d) z k h = load_untouched m s _ z k h
operand_read m s (arg.EffectiveAddress b (Some r) None d) z k h = plain m s [] k 3 refl
operand_read m s (arg.EffectiveAddress b (Some r) (Some n) d) z k h = load_untouched m s _ z k h

operand_written : (m : MachineState) (s : Store) (a : InstructionArgument) (z : ArgumentSize) (v : ℕ)
    → ((write_operand m s a z v).outcome.number ≡ 0 → ⊥)
    → Untouched m s [] (lacking_for m s (at_operand m a (λ x. writing x (to_bytes (bytes_of z) v)))) (write_operand m s a z v)
unfolding write_operand address_of
operand_written m s (arg.Register r) z v h = absurd (h refl)
operand_written m s (arg.Immediate x) z v h = plain m s [] _ 2 refl
operand_written m s (arg.EffectiveAddress b None k d) z v h = store_untouched m s _ z v h
operand_written m s (arg.EffectiveAddress b (Some r) None d) z v h = plain m s [] _ 3 refl
operand_written m s (arg.EffectiveAddress b (Some r) (Some n) d) z v h = store_untouched m s _ z v h

addressed : (m : MachineState) (s : Store) (l : List ℕ) (a : InstructionArgument) (k : ℕ) → ((word_outcome (address_of m a)).number ≡ 0 → ⊥)
    → Untouched m s l k (step (EffectiveAddress a) m s l)
unfolding step address_of
addressed m s l (arg.Register r) k h = plain m s l k 1 refl
addressed m s l (arg.Immediate v) k h = plain m s l k 1 refl
addressed m s l (arg.EffectiveAddress b None c d) k h = absurd (h refl)
addressed m s l (arg.EffectiveAddress b (Some r) None d) k h = plain m s l k 3 refl
addressed m s l (arg.EffectiveAddress b (Some r) (Some n) d) k h = absurd (h refl)

-- an operation on two given values is never refused, whatever machine, store and lent bytes it is carried out on
pub never_refused : (o : Operation) (z : ArgumentSize) (a b : ℕ) (m : MachineState) (s : Store) (l : List ℕ)
    → (step (Arithmetic o z a b) m s l).outcome.number ≡ 0
unfolding step
never_refused o z a b m s l = refl

pub refused_untouched : RefusedUntouched
unfolding step pushed popped access_of
refused_untouched (ReadOperand a z) m s l h = beside_untouched m s [] _ (read_operand m s a z) l (operand_read m s a z _ h)
refused_untouched (WriteOperand a z v) m s l h = beside_untouched m s [] _ (write_operand m s a z v) l (operand_written m s a z v h)
refused_untouched (EffectiveAddress a) m s l h = addressed m s l a _ h
refused_untouched Push m s l h =
    let w = write_memory m s (minus64 (rsp m) (length l)) l in
    moved_untouched m s l _ w (minus64 (rsp m) (length l)) h (write_untouched m s (minus64 (rsp m) (length l)) l h)
refused_untouched Pop m s l h =
    let r = loaded m s (rsp m) Bit64 in
    beside_untouched m s [] _ (popped m s) l (moved_untouched m s [] _ r _ h (load_untouched m s (rsp m) Bit64 _ h))
refused_untouched (ReadMemory a) m s l h = read_untouched m s a l _ h
refused_untouched (WriteMemory a) m s l h = write_untouched m s a l h
refused_untouched (TestFlag f) m s l h = absurd (h refl)
refused_untouched (SetFlag f b) m s l h = absurd (h refl)
refused_untouched (ComputeFlags x z) m s l h = absurd (h refl)
refused_untouched (ComputeSizedFlags x z) m s l h = absurd (h refl)
refused_untouched (Arithmetic o z a b) m s l h = absurd (h (never_refused o z a b m s l))
