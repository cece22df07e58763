-- RULES 7.5 and 7.6. When 6 is given: from the numbers in their order (Refusals), of which 6 is the last. What it says: from demand 1. A
-- store that grows: a call that is refused with 6 writes, so it answers what its write does (Demand2's `accessed`), and the write's law
-- is mmu's (Grown). Assumes nothing.
use mathlib.Core.Bool.{Bool, true, false, ◌&&◌}
use mathlib.Core.List.{List, [], ◌∷◌, ◌++◌, append_assoc}
use mathlib.Core.Logic.{◌⊎◌, inl, inr}
use mathlib.Core.Path.{◌≡◌, refl, sym, ◌∙◌, ap, ap₂}
use Prim.Native.Nat.{ℕ, ◌+◌, ◌-◌, ◌*◌, ◌<◌, ◌≤◌}
use native.Mathlib.Omega.{arith}
use borrow.Author.Tests.{ltb-true, ne_eqb}
use lib.Dec.{eqb, ltb}
use lib.ListN.{length, get_or, take, drop}
use Rattle.std.proofs.lemmas.Bool.{cases_Bool, and_parts}
use Rattle.utils.specs.Bytes.{to_bytes, from_bytes}
use Rattle.utils.specs.Outcome.{Outcome, gives, refuses_with}
use Rattle.utils.specs.Word.{cut, put, extend}
use Rattle.instruction_set.specs.Registers.{row}
use Rattle.fields.specs.Parts.{read_of, write_of}
use Rattle.byte_runs.specs.Runs.{tabulate}
use Rattle.store.specs.Store.{Store, is_store, pages_in_use, unused, seek, found_in, byte_at, read_at, pages_from, touched, absent_of}
use Rattle.store.specs.Store.{with_slots}
use Rattle.walk.specs.Walk.{entry_address, word_at, next_table, walked, physical}
use Rattle.mmu.specs.Calls.{write_outcome, write_store}
use Rattle.mmu.proofs.Grown.{lacks_only, grown_walk, grown_enough, grown_short, grown_full}
use Rattle.machine_state.specs.Address.{address_of}
use Rattle.machine_state.specs.Answers.{Value, word}
use Rattle.machine_state.specs.Machine.{read_reg, write_reg}
use Rattle.machine_state.specs.Memory.{word_outcome, cr3, write_memory, stored_at, write_operand, pushed}
use Rattle.machine_state.specs.declared.MachineState.{MachineState}
use Rattle.calls.specs.Step.{step}
use Rattle.calls.specs.declared.Call.{Call}
use Rattle.calls.specs.declared.Call.TheVariants.{ReadOperand, WriteOperand, EffectiveAddress, Push, Pop, ReadMemory, WriteMemory}
use Rattle.calls.specs.declared.Call.TheVariants.{TestFlag, SetFlag, ComputeFlags, ComputeSizedFlags, Arithmetic}
use Rattle.promises.specs.Refusals.{Access, none, reading, writing, access_of, Check, check, operand_checks, no_room}
use Rattle.promises.specs.Refusals.{first_held, none_holds}
use Rattle.promises.specs.SlotsLacking.{lacking_for, said_with, LackingSaid, checked_before, SixAsBefore, MoreSlots}
use Rattle.promises.specs.SlotsLacking.{no_slots, lacking_table}
use Rattle.promises.specs.Table.{values_of, one_slot, two_slots, eighty, page_tables, all_computed, all_stated}
use Rattle.promises.proofs.Demand1.{refused_untouched}
use Rattle.promises.proofs.Demand2.{store_by, OutcomeBy, accessed}
use Rattle.promises.proofs.Refusals.{refused_in_order}

-- ---- when 6 is given: it is the last number, and no other check has it
without_six : List Check → Bool
without_six [] = true
without_six (c ∷ cs) = ltb c.number 6 && without_six cs

last_held : (cs : List Check) (b : Bool) → without_six cs ≡ true → eqb (first_held (cs ++ check 6 b ∷ [])) 6 ≡ (none_holds cs && b)
unfolding without_six
last_held [] true h = refl
last_held [] false h = refl
last_held (c ∷ cs) b h = go (cases_Bool c.holds) (last_held cs b (and_parts (ltb c.number 6) (without_six cs) h).1)
  where
    below : c.number < 6
    below = ltb-true c.number 6 (and_parts (ltb c.number 6) (without_six cs) h).0

    go : (c.holds ≡ true) ⊎ (c.holds ≡ false) → eqb (first_held (cs ++ check 6 b ∷ [])) 6 ≡ (none_holds cs && b)
        → eqb (first_held (c ∷ (cs ++ check 6 b ∷ []))) 6 ≡ (none_holds (c ∷ cs) && b)
    go (inl t) r = let k = below in rw t (ne_eqb c.number 6 (λ e. omega arith))
    go (inr f) r = rw f r

six_last : (c : Call) (m : MachineState) (s : Store) (l : List ℕ) → without_six (checked_before c m s l) ≡ true
unfolding without_six
six_last (ReadOperand a z) m s l = refl
six_last (WriteOperand a z v) m s l = refl
six_last (EffectiveAddress a) m s l = refl
six_last Push m s l = refl
six_last Pop m s l = refl
six_last (ReadMemory a) m s l = refl
six_last (WriteMemory a) m s l = refl
six_last (TestFlag f) m s l = refl
six_last (SetFlag f b) m s l = refl
six_last (ComputeFlags x z) m s l = refl
six_last (ComputeSizedFlags x z) m s l = refl
six_last (Arithmetic o z a b) m s l = refl

pub six_as_before : SixAsBefore
six_as_before c m s l =
    let six = check 6 (no_room m s (access_of c m l)) ∷ [] in
    ap (λ (n : ℕ). eqb n 6) (refused_in_order c m s l ∙ ap first_held (sym (append_assoc (operand_checks c) _ six)))
    ∙ last_held (checked_before c m s l) (no_room m s (access_of c m l)) (six_last c m s l)

-- a call that is refused with 6 writes where there is no room
six_writes : (c : Call) (m : MachineState) (s : Store) (l : List ℕ) → (step c m s l).outcome.number ≡ 6
    → no_room m s (access_of c m l) ≡ true
six_writes c m s l e =
    (and_parts (none_holds (checked_before c m s l)) (no_room m s (access_of c m l))
    (sym (six_as_before c m s l) ∙ ap (λ (n : ℕ). eqb n 6) e)).1

-- ---- what it says
some_lack : (m : MachineState) (s : Store) (g : Access) → no_room m s g ≡ true → 1 ≤ lacking_for m s g
some_lack m s (writing x d) h =
    omega (arith, ltb-true (unused s) (absent_of (pages_in_use s) (touched (physical s (cr3 m) x) (length d))) h)
some_lack m s none h = let z : ◌≡◌ {A = ℕ} 0 1 = cc in absurd (omega arith)
some_lack m s (reading x n) h = let z : ◌≡◌ {A = ℕ} 0 1 = cc in absurd (omega arith)

pub lacking_said : LackingSaid
lacking_said c m s l e =
    let g = access_of c m l in
    let u = refused_untouched c m s l (λ z. omega arith) in
    let v = u.values ∙ ap (λ (n : ℕ). said_with n (lacking_for m s g)) e in
    record {
      outcome = ap₂ {A = ℕ} {B = List Value} (λ n vs. refuses_with n vs) e v;
      at_least_one = some_lack m s g (six_writes c m s l e);
    }

-- ---- a store that grows: by the access, which is the same on both stores
module _ (m : MachineState) (s : Store) (ds bs : List ℕ) (sized : length bs ≡ 4096 * length ds)
    (small : length s.dir + length ds ≤ 65536) where
  record Grows (n : ℕ) (o : Outcome Value) (u : Store) : Type 0 where
    accepted : n ≤ length ds → o ≡ gives []
    fewer : length ds < n → o ≡ refuses_with 6 (word (n - length ds) ∷ [])
    full : length ds ≡ n → u.used ≡ length s.dir + n

  grows_by : (g : Access) (o q : Outcome Value) → no_room m s g ≡ true → o.number ≡ 6 → OutcomeBy m s o g
      → OutcomeBy m (with_slots s ds bs) q g → Grows (lacking_for m s g) q (store_by m (with_slots s ds bs) g)
  grows_by none o q r e f h = let z : ◌≡◌ {A = ℕ} 0 1 = cc in absurd (omega arith)
  grows_by (reading x n) o q r e f h = let z : ◌≡◌ {A = ℕ} 0 1 = cc in absurd (omega arith)
  grows_by (writing x d) o q r e f h =
      let p = physical s (cr3 m) x in
      let k = lacks_only s p (length d) (sym (ap (λ (w : Outcome Value). w.number) f) ∙ e) in
      let w = grown_walk s p (length d) k ds bs sized small (cr3 m) x in
      let there = h ∙ ap (λ (y : ℕ). word_outcome (write_outcome (with_slots s ds bs) y (length d))) w in
      record {
        accepted = λ le. there ∙ ap word_outcome (grown_enough s p (length d) k ds bs sized small le);
        fewer = λ lt. there ∙ ap word_outcome (grown_short s p (length d) k ds bs sized small lt);
        full = λ just. ap (λ (y : ℕ). (write_store (with_slots s ds bs) y d).used) w ∙ grown_full s p d k ds bs sized small just
            ∙ ap (λ (y : ℕ). length s.dir + y) just;
      }

pub more_slots : MoreSlots
more_slots c m s l n ds bs e sized small =
    let g = access_of c m l in
    let six = ap (λ (o : Outcome Value). o.number) e in
    let says = lacking_said c m s l six in
    let k : n ≡ lacking_for m s g = ap (λ (o : Outcome Value). get_or (values_of o.values) 0 0) (sym e ∙ says.outcome) in
    let t = with_slots s ds bs in
    let a = accessed c m t l in
    let r =
    grows_by m s ds bs sized small g (step c m s l).outcome (step c m t l).outcome (six_writes c m s l six) six
    (accessed c m s l).outcome a.outcome in
    record {
      accepted = λ le. r.accepted (omega (arith, k));
      fewer = λ lt. r.fewer (omega (arith, k)) ∙ ap (λ (j : ℕ). refuses_with 6 (word (j - length ds) ∷ [])) (sym k);
      full = λ just. ap (λ (u : Store). u.used) a.store ∙ r.full (just ∙ k) ∙ ap (λ (j : ℕ). length s.dir + j) (sym k);
    }

-- ---- the lines by hand, which the checker computes: by address, by a push, by an operand, by the walk
abbrev some : {A : Type 0} → ℕ → ℕ → List A → List A
some from n l = take n (drop from l)

by_address : some 0 4 (all_computed lacking_table) ≡ some 0 4 (all_stated lacking_table)
unfolding write_memory write_outcome no_slots one_slot two_slots eighty is_store physical touched pages_from absent_of found_in seek
by_address = refl

by_push : some 4 3 (all_computed lacking_table) ≡ some 4 3 (all_stated lacking_table)
unfolding pushed write_memory write_outcome no_slots one_slot eighty is_store physical touched pages_from absent_of found_in seek
by_push = unfold write_reg write_of row put in refl

by_operand : some 7 3 (all_computed lacking_table) ≡ some 7 3 (all_stated lacking_table)
unfolding write_memory write_outcome no_slots one_slot eighty is_store physical touched pages_from absent_of found_in seek
by_operand = unfold write_operand stored_at to_bytes address_of read_reg write_reg read_of write_of row cut put extend in refl

by_walk : some 10 3 (all_computed lacking_table) ≡ some 10 3 (all_stated lacking_table)
unfolding write_memory write_outcome page_tables is_store physical touched pages_from absent_of found_in seek write_reg write_of row put
by_walk = unfold walked next_table entry_address cut word_at from_bytes read_at tabulate byte_at in refl

pub lacking_examples_hold : all_computed lacking_table ≡ all_stated lacking_table
lacking_examples_hold =
    ap₂ (λ (a b : List (List ℕ)). a ++ b) by_address
    (ap₂ (λ (a b : List (List ℕ)). a ++ b) by_push (ap₂ (λ (a b : List (List ℕ)). a ++ b) by_operand by_walk))
