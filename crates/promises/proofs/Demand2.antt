-- Demand 2's laws. One write: from the laws of mmu. Lists: what one call gives to a byte, to a place and to the count, a call at a time,
-- and then one induction over the list for all of them (`last_is`). Assumes nothing.
use Rattle.std.specs.Prelude.{Some, None}
use Rattle.std.proofs.lemmas.Bool.{cases_Bool}
use mathlib.Core.Bool.{Bool, true, false, cond, ◌&&◌, ◌||◌, and-false}
use mathlib.Core.List.{List, [], ◌∷◌}
use mathlib.Core.Logic.{◌⊎◌, inl, inr}
use mathlib.Core.Path.{◌≡◌, refl, sym, ◌∙◌, ap, subst}
use Prim.Native.Nat.{ℕ, ◌+◌, ◌-◌, ◌%◌, ◌^◌, ◌<◌, ◌≤◌}
use native.Mathlib.Nat.{mod-lt}
use native.Mathlib.Omega.{arith}
use borrow.Author.Tests.{eqb-true}
use lib.Dec.{eqb, ltb, leb}
use lib.ListN.{length, get_or, set, replicate, length-replicate}
use lib.Pow.{pow_pos}
use lib.Seq.{get_or-set_same, get_or-set_other, set-set, set-get_or}
use Rattle.utils.specs.Bytes.{to_bytes, from_bytes}
use Rattle.utils.proofs.Bytes.{from_to, length_to_bytes}
use Rattle.instruction_set.specs.Sizes.{bytes_of}
use Rattle.fields.specs.Parts.{memory_value, low_bits}
use Rattle.utils.specs.Outcome.{Outcome, gives, accepted}
use Rattle.utils.specs.Word.{cut, lane}
use Rattle.instruction_set.specs.Registers.{row}
use Rattle.instruction_set.specs.declared.ArgumentSize.{ArgumentSize}
use Rattle.instruction_set.specs.declared.ArgumentSize.TheVariants.{Bit64}
use Rattle.instruction_set.specs.declared.Flags.{Flags}
use Rattle.instruction_set.specs.declared.Flags.TheVariants.{Carry, Parity, Zero, Sign, Overflow}
use Rattle.instruction_set.specs.declared.InstructionArgument.TheVariants as arg
use Rattle.instruction_set.specs.declared.Register.TheVariants.{RSP}
use Rattle.fields.specs.FlagBits.{bool_bit, even_ones, sign_in}
use Rattle.fields.proofs.FlagLaws.{flag_back}
use Rattle.arithmetic.specs.Sums.{worked_at, flags_of, computed_of}
use Rattle.arithmetic.specs.declared.Sum.{Sum}
use Rattle.mmu.specs.Calls.{read_outcome, read_out, write_outcome, write_store}
use Rattle.store.specs.Store.{Store, is_store, byte_at}
use Rattle.walk.specs.Walk.{physical}
use Rattle.mmu.proofs.Answers.{read_done, out_done, accepts_only, write_accepted}
use Rattle.mmu.proofs.Laws.{law_out, law_byte, law_read, law_sound, law_walk, law_count}
use Rattle.walk.proofs.Walked.{physical_off}
use Rattle.machine_state.specs.Address.{address_of}
use Rattle.machine_state.specs.Answers.{Value, word, CallResult}
use Rattle.machine_state.specs.Flagged.{set_flag}
use Rattle.machine_state.specs.Memory.{rsp, cr3, with_rsp, leaves, word_outcome, read_memory, write_memory, loaded, stored_at, read_operand}
use Rattle.machine_state.specs.Memory.{write_operand, minus64, pushed, popped}
use Rattle.machine_state.specs.Operating.{operated}
use Rattle.machine_state.specs.declared.Event.TheVariants.{Quiet}
use Rattle.machine_state.specs.declared.MachineState.{MachineState}
use Rattle.machine_state.proofs.Lanes.{write_read}
use Rattle.calls.specs.Step.{step}
use Rattle.calls.specs.declared.Call.{Call}
use Rattle.calls.specs.declared.Call.TheVariants.{ReadOperand, WriteOperand, EffectiveAddress, Push, Pop, ReadMemory, WriteMemory}
use Rattle.calls.specs.declared.Call.TheVariants.{TestFlag, SetFlag, ComputeFlags, ComputeSizedFlags, Arithmetic}
use Rattle.effects.specs.Exposed.{end}
use Rattle.effects.specs.Places.{Act, State, WellTyped, place, does, rewrites}
use Rattle.effects.specs.Rows.{nothing as noSpans, flag_place, flag_span, rewrite_span, three_flags, rewrites_of, in_span, in_spans}
use Rattle.effects.proofs.Owed.{owes, three_flags_lem}
use Rattle.effects.proofs.Places.{Renews, write_new, flag_new, flag_renews, resulted, flagged, rsp_written}
use Rattle.effects.proofs.Theorem.{stays_well_typed}
use Rattle.effects.proofs.Within.{in_low, in_high, one_only, five_in_turn, five_flags_lem, nothing_in}
use Rattle.promises.specs.Demand2.{MemoryReadsBack, WalkStays, OthersStay, PopsBack, RegistersBack, OperandsBack, FlagsBack}
use Rattle.promises.specs.Demand2.{GivenValue, nothing, if_so, holding, last_given, byte_written, byte_given, BytesLast, result_flag_at}
use Rattle.promises.specs.Demand2.{place_value, place_given, PlacesLast, slots_for, slots_taken, all_taken, CountRule}
use Rattle.promises.specs.Refusals.{Access, none, reading, writing, access_of}
use Rattle.promises.proofs.Demand1.{refused_untouched}

-- ---- one write
module _ (m : MachineState) (s : Store) (a : ℕ) (d : List ℕ) (e : accepted (write_memory m s a d).outcome ≡ true) where
  fits : write_outcome s (physical s (cr3 m) a) (length d) ≡ gives []
  unfolding write_memory
  fits = write_accepted s (physical s (cr3 m) a) (length d) (eqb-true (write_outcome s (physical s (cr3 m) a) (length d)).number 0 e)

  -- the store stays one
  pub sound_after : is_store (write_memory m s a d).store ≡ true
  unfolding write_memory
  sound_after = law_sound s (physical s (cr3 m) a) d fits

  -- a read of as many bytes is accepted after it, and gives them
  read_after : (out : List ℕ) → length out ≡ length d → read_outcome (write_memory m s a d).store (length out) ≡ gives []
  read_after out n =
      let q = accepts_only s (physical s (cr3 m) a) (length d) fits in
      read_done (write_memory m s a d).store (length out) sound_after (omega (arith, q.short))

  read_back : (out : List ℕ) → length out ≡ length d → physical (write_memory m s a d).store (cr3 m) a ≡ physical s (cr3 m) a
      → read_out (write_memory m s a d).store (cr3 m) a out ≡ d
  unfolding write_memory
  read_back out n w =
      let t = write_store s (physical s (cr3 m) a) d in
      out_done t (cr3 m) a out (read_after out n) ∙ rw (w, n) (law_read s (physical s (cr3 m) a) d fits)

pub reads_accepted : (m : MachineState) (s : Store) (a : ℕ) (out : List ℕ) → is_store s ≡ true → length out ≤ 4096
    → (read_memory m s a out).outcome ≡ gives []
unfolding read_memory
reads_accepted m s a out h n = ap word_outcome (read_done s (length out) h n)

pub reads_back : MemoryReadsBack
unfolding read_memory
reads_back m s a d out e n w = read_back m s a d e out n w

pub walk_stays : WalkStays
unfolding write_memory
walk_stays m s a d b e (inl z) = physical_off (write_store s (physical s (cr3 m) a) d) (cr3 m) b z ∙ sym (physical_off s (cr3 m) b z)
walk_stays m s a d b e (inr apart) = law_walk s (physical s (cr3 m) a) d (fits m s a d e) (cr3 m) b apart

pub others_stay : OthersStay
unfolding write_memory
others_stay m s a d e q h = law_out s (physical s (cr3 m) a) d (fits m s a d e) q h

pub operands_back : OperandsBack
unfolding stored_at loaded read_memory
operands_back m s a z v e w =
    let d = to_bytes (bytes_of z) v in
    let o = replicate {A = ℕ} (bytes_of z) 0 in
    let n : length o ≡ length d = length-replicate (bytes_of z) 0 ∙ sym (length_to_bytes (bytes_of z) v) in
    rw (read_after m s a d e o n, read_back m s a d e o n w) (ap (λ (x : ℕ). gives (word (memory_value z x) ∷ [])) (from_to (bytes_of z) v))

pub flags_back : FlagsBack
flags_back m f b = flag_back m.rflags f b

pub registers_back : RegistersBack
registers_back m r v h = write_read m r v h

-- ---- a push and then a pop
module _ (m : MachineState) (g : WellTyped m) where
  rsp_set : (x : ℕ) → rsp (with_rsp m x) ≡ x
  rsp_set x = get_or-set_same m.regs 4 x 0 (omega (arith, g.parents))

  cr3_kept : (x : ℕ) → cr3 (with_rsp m x) ≡ cr3 m
  cr3_kept x = get_or-set_other m.regs 4 19 x 0 (λ e. omega arith)

  rsp_back : (x y : ℕ) → y ≡ rsp m → with_rsp (with_rsp m x) y ≡ m
  rsp_back x y e =
      let regs : set (set m.regs 4 x) 4 y ≡ m.regs =
      set-set m.regs 4 x y ∙ ap (λ (v : ℕ). set m.regs 4 v) e ∙ set-get_or m.regs 4 0 in
      λ i. record { regs = regs i; rflags = m.rflags; gdt = m.gdt; idt = m.idt }

  up_again : (minus64 (rsp m) 8 + 8) % 2 ^ 64 ≡ rsp m
  up_again = let h = g.words 4 (omega arith) in omega arith

loaded_is : (m : MachineState) (s : Store) (a : ℕ) (d : List ℕ) → read_outcome s 8 ≡ gives [] → read_out s (cr3 m) a (replicate 8 0) ≡ d
    → loaded m s a Bit64 ≡ leaves m s [] Quiet (gives (word (from_bytes d) ∷ []))
unfolding loaded read_memory
loaded_is m s a d e f = rw (e, f)

popped_is : (n : MachineState) (s : Store) (v : ℕ) → loaded n s (rsp n) Bit64 ≡ leaves n s [] Quiet (gives (word v ∷ []))
    → popped n s ≡ leaves (with_rsp n ((rsp n + 8) % 2 ^ 64)) s [] Quiet (gives (word v ∷ []))
unfolding popped
popped_is n s v e = rw e

write_machine : (m : MachineState) (s : Store) (a : ℕ) (d : List ℕ) → (write_memory m s a d).machine ≡ m
unfolding write_memory
write_machine m s a d = refl

pub pops_back : PopsBack
unfolding pushed
pops_back m s d g n e w =
    let x = minus64 (rsp m) 8 in
    let there : minus64 (rsp m) (length d) ≡ x = ap (minus64 (rsp m)) n in
    rw (e, there, write_machine m s x d)
    (let o : accepted (write_memory m s x d).outcome ≡ true = rw there at e in
    let t = (write_memory m s x d).store in
    let z = replicate {A = ℕ} 8 0 in
    let k = with_rsp m x in
    let b : read_out t (cr3 k) x z ≡ d = rw (cr3_kept m g x) (read_back m s x d o z (sym n) (rw there at w)) in
    let r : loaded k t (rsp k) Bit64 ≡ leaves k t [] Quiet (gives (word (from_bytes d) ∷ [])) =
    rw (rsp_set m g x) (loaded_is k t x d (read_after m s x d o z (sym n)) b) in
    popped_is k t (from_bytes d) r ∙ ap (λ (y : MachineState). leaves y t [] Quiet (gives (word (from_bytes d) ∷ [])))
    (rsp_back m g x ((rsp k + 8) % 2 ^ 64) (ap (λ (v : ℕ). (v + 8) % 2 ^ 64) (rsp_set m g x) ∙ up_again m g)))

-- ---- lists: what holds of each call holds of the list
last_is : (given : Act → State → GivenValue) (of : State → ℕ) (Good : State → Type 0)
    → ((a : Act) (x : State) → Good x → Good (does a x).after)
    → ((a : Act) (x : State) → Good x → of (does a x).after ≡ holding (given a x) (of x))
    → (acts : List Act) (x : State) → Good x → of (end does acts x) ≡ last_given given acts x (of x)
unfolding end last_given
last_is given of Good keep one [] x g = refl
last_is given of Good keep one (a ∷ acts) x g =
    last_is given of Good keep one acts (does a x).after (keep a x g) ∙ ap (last_given given acts (does a x).after) (one a x g)

-- ---- memory: the store after a call is what its access leaves, and a writing call answers what its write does
abbrev pub store_by : MachineState → Store → Access → Store
store_by m s none = s
store_by m s (reading x n) = s
store_by m s (writing x d) = write_store s (physical s (cr3 m) x) d

abbrev pub OutcomeBy : MachineState → Store → Outcome Value → Access → Type 0
OutcomeBy m s o none = Unit {0}
OutcomeBy m s o (reading x n) = Unit {0}
OutcomeBy m s o (writing x d) = o ≡ word_outcome (write_outcome s (physical s (cr3 m) x) (length d))

pub record Accessed (c : Call) (m : MachineState) (s : Store) (l : List ℕ) : Type 0 where
  pub store : (step c m s l).store ≡ store_by m s (access_of c m l)
  pub outcome : OutcomeBy m s (step c m s l).outcome (access_of c m l)

pub accessed : (c : Call) (m : MachineState) (s : Store) (l : List ℕ) → Accessed c m s l
unfolding step read_operand write_operand address_of loaded stored_at pushed popped read_memory write_memory access_of
accessed (ReadOperand (arg.Register r) z) m s l = record { store = refl; outcome = tt }
accessed (ReadOperand (arg.Immediate v) z) m s l = record { store = refl; outcome = tt }
accessed (ReadOperand (arg.EffectiveAddress b None k d) z) m s l = record { store = refl; outcome = tt }
accessed (ReadOperand (arg.EffectiveAddress b (Some r) None d) z) m s l = record { store = refl; outcome = tt }
accessed (ReadOperand (arg.EffectiveAddress b (Some r) (Some n) d) z) m s l = record { store = refl; outcome = tt }
accessed (WriteOperand (arg.Register r) z v) m s l = record { store = refl; outcome = tt }
accessed (WriteOperand (arg.Immediate x) z v) m s l = record { store = refl; outcome = tt }
accessed (WriteOperand (arg.EffectiveAddress b None k d) z v) m s l = record { store = refl; outcome = refl }
accessed (WriteOperand (arg.EffectiveAddress b (Some r) None d) z v) m s l = record { store = refl; outcome = tt }
accessed (WriteOperand (arg.EffectiveAddress b (Some r) (Some n) d) z v) m s l = record { store = refl; outcome = refl }
accessed (EffectiveAddress a) m s l = record { store = refl; outcome = tt }
accessed Push m s l = record { store = refl; outcome = refl }
accessed Pop m s l = record { store = refl; outcome = tt }
accessed (ReadMemory a) m s l = record { store = refl; outcome = tt }
accessed (WriteMemory a) m s l = record { store = refl; outcome = refl }
accessed (TestFlag f) m s l = record { store = refl; outcome = tt }
accessed (SetFlag f b) m s l = record { store = refl; outcome = tt }
accessed (ComputeFlags x z) m s l = record { store = refl; outcome = tt }
accessed (ComputeSizedFlags x z) m s l = record { store = refl; outcome = tt }
accessed (Arithmetic o z a b) m s l = record { store = refl; outcome = tt }

-- what no test decides
either : {X : Type 0} (b : Bool) (x : X) → cond b x x ≡ x
either b x = grind arith

store_stays : (s : Store) (p k : ℕ) (d : List ℕ) → k ≡ (write_outcome s p (length d)).number → eqb k 0 ≡ false → write_store s p d ≡ s
unfolding write_store
store_stays s p k d h f = rw (sym (ap (λ (j : ℕ). eqb j 0) h) ∙ f)

module _ (m : MachineState) (s : Store) (o : Outcome Value) where
  byte_by : (g : Access) (q : ℕ) → OutcomeBy m s o g
      → byte_at (store_by m s g) q ≡ holding (cond (accepted o) (byte_written m s g q) nothing) (byte_at s q)
  byte_by none q h = rw (either (accepted o) nothing)
  byte_by (reading x n) q h = rw (either (accepted o) nothing)
  byte_by (writing x d) q h = go (cases_Bool (accepted o))
    where
      p : ℕ
      p = physical s (cr3 m) x

      k : o.number ≡ (write_outcome s p (length d)).number
      k = ap (λ (w : Outcome Value). w.number) h

      inside : (b : Bool) (v w : ℕ) → cond b v w ≡ holding (if_so b v) w
      inside true v w = refl
      inside false v w = refl

      go : (accepted o ≡ true) ⊎ (accepted o ≡ false)
          → byte_at (write_store s p d) q ≡ holding (cond (accepted o) (byte_written m s (writing x d) q) nothing) (byte_at s q)
      go (inl t) =
          let e = write_accepted s p (length d) (sym k ∙ eqb-true o.number 0 t) in
          rw t (law_byte s p d e q ∙ inside (leb p q && ltb q (p + length d)) (get_or d (q - p) 0) (byte_at s q))
      go (inr f) = rw f (ap (λ (u : Store). byte_at u q) (store_stays s p o.number d k f))

  count_by : (g : Access) → OutcomeBy m s o g → (store_by m s g).used ≡ s.used + cond (accepted o) (slots_for m s g) 0
  count_by none h = rw (either {X = ℕ} (accepted o) 0) (omega arith)
  count_by (reading x n) h = rw (either {X = ℕ} (accepted o) 0) (omega arith)
  count_by (writing x d) h = go (cases_Bool (accepted o))
    where
      p : ℕ
      p = physical s (cr3 m) x

      k : o.number ≡ (write_outcome s p (length d)).number
      k = ap (λ (w : Outcome Value). w.number) h

      go : (accepted o ≡ true) ⊎ (accepted o ≡ false)
          → (write_store s p d).used ≡ s.used + cond (accepted o) (slots_for m s (writing x d)) 0
      go (inl t) = rw t (law_count s p d (write_accepted s p (length d) (sym k ∙ eqb-true o.number 0 t)))
      go (inr f) = rw f (omega (arith, ap (λ (u : Store). u.used) (store_stays s p o.number d k f)))

one_byte : (q : ℕ) (a : Act) (x : State) → byte_at (does a x).after.store q ≡ holding (byte_given q a x) (byte_at x.store q)
unfolding does
one_byte q a x =
    let c = accessed a.call x.machine x.store a.lent in
    ap (λ (s : Store). byte_at s q) c.store
    ∙ byte_by x.machine x.store (step a.call x.machine x.store a.lent).outcome
    (access_of a.call x.machine a.lent) q c.outcome

pub bytes_last : BytesLast
bytes_last acts x q = last_is (byte_given q) (λ y. byte_at y.store q) (λ y. Unit {0}) (λ a y g. tt) (λ a y g. one_byte q a y) acts x tt

-- ---- the count
one_count : (a : Act) (x : State) → (does a x).after.store.used ≡ x.store.used + slots_taken a x
unfolding does
one_count a x =
    let c = accessed a.call x.machine x.store a.lent in
    ap (λ (s : Store). s.used) c.store
    ∙ count_by x.machine x.store (step a.call x.machine x.store a.lent).outcome
    (access_of a.call x.machine a.lent) c.outcome

pub count_rule : CountRule
unfolding end all_taken
count_rule [] x = omega arith
count_rule (a ∷ acts) x = omega (arith, count_rule acts (does a x).after, one_count a x)

-- ---- places: what an accepted call gives to those of its row
bit_kept : (b : Bool) → cut (bool_bit b) 0 1 ≡ bool_bit b
unfolding cut
bit_kept true = refl
bit_kept false = refl

module _ (m : MachineState) (g : WellTyped m) (p : ℕ) where
  rsp_new : (x : ℕ) → x < 2 ^ 64 → in_span (rewrite_span RSP) p ≡ true → place (with_rsp m x) p ≡ lane (p - 32) x
  unfolding row
  rsp_new x lt h =
      let e : x % 2 ^ 64 ≡ x = omega arith in
      ap (λ (n : MachineState). place n p) (rsp_written m x g lt) ∙ write_new RSP x m p g h ∙ ap (lane (p - 32)) e

  one_flag : (f : Flags) (b : Bool) → in_span (flag_span f) p ≡ true → place (set_flag m f b) p ≡ bool_bit b
  one_flag f b h = flag_new f b m p h ∙ bit_kept b

-- ---- flags set one after the other: each stands at its place, and the others keep theirs
record Setting : Type 0 where
  flag : Flags
  bit : Bool

abbrev setting : Flags → Bool → Setting
setting f b = record { flag = f; bit = b }

abbrev set_all : List Setting → MachineState → MachineState
set_all [] m = m
set_all (s ∷ ss) m = set_all ss (set_flag m s.flag s.bit)

-- what place p holds then, if v stood there
abbrev held_at : List Setting → ℕ → ℕ → ℕ
held_at [] p v = v
held_at (s ∷ ss) p v = held_at ss p (cond (in_span (flag_span s.flag) p) (bool_bit s.bit) v)

nowhere : ℕ → Bool
nowhere p = false

all_set : (ss : List Setting) (m : MachineState) (p v : ℕ) → WellTyped m → place m p ≡ v → place (set_all ss m) p ≡ held_at ss p v
all_set [] m p v g e = e
all_set (s ∷ ss) m p v g e =
    all_set ss (set_flag m s.flag s.bit) p _ (renewed.good m g) (go (cases_Bool (in_span (flag_span s.flag) p)))
  where
    renewed : Renews nowhere (λ n. set_flag n s.flag s.bit) (in_span (flag_span s.flag))
    renewed = flag_renews s.flag s.bit nowhere

    go : (in_span (flag_span s.flag) p ≡ true) ⊎ (in_span (flag_span s.flag) p ≡ false)
        → place (set_flag m s.flag s.bit) p ≡ cond (in_span (flag_span s.flag) p) (bool_bit s.bit) v
    go (inl t) = rw t (one_flag m g p s.flag s.bit t)
    go (inr n) = rw n (renewed.keeps m p g n ∙ e)

-- what holds at the place of each flag holds at every place that is one of them
abbrev or_flags : (ℕ → Bool) → List Flags → ℕ → Bool
or_flags w [] p = w p
or_flags w (f ∷ fs) p = or_flags (λ q. w q || in_span (flag_span f) q) fs p

abbrev AtEach : List Flags → (ℕ → Type 0) → Type 0
AtEach [] P = Unit
AtEach (f ∷ fs) P = P (flag_place f) × AtEach fs P

at_flag : (f : Flags) (p : ℕ) → in_span (flag_span f) p ≡ true → flag_place f ≡ p
at_flag f p h =
    let lo = in_low (flag_span f) p h in
    let hi = in_high (flag_span f) p h in
    omega arith

at_some : (P : ℕ → Type 0) (w : ℕ → Bool) (fs : List Flags) (p : ℕ) → (w p ≡ true → P p) → AtEach fs P → or_flags w fs p ≡ true → P p
at_some P w [] p first all h = first h
at_some P w (f ∷ fs) p first all h = at_some P (λ q. w q || in_span (flag_span f) q) fs p (λ e. go (cases_Bool (w p)) e) all.1 h
  where
    go : (w p ≡ true) ⊎ (w p ≡ false) → (w p || in_span (flag_span f) p) ≡ true → P p
    go (inl t) e = first t
    go (inr n) e = subst P (at_flag f p (rw n at e)) all.0

-- the flags of a result: Zero, then Sign, then Parity
result_new : (m : MachineState) (b : Bool) (v : ℕ) (z : ArgumentSize) (p : ℕ) → WellTyped m → in_spans three_flags p ≡ true
    → place (resulted b v z m) p ≡ result_flag_at b v z p
unfolding in_span
result_new m b v z p g h =
    all_set settings m p _ g refl
    ∙ at_some Found (in_span (flag_span Zero)) (Sign ∷ Parity ∷ []) p (λ t. subst Found (at_flag Zero p t) refl) (refl, (refl, tt))
    (sym (three_flags_lem p) ∙ h)
  where
    settings : List Setting
    settings = setting Zero b ∷ setting Sign (sign_in z v) ∷ setting Parity (even_ones v) ∷ []

    Found : ℕ → Type 0
    Found k = held_at settings k (place m k) ≡ result_flag_at b v z k

-- an operation sets Carry, Parity, Zero, Sign, Overflow
operated_new : (m : MachineState) (z : ArgumentSize) (r : Sum) (p : ℕ) → WellTyped m → five_in_turn p ≡ true
    → place (flagged z r m) p
    ≡ bool_bit (get_or (r.carry ∷ even_ones r.value ∷ eqb r.value 0 ∷ sign_in z r.value ∷ false ∷ r.overflow ∷ []) (p - 176) false)
unfolding in_span flags_of
operated_new m z r p g h =
    all_set settings m p _ g refl
    ∙ at_some Found (in_span (flag_span Carry)) (Parity ∷ Zero ∷ Sign ∷ Overflow ∷ []) p (λ t. subst Found (at_flag Carry p t) refl)
    (refl, (refl, (refl, (refl, tt)))) h
  where
    v : ℕ
    v = r.value

    settings : List Setting
    settings =
        setting Carry r.carry ∷ setting Parity (even_ones v) ∷ setting Zero (eqb v 0) ∷ setting Sign (sign_in z v)
        ∷ setting Overflow r.overflow ∷ []

    Found : ℕ → Type 0
    Found k =
        held_at settings k (place m k)
        ≡ bool_bit (get_or (r.carry ∷ even_ones v ∷ eqb v 0 ∷ sign_in z v ∷ false ∷ r.overflow ∷ []) (k - 176) false)

no_row : {X : Type 0} (p : ℕ) (x y : X) → in_spans noSpans p ≡ true → x ≡ y
no_row p x y h = let z : in_spans noSpans p ≡ false = nothing_in p in let w : x ≡ y = cc in w

place_new : (c : Call) (m : MachineState) (s : Store) (l : List ℕ) (p : ℕ) → WellTyped m → accepted (step c m s l).outcome ≡ true
    → in_spans (rewrites_of c) p ≡ true
    → place (step c m s l).machine p ≡ place_value c m l p
unfolding step read_operand write_operand pushed popped loaded read_memory write_memory operated computed_of rewrites_of place_value row
place_new (ReadOperand a z) m s l p g o h = no_row p _ _ h
place_new (WriteOperand (arg.Register r) z v) m s l p g o h = write_new r v m p g (sym (one_only (rewrite_span r) p) ∙ h)
place_new (WriteOperand (arg.Immediate x) z v) m s l p g o h = no_row p _ _ h
place_new (WriteOperand (arg.EffectiveAddress b i k d) z v) m s l p g o h = no_row p _ _ h
place_new (EffectiveAddress a) m s l p g o h = no_row p _ _ h
place_new Push m s l p g o h =
    rw o (rsp_new m g p (minus64 (rsp m) (length l)) (mod-lt _ (pow_pos 64)) (sym (one_only (rewrite_span RSP) p) ∙ h))
place_new Pop m s l p g o h = rw o (rsp_new m g p ((rsp m + 8) % 2 ^ 64) (mod-lt _ (pow_pos 64)) (sym (one_only (rewrite_span RSP) p) ∙ h))
place_new (ReadMemory a) m s l p g o h = no_row p _ _ h
place_new (WriteMemory a) m s l p g o h = no_row p _ _ h
place_new (TestFlag f) m s l p g o h = no_row p _ _ h
place_new (SetFlag f b) m s l p g o h = one_flag m g p f b (sym (one_only (flag_span f) p) ∙ h)
place_new (ComputeFlags v z) m s l p g o h = result_new m (eqb v 0) v z p g h
place_new (ComputeSizedFlags v z) m s l p g o h = result_new m (eqb (low_bits z v) 0) v z p g h
place_new (Arithmetic o e a b) m s l p g w h = operated_new m e (worked_at m.rflags o e a b) p g (sym (five_flags_lem p) ∙ h)

one_place : (p : ℕ) (a : Act) (x : State) → WellTyped x.machine
    → place (does a x).after.machine p ≡ holding (place_given p a x) (place x.machine p)
unfolding does rewrites
one_place p a x g = go (cases_Bool (in_spans (rewrites_of a.call) p)) (cases_Bool (accepted r.outcome))
  where
    r : CallResult
    r = step a.call x.machine x.store a.lent

    v : ℕ
    v = place_value a.call x.machine a.lent p

    go : (in_spans (rewrites_of a.call) p ≡ true) ⊎ (in_spans (rewrites_of a.call) p ≡ false)
        → (accepted r.outcome ≡ true) ⊎ (accepted r.outcome ≡ false)
        → place r.machine p ≡ holding (if_so (accepted r.outcome && in_spans (rewrites_of a.call) p) v) (place x.machine p)
    go (inl t) (inl o) = rw (t, o) (place_new a.call x.machine x.store a.lent p g o t)
    go (inl t) (inr o) =
        rw o (ap (λ (m : MachineState). place m p)
        (refused_untouched a.call x.machine x.store a.lent
        (λ e. let b : ◌≡◌ {A = Bool} true false = sym (ap (λ (k : ℕ). eqb k 0) e) ∙ o in let z : ◌≡◌ {A = ℕ} 0 1 = cc in
        omega arith)).machine)
    go (inr f) o = rw (f, and-false (accepted r.outcome)) ((owes a.call).changes.keeps x.machine x.store a.lent p g f)

pub places_last : PlacesLast
places_last acts x p g =
    last_is (place_given p) (λ y. place y.machine p) (λ y. WellTyped y.machine) stays_well_typed (λ a y k. one_place p a y k) acts x g
