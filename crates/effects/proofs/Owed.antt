-- The rows of the table (RULES 8.2) are proved of what the calls do: for every call of `step`, one clause of `owes`. A call answers,
-- leaves the store and renews the places of its rewrite row by its read row alone (and the store, if it reaches memory), and keeps every
-- other place, refused or not. Shapes.antt says what each shape of call owes; here is what fills it. Assumes nothing.
use Rattle.std.specs.Prelude.{Option}
use Rattle.instruction_set.specs.declared.Register.{Register}
use mathlib.Core.Bool.{Bool, ◌||◌, or_comm}
use mathlib.Core.List.{List, [], ◌∷◌}
use mathlib.Core.Path.{◌≡◌, refl, ap, ◌∙◌}
use Prim.Native.Nat.{ℕ, ◌+◌, ◌*◌, ◌%◌, ◌^◌}
use native.Mathlib.Nat.{mod-lt}
use native.Mathlib.Omega.{arith}
use lib.Dec.{eqb}
use lib.IntN.{ℤ}
use lib.ListN.{length}
use lib.Pow.{pow_pos}
use Rattle.utils.specs.Outcome.{Outcome, gives, refuses}
use Rattle.utils.specs.Word.{extend}
use Rattle.instruction_set.specs.Sizes.{bytes_of}
use Rattle.instruction_set.specs.declared.ArgumentSize.{ArgumentSize}
use Rattle.instruction_set.specs.declared.ArgumentSize.TheVariants.{Bit64}
use Rattle.instruction_set.specs.declared.Flags.TheVariants.{Carry, Parity, Zero, Sign}
use Rattle.instruction_set.specs.declared.InstructionArgument.{InstructionArgument}
use Rattle.instruction_set.specs.declared.InstructionArgument.TheVariants as arg
use Rattle.fields.specs.Parts.{low_bits}
use Rattle.arithmetic.specs.Sums.{carry_taken, worked_of, computed_of}
use Rattle.arithmetic.specs.declared.Operation.{Operation}
use Rattle.arithmetic.specs.declared.Operation.TheVariants.{Add, AddWithCarry, Subtract, SubtractWithBorrow, Compare}
use Rattle.arithmetic.specs.declared.Sum.{Sum}
use Rattle.store.specs.Store.{Store}
use Rattle.machine_state.specs.Address.{address_of}
use Rattle.machine_state.specs.Answers.{Value, word, truth, given_values}
use Rattle.machine_state.specs.Flagged.{flag_in, set_flag}
use Rattle.machine_state.specs.Machine.{read_reg, write_reg, event_of}
use Rattle.machine_state.specs.Memory.{rsp as rspOf, cr3 as cr3Of, word_outcome, read_memory, write_memory, loaded, stored_at, read_operand}
use Rattle.machine_state.specs.Memory.{leaves, write_operand, minus64, pushed, popped}
use Rattle.machine_state.specs.Operating.{operation_given, operated}
use Rattle.machine_state.specs.declared.Event.TheVariants.{Quiet}
use Rattle.machine_state.specs.declared.MachineState.{MachineState}
use Rattle.calls.specs.Step.{step}
use Rattle.calls.specs.declared.Call.{Call}
use Rattle.calls.specs.declared.Call.TheVariants.{ReadOperand, WriteOperand, EffectiveAddress, Push, Pop, ReadMemory, WriteMemory}
use Rattle.calls.specs.declared.Call.TheVariants.{TestFlag, SetFlag, ComputeFlags, ComputeSizedFlags, Arithmetic}
use Rattle.effects.specs.Places.{WellTyped, does, reads, rewrites, reaches_memory, place_in, store_in, WellTypedState}
use Rattle.effects.specs.Rows.{rsp_places, cr3_places, part_span, flag_span, rewrite_span, operation_reads, three_flags, reads_of}
use Rattle.effects.specs.Rows.{rewrites_of, reaches}
use Rattle.effects.specs.Rows.{in_span, in_spans}
use Rattle.effects.specs.declared.Spans.{Spans}
use Rattle.effects.proofs.Forgotten.{Owed}
use Rattle.effects.proofs.Places.{Agrees, register_same, parent_same, sum_same, flag_same, AgreeWhere, same_where, register_renews}
use Rattle.effects.proofs.Places.{by_reading, flag_renews, resulted, result_renews, flagged, flagged_renews}
use Rattle.effects.proofs.Shapes.{rewritten, Agree, Owes, one_span, by_itself, answers_only, changes_only, Same, by_memory, read_alike}
use Rattle.effects.proofs.Shapes.{write_alike, load_alike, store_alike, at_alike, load_still, store_still, at_still, lent_back}
use Rattle.effects.proofs.Shapes.{StackAccess, StackAlike, stack}
use Rattle.effects.proofs.Within.{in_one, in_two, in_three, three_only, five_in_turn, five_flags_lem}

-- ---- what the rows read
module _ (b i : Option Register) (k : Option ℕ) (d : ℤ) (m n : MachineState) where
  address_alike : (s : Spans) → s.one ≡ part_span b → s.two ≡ part_span i → AgreeWhere (in_spans s) m n
      → address_of m (arg.EffectiveAddress b i k d) ≡ address_of n (arg.EffectiveAddress b i k d)
  unfolding address_of
  address_alike s e f h =
      sum_same m n b i k d (λ p q. h p (in_one s p (rw e q))) (λ p q. h p (in_two s p (rw f q)))

cr3_alike : (m n : MachineState) → WellTyped m → WellTyped n → Agrees cr3_places m n → cr3Of m ≡ cr3Of n
cr3_alike m n g k h = parent_same m n 19 (omega arith) g k h

rsp_alike : (m n : MachineState) → WellTyped m → WellTyped n → Agrees rsp_places m n → rspOf m ≡ rspOf n
rsp_alike m n g k h = parent_same m n 4 (omega arith) g k h

-- ---- memory operands: by base, index and cr3
memory_read : (b i : Option Register) (k : Option ℕ) (d : ℤ) (z : ArgumentSize) (m n : MachineState) (s : Store) → WellTyped m → WellTyped n
    → Agree (ReadOperand (arg.EffectiveAddress b i k d) z) m n
    → Same (read_operand m s (arg.EffectiveAddress b i k d) z) (read_operand n s (arg.EffectiveAddress b i k d) z)
unfolding read_operand reads_of
memory_read b i k d z m n s g q a =
    let row = reads_of (ReadOperand (arg.EffectiveAddress b i k d) z) in
    let e : cr3Of m ≡ cr3Of n = cr3_alike m n g q (λ p h. a p (in_three row p h)) in
    let f = address_alike b i k d m n row refl refl a in
    rw f (at_alike m n s e (address_of n (arg.EffectiveAddress b i k d)) (λ x. loaded m s x z) (λ x. loaded n s x z)
    (λ x. load_alike m n s e x x z refl))

memory_written : (b i : Option Register) (k : Option ℕ) (d : ℤ) (z : ArgumentSize) (v : ℕ) (m n : MachineState) (s : Store) → WellTyped m
    → WellTyped n
    → Agree (WriteOperand (arg.EffectiveAddress b i k d) z v) m n
    → Same (write_operand m s (arg.EffectiveAddress b i k d) z v) (write_operand n s (arg.EffectiveAddress b i k d) z v)
unfolding write_operand reads_of
memory_written b i k d z v m n s g q a =
    let row = reads_of (WriteOperand (arg.EffectiveAddress b i k d) z v) in
    let e : cr3Of m ≡ cr3Of n = cr3_alike m n g q (λ p h. a p (in_three row p h)) in
    let f = address_alike b i k d m n row refl refl a in
    rw f (at_alike m n s e (address_of n (arg.EffectiveAddress b i k d)) (λ x. stored_at m s x z v) (λ x. stored_at n s x z v)
    (λ x. store_alike m n s e x x z v refl))

-- ---- the stack
abbrev push : MachineState → Store → List ℕ → StackAccess
push m s l = record { done = write_memory m s (minus64 (rspOf m) (length l)) l; to = minus64 (rspOf m) (length l) }

push_alike : (m n : MachineState) (s : Store) (l : List ℕ) → WellTyped m → WellTyped n → Agree Push m n
    → StackAlike (push m s l) (push n s l)
unfolding reads_of
push_alike m n s l g k a =
    let row = reads_of Push in
    let e : cr3Of m ≡ cr3Of n = cr3_alike m n g k (λ p h. a p (in_two row p h)) in
    let r : rspOf m ≡ rspOf n = rsp_alike m n g k (λ p h. a p (in_one row p h)) in
    let f : minus64 (rspOf m) (length l) ≡ minus64 (rspOf n) (length l) = ap (λ (x : ℕ). minus64 x (length l)) r in
    record { done = write_alike m n s e (minus64 (rspOf m) (length l)) (minus64 (rspOf n) (length l)) l f; to = f }

abbrev pop : MachineState → Store → List ℕ → StackAccess
pop m s l = record { done = loaded m s (rspOf m) Bit64; to = (rspOf m + 8) % 2 ^ 64 }

pop_alike : (m n : MachineState) (s : Store) (l : List ℕ) → WellTyped m → WellTyped n → Agree Pop m n → StackAlike (pop m s l) (pop n s l)
unfolding reads_of
pop_alike m n s l g k a =
    let row = reads_of Pop in
    let e : cr3Of m ≡ cr3Of n = cr3_alike m n g k (λ p h. a p (in_two row p h)) in
    let r : rspOf m ≡ rspOf n = rsp_alike m n g k (λ p h. a p (in_one row p h)) in
    record { done = load_alike m n s e (rspOf m) (rspOf n) Bit64 r; to = ap (λ (x : ℕ). (x + 8) % 2 ^ 64) r }

-- ---- flags: the row names them in the order of their places, the call sets Zero first
pub three_flags_lem : (p : ℕ)
    → in_spans three_flags p ≡ ((in_span (flag_span Zero) p || in_span (flag_span Sign) p) || in_span (flag_span Parity) p)
three_flags_lem p =
    three_only (flag_span Parity) (flag_span Zero) (flag_span Sign) p
    ∙ or_comm (in_span (flag_span Parity) p) (in_span (flag_span Zero) p || in_span (flag_span Sign) p)

-- a call that sets the flags of a result, whatever says Zero
result_owes : (c : Call) (b : Bool) (x : ℕ) (z : ArgumentSize)
    → ((m : MachineState) (s : Store) (l : List ℕ) → step c m s l ≡ leaves (resulted b x z m) s l Quiet (gives []))
    → rewrites_of c ≡ three_flags → Owes c
result_owes c b x z ends row =
    changes_only c Quiet (resulted b x z) ends
    (same_where _ (resulted b x z) _ (rewritten c) (λ p. ap (λ (r : Spans). in_spans r p) row ∙ three_flags_lem p) (result_renews _ b x z))

-- ---- operands, by their kind
read_owes : (a : InstructionArgument) (z : ArgumentSize) → Owes (ReadOperand a z)
unfolding step read_operand address_of reads_of rewrites_of reaches
read_owes (arg.Register r) z =
    answers_only (ReadOperand (arg.Register r) z) (λ m. gives (word (read_reg m r) ∷ [])) (λ m s l. refl) refl
    (λ m n a. ap (λ (x : ℕ). gives (word x ∷ []))
    (register_same m n r (λ p h. a p (in_one (reads_of (ReadOperand (arg.Register r) z)) p h))))
read_owes (arg.Immediate v) z =
    answers_only (ReadOperand (arg.Immediate v) z) (λ m. gives (word v ∷ [])) (λ m s l. refl) refl (λ m n a. refl)
read_owes (arg.EffectiveAddress b i k d) z =
    by_memory (ReadOperand (arg.EffectiveAddress b i k d) z) refl refl
    (λ m s l. at_still m s (address_of m (arg.EffectiveAddress b i k d)) (λ x. loaded m s x z) (λ x. load_still m s x z))
    (λ m n s l g q a. lent_back l (memory_read b i k d z m n s g q a))

write_owes : (a : InstructionArgument) (z : ArgumentSize) (v : ℕ) → Owes (WriteOperand a z v)
unfolding step write_operand address_of reads_of rewrites_of reaches
write_owes (arg.Register r) z v =
    changes_only (WriteOperand (arg.Register r) z v) (event_of r v) (λ m. write_reg m r v) (λ m s l. refl)
    (one_span (WriteOperand (arg.Register r) z v) (λ m. write_reg m r v) (rewrite_span r) refl (register_renews r v _))
write_owes (arg.Immediate x) z v =
    answers_only (WriteOperand (arg.Immediate x) z v) (λ m. refuses 2) (λ m s l. refl) refl (λ m n a. refl)
write_owes (arg.EffectiveAddress b i k d) z v =
    by_memory (WriteOperand (arg.EffectiveAddress b i k d) z v) refl refl
    (λ m s l. at_still m s (address_of m (arg.EffectiveAddress b i k d)) (λ x. stored_at m s x z v) (λ x. store_still m s x z v))
    (λ m n s l g q a. lent_back l (memory_written b i k d z v m n s g q a))

address_owes : (a : InstructionArgument) → Owes (EffectiveAddress a)
unfolding step address_of reads_of rewrites_of
address_owes (arg.Register r) =
    answers_only (EffectiveAddress (arg.Register r)) (λ m. refuses 1) (λ m s l. refl) refl (λ m n a. refl)
address_owes (arg.Immediate v) =
    answers_only (EffectiveAddress (arg.Immediate v)) (λ m. refuses 1) (λ m s l. refl) refl (λ m n a. refl)
address_owes (arg.EffectiveAddress b i k d) =
    answers_only (EffectiveAddress (arg.EffectiveAddress b i k d)) (λ m. word_outcome (address_of m (arg.EffectiveAddress b i k d)))
    (λ m s l. refl) refl
    (λ m n a. ap word_outcome (address_alike b i k d m n (reads_of (EffectiveAddress (arg.EffectiveAddress b i k d))) refl refl a))

-- ---- an operation on two given values: it turns on the carry that it takes, which its row reads
carry_alike : (o : Operation) (m n : MachineState) → AgreeWhere (in_spans (operation_reads o)) m n
    → carry_taken o (flag_in m Carry) ≡ carry_taken o (flag_in n Carry)
carry_alike Add m n h = refl
carry_alike AddWithCarry m n h = flag_same m n Carry (λ p q. h p (in_one (operation_reads AddWithCarry) p q))
carry_alike Subtract m n h = refl
carry_alike SubtractWithBorrow m n h = flag_same m n Carry (λ p q. h p (in_one (operation_reads SubtractWithBorrow) p q))
carry_alike Compare m n h = refl

operation_owes : (o : Operation) (z : ArgumentSize) (a b : ℕ) → Owes (Arithmetic o z a b)
unfolding step operated computed_of reads_of rewrites_of
operation_owes o z a b =
    by_itself (Arithmetic o z a b) Quiet (λ m. flagged z (worked (taken m)) m) (λ m. says (taken m)) (λ m s l. refl)
    (same_where _ _ five_in_turn (rewritten (Arithmetic o z a b)) five_flags_lem
    (by_reading _ taken (λ c. flagged z (worked c)) five_in_turn (carry_alike o) (λ c. flagged_renews _ z (worked c))))
    (λ m n h. ap says (carry_alike o m n h))
  where
    taken : MachineState → Bool
    taken m = carry_taken o (flag_in m Carry)

    worked : Bool → Sum
    worked c = worked_of o (8 * bytes_of z) (a % 2 ^ (8 * bytes_of z)) (b % 2 ^ (8 * bytes_of z)) c

    says : Bool → Outcome Value
    says c = gives (given_values (operation_given o (extend (8 * bytes_of z) (worked c).value)))

-- ---- every call pays: the row's reads are enough for its reply, and its rewrites are all that it changes
pub owes : (c : Call) → Owes c
unfolding step pushed popped read_memory write_memory loaded reads_of rewrites_of reaches
owes (ReadOperand a z) = read_owes a z
owes (WriteOperand a z v) = write_owes a z v
owes (EffectiveAddress a) = address_owes a
owes Push = stack Push push (λ m s l. refl) (λ m s l. (refl, mod-lt _ (pow_pos 64))) refl refl refl push_alike
owes Pop = stack Pop pop (λ m s l. refl) (λ m s l. (refl, mod-lt _ (pow_pos 64))) refl refl refl pop_alike
owes (ReadMemory x) =
    by_memory (ReadMemory x) refl refl (λ m s l. refl)
    (λ m n s l g k a. read_alike m n s (cr3_alike m n g k (λ p h. a p (in_one (reads_of (ReadMemory x)) p h))) x x l refl)
owes (WriteMemory x) =
    by_memory (WriteMemory x) refl refl (λ m s l. refl)
    (λ m n s l g k a. write_alike m n s (cr3_alike m n g k (λ p h. a p (in_one (reads_of (WriteMemory x)) p h))) x x l refl)
owes (TestFlag f) =
    answers_only (TestFlag f) (λ m. gives (truth (flag_in m f) ∷ [])) (λ m s l. refl) refl
    (λ m n a. ap (λ (b : Bool). gives (truth b ∷ [])) (flag_same m n f (λ p h. a p (in_one (reads_of (TestFlag f)) p h))))
owes (SetFlag f b) =
    changes_only (SetFlag f b) Quiet (λ m. set_flag m f b) (λ m s l. refl)
    (one_span (SetFlag f b) (λ m. set_flag m f b) (flag_span f) refl (flag_renews f b _))
owes (ComputeFlags x z) = result_owes (ComputeFlags x z) (eqb x 0) x z (λ m s l. refl) refl
owes (ComputeSizedFlags x z) = result_owes (ComputeSizedFlags x z) (eqb (low_bits z x) 0) x z (λ m s l. refl) refl
owes (Arithmetic o z a b) = operation_owes o z a b

-- what the theorem asks of the calls
pub owed : Owed reads rewrites reaches_memory does store_in place_in WellTypedState
unfolding does reads rewrites
owed =
    record {
      good = λ a x g. (owes a.call).changes.good x.machine x.store a.lent g;
      keeps = λ a x p g h. (owes a.call).changes.keeps x.machine x.store a.lent p g h;
      stays = λ a x h. (owes a.call).replies.stays x.machine x.store a.lent h;
      moves = λ a x y g k h s. (owes a.call).replies.moves x.machine y.machine x.store y.store a.lent g k h s;
      answers = λ a x y g k h s. (owes a.call).replies.answers x.machine y.machine x.store y.store a.lent g k h s;
      renews = λ a x y p g k h s w. (owes a.call).changes.renews x.machine y.machine x.store y.store a.lent p g k h s w;
    }
