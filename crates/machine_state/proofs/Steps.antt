-- What each step of a memory call does to what the call leaves: an answer of memory's among the machine's, a value given, rsp moved,
-- bytes lent to a read with zeros above them. Each is one equation between records, so that a call's proof puts them end to end. Assumes
-- nothing.
use Rattle.std.specs.Prelude.{Option, Result, Ok, Err, is_ok}
use Rattle.std.proofs.Common.{◌≡◌, ℕ, ◌+◌, ◌-◌, ◌%◌, ◌^◌, ◌<◌, ◌≤◌, cond, List, [], ◌++◌, map, length, take, drop}
use Rattle.std.proofs.Common.{replicate, refl, ap, ◌∙◌, arith}
use Rattle.std.proofs.lemmas.List.{take-replicate, drop-replicate}
use Rattle.utils.specs.Bytes.{to_bytes, from_bytes}
use Rattle.utils.specs.Outcome.{refuses_with, accepted}
use Rattle.utils.proofs.Bytes.{from_padded, take_to_bytes}
use Rattle.utils.proofs.Outcomes.{on_refused}
use Rattle.instruction_set.specs.Sizes.{bytes_of}
use Rattle.instruction_set.specs.declared.ArgumentSize.{ArgumentSize}
use Rattle.fields.specs.Parts.{memory_value}
use Rattle.mmu.specs.Calls.{memory_outcome, read_outcome, read_out, Wrote}
use Rattle.store.specs.Store.{Store, store_of}
use Rattle.walk.specs.Walk.{physical}
use Rattle.mmu.specs.declared.Refusal.{Refusal as MemoryRefusal}
use Rattle.machine_state.specs.Answers.{word, CallResult, result_of, outcome_of, refusal_number, said_by, answered, finished}
use Rattle.machine_state.specs.Memory.{leaves, word_outcome, event_shown, read_memory, write_memory, valued, with_value, loaded, stored_at}
use Rattle.machine_state.specs.Memory.{at_address, rsp_if_accepted, minus64, cr3}
use Rattle.machine_state.specs.Private.{from_memory, value_or, given_value, given_rsp}
use Rattle.machine_state.specs.declared.Answered.{Answered}
use Rattle.machine_state.specs.declared.Given.{Given}
use Rattle.machine_state.specs.declared.MachineState.{MachineState}
use Rattle.machine_state.specs.declared.Event.TheVariants.{Quiet}
use Rattle.machine_state.specs.declared.Refusal.{Refusal}
use Rattle.machine_state.proofs.Outcomes.{number_some, not_zero}

-- ---- a value given, rsp moved
value_outcome : (a : Result Given Refusal) (v : ℕ) → outcome_of (value_or a v) ≡ valued (outcome_of a) v
value_outcome (Ok g) v = refl
value_outcome (Err r) v = rw (not_zero r)

value_after : (r : Answered) (d b l : List ℕ) (v : ℕ) → result_of (given_value r v) d b [] ≡ with_value (result_of r d b l) v
value_after r d b l v = ap (leaves r.machine (store_of d b r.used) [] r.event) (value_outcome r.answer v)

accepted_answer : (a : Result Given Refusal) {X : Type 0} (x y : X) → cond (is_ok a) x y ≡ cond (accepted (outcome_of a)) x y
accepted_answer (Ok g) x y = refl
accepted_answer (Err r) x y = rw (not_zero r)

pub rsp_after : (r : Answered) (d b l : List ℕ) (x : ℕ) → result_of (given_rsp r x) d b l ≡ rsp_if_accepted (result_of r d b l) x
rsp_after r d b l x =
    ap (λ (m : MachineState). leaves m (store_of d b r.used) l r.event (outcome_of r.answer)) (accepted_answer r.answer _ _)

-- rsp less a length
pub below_is : (to x n : ℕ) → to < 2 ^ 64 → n < 2 ^ 64 → (to + n) % 2 ^ 64 ≡ x → to ≡ minus64 x n
below_is to x n a b e = let k : n % 2 ^ 64 ≡ n = omega arith in rw k (omega arith)

-- ---- memory's answers
memory_outcome_lem : (a : Result (Unit {0}) MemoryRefusal) → outcome_of (from_memory a) ≡ word_outcome (memory_outcome a)
memory_outcome_lem (Ok x) = refl
memory_outcome_lem (Err r) = refl

pub read_left : (m : MachineState) (d b : List ℕ) (u a : ℕ) (out o : List ℕ) (r : Result (Unit {0}) MemoryRefusal)
    → memory_outcome r ≡ read_outcome (store_of d b u) (length out) → o ≡ read_out (store_of d b u) (cr3 m) a out
    → result_of (finished m u (from_memory r)) d b o ≡ read_memory m (store_of d b u) a out
unfolding read_memory
read_left m d b u a out o r e f = rw (f, memory_outcome_lem r, e)

pub write_left : (m : MachineState) (s : Store) (d b : List ℕ) (u a : ℕ) (l : List ℕ) (r : Result (Unit {0}) MemoryRefusal) (x : Option ℕ)
    → Wrote s (store_of d b u) (physical s (cr3 m) a) l r x
    → result_of (answered m u (event_shown x) (from_memory r)) d b l ≡ write_memory m s a l
unfolding write_memory
write_left m s d b u a l r x w =
    ap (λ (t : Store). leaves m t l (event_shown x) (outcome_of (from_memory r))) w.store ∙ rw (w.shown, memory_outcome_lem r, w.answer)

-- ---- bytes lent to a read, with zeros above them
padded : (l : List ℕ) (n : ℕ) → from_bytes (l ++ drop n (replicate 8 0)) ≡ from_bytes l
padded l n = ap (λ (z : List ℕ). from_bytes (l ++ z)) (drop-replicate n 8 0) ∙ from_padded l (8 - n)

-- a call that lends nothing
unlent : {x y : CallResult} → x ≡ y
    → leaves x.machine x.store [] x.event x.outcome ≡ leaves y.machine y.store [] y.event y.outcome
unlent e = ap (λ (r : CallResult). leaves r.machine r.store [] r.event r.outcome) e

-- an address that is refused
pub address_refused : (m : MachineState) (s : Store) (r : Refusal) (go : ℕ → CallResult)
    → at_address m s (refuses_with (refusal_number r) (said_by r)) go
    ≡ leaves m s [] Quiet (refuses_with (refusal_number r) (map word (said_by r)))
address_refused m s r go =
    on_refused (refusal_number r) (said_by r) go (leaves m s [] Quiet (refuses_with (refusal_number r) (map word (said_by r))))
    (number_some r)

-- ---- a load, put together
-- the value that is given where the read is accepted, by what the read leaves
pub load_left : (m : MachineState) (s : Store) (a n : ℕ) (z : ArgumentSize) (r : Answered) (d b l : List ℕ) (x : ℕ) → n ≡ bytes_of z
    → n ≤ 8 → result_of r d b l ≡ read_memory m s a (take n (replicate 8 0)) → x ≡ memory_value z (from_bytes (l ++ drop n (replicate 8 0)))
    → result_of (given_value r x) d b [] ≡ loaded m s a z
unfolding loaded
load_left m s a n z r d b l x en h e ev =
    let q : result_of r d b l ≡ read_memory m s a (replicate (bytes_of z) 0) =
    e ∙ ap (read_memory m s a) (take-replicate n 8 0 h ∙ ap (λ (k : ℕ). replicate k 0) en) in
    value_after r d b l x ∙ ap (with_value (result_of r d b l)) (ev ∙ ap (memory_value z) (padded l n))
    ∙ ap (λ (w : CallResult). with_value w (memory_value z (from_bytes w.lent))) q

pub store_left : (m : MachineState) (s : Store) (a n v : ℕ) (z : ArgumentSize) (r : Answered) (d b : List ℕ) → n ≡ bytes_of z → n ≤ 8
    → result_of r d b (take n (to_bytes 8 v)) ≡ write_memory m s a (take n (to_bytes 8 v)) → result_of r d b [] ≡ stored_at m s a z v
unfolding stored_at
store_left m s a n v z r d b en h e =
    let t : take n (to_bytes 8 v) ≡ to_bytes (bytes_of z) v = take_to_bytes n 8 v h ∙ ap (λ (k : ℕ). to_bytes k v) en in
    unlent e
    ∙ ap (λ (l : List ℕ). let r = write_memory m s a l in leaves r.machine r.store [] r.event r.outcome) t
