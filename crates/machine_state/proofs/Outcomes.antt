-- Each answer's outcome belongs to it alone: the answer can be told from it, its number first. So a call's contract, which gives what the
-- call leaves, fixes the answer, the machine, the event, the count and every lent slice. Assumes nothing.
use Rattle.std.specs.Prelude.{Result, Ok, Err}
use Rattle.std.proofs.Common.{◌≡◌, ℕ, ◌≤◌, false, cond, eqb, List, [], ◌∷◌, map, get_or, sym, refl, ap, ◌∙◌, arith, ne_eqb}
use Rattle.utils.specs.Outcome.{Outcome}
use Rattle.mmu.specs.declared.Refusal.TheVariants.{BadStore, TooLong, NoRoom}
use Rattle.mmu.proofs.Answers as memory
use Rattle.machine_state.specs.Answers.{Value, word, truth, refusal_number, said_by, address_outcome, outcome_of, CallResult, result_of}
use Rattle.machine_state.specs.declared.Answered.{Answered}
use Rattle.machine_state.specs.declared.Given.{Given}
use Rattle.machine_state.specs.declared.Given.TheVariants.{Nothing, Word, Truth}
use Rattle.machine_state.specs.declared.Refusal.{Refusal}
use Rattle.machine_state.specs.declared.Refusal.TheVariants.{NotAnAddress, IntoImmediate, NoScale, Memory}

-- no refusal has the number 0
pub number_some : (r : Refusal) → 1 ≤ refusal_number r
number_some NotAnAddress = omega arith
number_some IntoImmediate = omega arith
number_some NoScale = omega arith
number_some (Memory r) = memory.number_some r

pub not_zero : (r : Refusal) → eqb (refusal_number r) 0 ≡ false
not_zero r = let h = number_some r in ne_eqb (refusal_number r) 0 (λ e. omega arith)

-- the refusal of a number, and of what it says, if it says something
abbrev refusal_of : ℕ → ℕ → Refusal
refusal_of n k =
    get_or (NotAnAddress ∷ NotAnAddress ∷ IntoImmediate ∷ NoScale ∷ Memory BadStore ∷ Memory TooLong ∷ Memory (NoRoom k) ∷ [])
    n NotAnAddress

refusal_back : (r : Refusal) → refusal_of (refusal_number r) (get_or (said_by r) 0 0) ≡ r
refusal_back NotAnAddress = refl
refusal_back IntoImmediate = refl
refusal_back NoScale = refl
refusal_back (Memory BadStore) = refl
refusal_back (Memory TooLong) = refl
refusal_back (Memory (NoRoom k)) = refl

-- the answers of an outcome
abbrev address_by : ℕ → List ℕ → Result ℕ Refusal
address_by n vs = cond (eqb n 0) (Ok (get_or vs 0 0)) (Err (refusal_of n (get_or vs 0 0)))

address_back : (a : Result ℕ Refusal) → address_by (address_outcome a).number (address_outcome a).values ≡ a
address_back (Ok a) = refl
address_back (Err r) = rw (not_zero r) (ap Err (refusal_back r))

pub address_outcome_lem : (a b : Result ℕ Refusal) → address_outcome a ≡ address_outcome b → a ≡ b
address_outcome_lem a b e = sym (address_back a) ∙ ap (λ (o : Outcome ℕ). address_by o.number o.values) e ∙ address_back b

abbrev given_by : List Value → Given
given_by [] = Nothing
given_by (word v ∷ rest) = Word v
given_by (truth b ∷ rest) = Truth b

abbrev first_word : List Value → ℕ
first_word [] = 0
first_word (word v ∷ rest) = v
first_word (truth b ∷ rest) = 0

first_said : (l : List ℕ) → first_word (map word l) ≡ get_or l 0 0
first_said [] = refl
first_said (v ∷ rest) = refl

abbrev answer_by : ℕ → List Value → Result Given Refusal
answer_by n vs = cond (eqb n 0) (Ok (given_by vs)) (Err (refusal_of n (first_word vs)))

answer_back : (a : Result Given Refusal) → answer_by (outcome_of a).number (outcome_of a).values ≡ a
answer_back (Ok Nothing) = refl
answer_back (Ok (Word v)) = refl
answer_back (Ok (Truth b)) = refl
answer_back (Err r) = rw (not_zero r, first_said (said_by r)) (ap Err (refusal_back r))

pub answer_outcome : (a b : Result Given Refusal) → outcome_of a ≡ outcome_of b → a ≡ b
answer_outcome a b e = sym (answer_back a) ∙ ap (λ (o : Outcome Value). answer_by o.number o.values) e ∙ answer_back b

-- what two calls leave is equal only where all of it is: answer, machine, event and count, which an `Answered` holds, and the three slices
pub record AllEqual (r q : Answered) (d b l d' b' l' : List ℕ) : Type 0 where
  pub answered : r ≡ q
  pub dir : d ≡ d'
  pub bytes : b ≡ b'
  pub lent : l ≡ l'

pub left_one : (r q : Answered) (d b l d' b' l' : List ℕ) → result_of r d b l ≡ result_of q d' b' l' → AllEqual r q d b l d' b' l'
left_one r q d b l d' b' l' e =
    record {
      answered = λ i. record {
        machine = ap (λ (x : CallResult). x.machine) e i;
        used = ap (λ (x : CallResult). x.store.used) e i;
        event = ap (λ (x : CallResult). x.event) e i;
        answer = answer_outcome r.answer q.answer (ap (λ (x : CallResult). x.outcome) e) i;
      };
      dir = ap (λ (x : CallResult). x.store.dir) e;
      bytes = ap (λ (x : CallResult). x.store.bytes) e;
      lent = ap (λ (x : CallResult). x.lent) e;
    }
