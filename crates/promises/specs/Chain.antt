-- Chains of words (RULES 2.12 to 2.14; No. 2): words are added lowest first, the first pair without carry and the others with it. They
-- give the whole sum modulo 2 to the total width, and Carry is what the whole carries out, if no call in between rewrites Carry; no words
-- change nothing. And the same of differences and their borrow. What a call does is `step`, which `calls::perform` is proved to do; what
-- it rewrites is its row.
use Rattle.std.specs.Prelude.{Bool, false, List, [], ◌∷◌, ◌++◌, map, ◌≡◌, ℕ, ◌+◌, ◌-◌, ◌*◌, ◌%◌, ◌^◌, leb, ltb, length, drop}
use Rattle.utils.specs.Outcome.{Outcome, gives}
use Rattle.instruction_set.specs.Sizes.{bytes_of}
use Rattle.instruction_set.specs.declared.ArgumentSize.{ArgumentSize}
use Rattle.instruction_set.specs.declared.Flags.TheVariants.{Carry}
use Rattle.arithmetic.specs.declared.Operation.{Operation}
use Rattle.arithmetic.specs.declared.Operation.TheVariants.{Add, AddWithCarry, Subtract, SubtractWithBorrow}
use Rattle.store.specs.Store.{Store}
use Rattle.machine_state.specs.Answers.{Value, word}
use Rattle.machine_state.specs.Flagged.{flag_in}
use Rattle.calls.specs.declared.Call.TheVariants.{Arithmetic}
use Rattle.effects.specs.Exposed.{Seen, end, rewritten, trace}
use Rattle.effects.specs.Places.{Act, State, WellTyped, CallAnswer, rewrites, does, store_in}
use Rattle.effects.specs.Rows.{flag_place}

-- ---- two numbers by words, lowest first, each pair of words of a size of its own
-- a pair, the bytes lent to its call (which leaves them), and the calls that stand after it, before the next pair's; those after the last
-- pair stand before Carry is asked for
pub record Link : Type 0 where
  pub size : ArgumentSize
  pub first : ℕ
  pub second : ℕ
  pub lent : List ℕ
  pub between : List Act

abbrev pub width_of : Link → ℕ
width_of k = 8 * bytes_of k.size

-- how many bits all the words have
unfoldable pub total_width : List Link → ℕ
total_width [] = 0
total_width (k ∷ ks) = width_of k + total_width ks

-- the number that words make up, each cut to its size: x picks the word of a pair
unfoldable pub number_by : (Link → ℕ) → List Link → ℕ
number_by x [] = 0
number_by x (k ∷ ks) = x k % 2 ^ width_of k + 2 ^ width_of k * number_by x ks

abbrev pub first_number : List Link → ℕ
first_number = number_by (λ k. k.first)

abbrev pub second_number : List Link → ℕ
second_number = number_by (λ k. k.second)

-- the number that answers make up, each cut to the size of its pair
unfoldable pub joined : List Link → List ℕ → ℕ
joined [] vs = 0
joined (k ∷ ks) [] = 0
joined (k ∷ ks) (v ∷ vs) = v % 2 ^ width_of k + 2 ^ width_of k * joined ks vs

-- ---- the list of calls: o on the first pair, and r on the rest
abbrev pub operation : Operation → Link → Act
operation o k = record { call = Arithmetic o k.size k.first k.second; lent = k.lent }

unfoldable pub calls_of : Operation → Operation → List Link → List Act
calls_of o r [] = []
calls_of o r (k ∷ ks) = operation o k ∷ (k.between ++ calls_of r r ks)

-- no call in between rewrites Carry, by the rows of the calls
unfoldable pub CarryKept : List Link → Type 0
CarryKept [] = Unit
CarryKept (k ∷ ks) = (rewritten rewrites k.between (flag_place Carry) ≡ false) × CarryKept ks

-- of what is seen of the list, what is seen of the operations: the first of it; then, after the calls between, the first of the rest
unfoldable pub of_operations : {A : Type 0} → List Link → List A → List A
of_operations [] seen = []
of_operations (k ∷ ks) [] = []
of_operations (k ∷ ks) (s ∷ seen) = s ∷ of_operations ks (drop (length k.between) seen)

abbrev pub outcome_seen : Seen CallAnswer Store → Outcome Value
outcome_seen s = s.answer.outcome

-- ---- what a chain gives: the operations answer values that make up a number, and Carry is as told when the whole list is done
pub record ChainGives (o r : Operation) (ks : List Link) (x : State) (number : ℕ) (carry : Bool) : Type 0 where
  pub values : List ℕ
  pub answers : map outcome_seen (of_operations ks (trace does store_in (calls_of o r ks) x)) ≡ map (λ v. gives (word v ∷ [])) values
  pub whole : joined ks values ≡ number
  pub out : flag_in (end does (calls_of o r ks) x).machine Carry ≡ carry

-- the whole sum modulo 2 to the total width, and Carry what it carries out
abbrev pub AddChain : Type 0
AddChain =
    (k : Link) (ks : List Link) (x : State)
    → let w = total_width (k ∷ ks) in
    let sum = first_number (k ∷ ks) + second_number (k ∷ ks) in
    WellTyped x.machine
    → CarryKept (k ∷ ks)
    → ChainGives Add AddWithCarry (k ∷ ks) x (sum % 2 ^ w) (leb (2 ^ w) sum)

-- the whole difference modulo 2 to the total width, and Carry its borrow
abbrev pub SubtractChain : Type 0
SubtractChain =
    (k : Link) (ks : List Link) (x : State)
    → let w = total_width (k ∷ ks) in
    let a = first_number (k ∷ ks) in
    let b = second_number (k ∷ ks) in
    WellTyped x.machine
    → CarryKept (k ∷ ks)
    → ChainGives Subtract SubtractWithBorrow (k ∷ ks) x ((a + 2 ^ w - b) % 2 ^ w) (ltb a b)

-- no words: nothing changes
abbrev pub NoWords : Type 0
NoWords =
    (o r : Operation) (x : State)
    → end does (calls_of o r []) x ≡ x
