-- What an answer says: a number, 0 where the call is accepted and otherwise that of the refusal (RULES 7.1), and the values that come
-- with it. For each answer enum of the house one definition gives each case's outcome (RULES 9.3), and contracts or promises speak of
-- that.
use Rattle.std.specs.Prelude.{ℕ, Bool, true, false, List, [], ◌∷◌, ◌==◌}

pub record Outcome (X : Type 0) : Type 0 where
  pub number : ℕ
  pub values : List X

abbrev pub gives : {X : Type 0} → List X → Outcome X
gives vs = record { number = 0; values = vs }

-- a refusal yields its number, which is not 0, and what it says besides (RULES 7.5): 6 how many slots lack, 13 an offset in the text, the
-- others nothing
abbrev pub refuses_with : {X : Type 0} → ℕ → List X → Outcome X
refuses_with n vs = record { number = n; values = vs }

abbrev pub refuses : {X : Type 0} → ℕ → Outcome X
refuses n = refuses_with n []

-- a call is accepted where its number is 0: no value tells that
abbrev pub accepted : {X : Type 0} → Outcome X → Bool
accepted o = o.number == 0

-- what comes of the value that an accepted call gives, and otherwise something else: what a refusal says is never taken for a value
abbrev pub first_if : {X Y : Type 0} → Bool → List X → (X → Y) → Y → Y
first_if true (v ∷ vs) go other = go v
first_if true [] go other = other
first_if false vs go other = other

abbrev pub on_value : {X Y : Type 0} → Outcome X → (X → Y) → Y → Y
on_value o go other = first_if (accepted o) o.values go other
