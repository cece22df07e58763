-- What it means that two neighbouring calls are exchanged (RULES 8.6), alone and inside a longer list: over any kind of call, answer and
-- state.
use Rattle.std.specs.Prelude.{List, [], ◌∷◌, ◌++◌, ◌≡◌}
use Rattle.effects.specs.Exposed.{Performed, end}

-- c then d, and d then c: each answers the same, event and lent bytes too, and the same machine and store are left
pub record Swapped {C A X : Type 0} (does : C → X → Performed A X) (c d : C) (x : X) : Type 0 where
  pub first : (does c x).answer ≡ (does c (does d x).after).answer
  pub second : (does d (does c x).after).answer ≡ (does d x).answer
  pub last : (does d (does c x).after).after ≡ (does c (does d x).after).after

-- the answers of a list of calls, in its order
unfoldable pub answers_of : {C A X : Type 0} → (C → X → Performed A X) → List C → X → List A
answers_of does [] x = []
answers_of does (c ∷ cs) x = (does c x).answer ∷ answers_of does cs (does c x).after

-- in a list: the two answers are exchanged, every other call answers as before, and the state ends equal
pub record Exchanged {C A X : Type 0} (does : C → X → Performed A X) (before : List C) (c d : C) (after : List C) (x : X) : Type 0 where
  pub one : A
  pub other : A
  pub later : List A
  pub as_listed : answers_of does (before ++ c ∷ d ∷ after) x ≡ answers_of does before x ++ one ∷ other ∷ later
  pub turned : answers_of does (before ++ d ∷ c ∷ after) x ≡ answers_of does before x ++ other ∷ one ∷ later
  pub ends : end does (before ++ c ∷ d ∷ after) x ≡ end does (before ++ d ∷ c ∷ after) x
