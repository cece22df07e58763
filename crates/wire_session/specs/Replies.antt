-- What a reply says (docs/FORMAT.md, "An answer").
use Rattle.std.specs.Prelude.{Bool, cond, List, [], ◌∷◌, ◌≡◌, ℕ, ◌*◌, length, Option, Some, None}
use Rattle.utils.specs.Outcome.{Outcome, gives}
use Rattle.machine_state.specs.Answers.{Value, word, truth}
use Rattle.machine_state.specs.declared.Given.{Given}
use Rattle.machine_state.specs.declared.Given.TheVariants.{Nothing, Word, Truth}
use Rattle.byte_runs.specs.Runs.{room, filled_if, lane_in}
use Rattle.wire_records.specs.declared.Reply.{Reply}

-- an answer has room for one value
abbrev pub said_of : List Value → Given
said_of [] = Nothing
said_of (word v ∷ vs) = Word v
said_of (truth b ∷ vs) = Truth b

-- the answer that says an outcome, with so many of the lent bytes
abbrev pub reply_of : Outcome Value → ℕ → Reply
reply_of o g = record { refusal = o.number; said = said_of o.values; given = g }

-- a record that is none has no answer, and leaves the lent bytes
pub record NoRecord (l : List ℕ) (r : Option Reply) (l' : List ℕ) : Type 0 where
  pub reply : r ≡ None
  pub bytes : l' ≡ l

-- f 0, f 1, .. go to the n spots of d from at on, and g of the lent bytes follow the answer; where there is no room, the record is none
pub record GivenIf (ok : Bool) (g : ℕ) (d : List ℕ) (at : ℕ) (f : ℕ → ℕ) (n : ℕ) (r : Option Reply) (d' : List ℕ) : Type 0 where
  pub reply : r ≡ cond ok (Some (reply_of (gives []) g)) None
  pub bytes : d' ≡ filled_if ok d at f n

-- words, low byte first, go to the lent bytes
abbrev pub WordsGiven : List ℕ → List ℕ → Option Reply → List ℕ → Type 0
WordsGiven ws l r l' = GivenIf (room (length l) 0 (8 * length ws)) (8 * length ws) l 0 (lane_in ws) (8 * length ws) r l'
