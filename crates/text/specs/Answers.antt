-- What a text call answers and what the lent buffer holds afterwards (RULES 6.1): a refusal leaves every byte, and else the bytes past
-- the text stay.
use Rattle.std.specs.Borrow.{MutBor}
use Rattle.std.specs.Prelude.{Result, Ok, Err, cond, List, [], ◌∷◌, ◌++◌, ◌≡◌, ℕ, leb, length, drop}
use Rattle.utils.specs.Outcome.{Outcome, gives, refuses}
use Rattle.instruction_set.specs.Arguments.{arguments_number}
use Rattle.text_pieces.specs.Put.{TextPut}
use Rattle.text.specs.declared.Refusal.{Refusal}
use Rattle.text.specs.declared.Refusal.TheVariants as refusal

-- the number of each refusal (RULES 7.1)
abbrev pub text_number : Refusal → ℕ
text_number refusal.NoScale = 3
text_number refusal.TooLong = 7
text_number (refusal.Arguments r) = arguments_number r

-- the number and values of each answer (RULES 9.3): the value is the text's length
abbrev pub text_outcome : Result ℕ Refusal → Outcome ℕ
text_outcome (Ok n) = gives (n ∷ [])
text_outcome (Err r) = refuses (text_number r)

-- the text that is asked for, or the number of the refusal that is given instead, whatever the buffer
pub data TextOrRefusal : Type 0 where
  text_is : List ℕ → TextOrRefusal
  refused_with : ℕ → TextOrRefusal

-- the answer, for a buffer d: the length, or 7 where the text is longer (RULES 6.1)
abbrev pub text_answer : TextOrRefusal → List ℕ → Outcome ℕ
text_answer (text_is t) d = cond (leb (length t) (length d)) (gives (length t ∷ [])) (refuses 7)
text_answer (refused_with n) d = refuses n

-- the buffer afterwards: the text and then the bytes past it, or every byte as it was (RULES 6.1)
abbrev pub buffer_after : TextOrRefusal → List ℕ → List ℕ
buffer_after (text_is t) d = cond (leb (length t) (length d)) (t ++ drop (length t) d) d
buffer_after (refused_with n) d = d

pub record TextWritten (o : TextOrRefusal) (d d' : List ℕ) (r : Outcome ℕ) : Type 0 where
  pub answer : r ≡ text_answer o d
  pub bytes : d' ≡ buffer_after o d

-- ---- what only a private function's contract cites
-- n is the text's length, and every call of the writer puts the text at the start of what it is lent
abbrev pub Puts : ℕ → (MutBor (List ℕ) → ℕ → MutBor (List ℕ) → Type 0) → List ℕ → Type 0
Puts n call text = (n ≡ length text)
    × ((d d' : MutBor (List ℕ)) (r : ℕ) → call d r d' → (most : ℕ) × TextPut most d.now 0 text d'.now r)
