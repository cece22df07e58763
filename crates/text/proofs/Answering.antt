-- What a text call answers, from the writer's record: a text that was measured first, and is then written or refused.
-- Assumes nothing.
use mathlib.Core.List.{List, [], ◌∷◌, ◌++◌}
use mathlib.Core.Path.{◌≡◌, ap, ◌∙◌}
use Prim.Native.Nat.{ℕ, ◌≤◌, ◌<◌}
use native.Mathlib.Nat.{zero-add}
use native.Mathlib.Omega.{arith}
use borrow.Author.Tests.{le-leb, lt-leb}
use lib.ListN.{length, drop}
use lib.Seq.{sets-eq}
use Rattle.utils.specs.Outcome.{gives, refuses}
use Rattle.text.specs.Answers.{text_is, TextWritten}
use Rattle.text_pieces.specs.Put.{TextPut}

-- n was measured, before the writer's record q
module _ {n : ℕ} {d t : List ℕ} (z : n ≡ length t) where
  pub too_long : length d < n → TextWritten (text_is t) d d (refuses 7)
  too_long h = let e = lt-leb (length t) (length d) (omega arith) in record { answer = simp e; bytes = simp e }

  pub in_room : {k r : ℕ} {d' : List ℕ} → n ≤ length d → TextPut k d 0 t d' r → TextWritten (text_is t) d d' (gives (n ∷ []))
  in_room h q =
      let e = le-leb (length t) (length d) (omega arith) in
      record {
        answer = simp e (ap (λ (k : ℕ). gives (k ∷ [])) z);
        bytes = simp e (q.bytes ∙ sets-eq t d 0 (omega arith) ∙ ap (λ (k : ℕ). t ++ drop k d) (zero-add (length t)));
      }
