-- The report (RULES 8.5): of each of the 182 places, in their order, whether it is exposed.
use Rattle.std.specs.Prelude.{Bool, false, cond, List, [], ◌∷◌, ◌≡◌, ℕ, zero, suc, leb, length, get_or, take, replicate, Result, Ok, Err}
use Rattle.utils.specs.Outcome.{Outcome, gives, refuses}
use Rattle.calls.specs.declared.Call.{Call}
use Rattle.effects.specs.Exposed.{exposed}
use Rattle.effects.specs.Places.{Act}
use Rattle.effects.specs.Rows.{reads_of, rewrites_of, in_spans}
use Rattle.exposed.specs.declared.Report.{Report}
use Rattle.exposed.specs.declared.TooManyCalls.{TooManyCalls}

-- f 0, f 1, ..: n of them
unfoldable pub truths_of : ℕ → (ℕ → Bool) → List Bool
truths_of zero f = []
truths_of (suc n) f = f 0 ∷ truths_of n (λ k. f (suc k))

-- the number and values of each verdict (RULES 9.3): 12 where there are more than 64 calls
abbrev pub verdict_outcome : Result (Unit {0}) TooManyCalls → Outcome ℕ
verdict_outcome (Ok x) = gives []
verdict_outcome (Err r) = refuses 12

-- all that a report says: its number, and the 182 answers (RULES 8.5)
pub record ReportAnswer : Type 0 where
  pub outcome : Outcome ℕ
  pub places : List Bool

abbrev pub report_answer : Report → ReportAnswer
report_answer r = record { outcome = verdict_outcome r.verdict; places = r.places }

-- the rows, place by place
unfoldable pub call_reads : Call → ℕ → Bool
call_reads c p = in_spans (reads_of c) p

unfoldable pub call_rewrites : Call → ℕ → Bool
call_rewrites c p = in_spans (rewrites_of c) p

-- a call of a list, without the bytes lent to it
abbrev pub call_of_act : Act → Call
call_of_act a = a.call

-- the exposed places of the first n calls of a list, or of all where fewer stand there; where n is above 64 it is refused, and all are no
-- (RULES 8.5)
unfoldable pub reported : List Call → ℕ → ReportAnswer
reported calls n =
    cond (leb n 64) (record { outcome = gives []; places = truths_of 182 (exposed call_reads call_rewrites (take n calls)) })
    (record { outcome = refuses 12; places = replicate 182 false })

-- ---- what only private functions' contracts cite
-- out is on, with v at the places where w holds
pub record Marked (on out : List Bool) (w : ℕ → Bool) (v : Bool) : Type 0 where
  pub long : length out ≡ length on
  pub at : (k : ℕ) → get_or out k false ≡ cond (w k) v (get_or on k false)
