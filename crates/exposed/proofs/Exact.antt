-- Demand 3: the report is exactly the list of exposed places that the theorem on forgotten readers speaks of, place by place, and a
-- report is fixed by its outcome. Assumes nothing.
use Rattle.std.specs.Prelude.{Result, Ok, Err}
use mathlib.Core.Bool.{Bool, true, false, not, ◌&&◌, ◌||◌}
use mathlib.Core.List.{List, [], ◌∷◌, ◌++◌, map}
use mathlib.Core.Path.{◌≡◌, refl, sym, ap, ◌∙◌}
use Prim.Native.Nat.{ℕ, ◌≤◌, ◌<◌}
use native.Mathlib.Omega.{arith}
use lib.ListN.{length, get_or, take, replicate, length-map}
use lib.Seq.{take-append_seam}
use borrow.Author.Tests.{le-leb}
use Rattle.utils.specs.Outcome.{Outcome, gives, refuses}
use Rattle.effects.specs.Exposed.{exposed, Exposes}
use Rattle.effects.specs.Places.{Act, reads, rewrites}
use Rattle.effects.specs.Rows.{reads_of, rewrites_of, in_spans}
use Rattle.effects.proofs.Theorem.{exposed_says, exposed_where}
use Rattle.exposed.specs.Reported.{verdict_outcome, report_answer, ReportAnswer, call_reads, call_rewrites, call_of_act, reported}
use Rattle.calls.specs.declared.Call.{Call}
use Rattle.exposed.specs.declared.Report.{Report}
use Rattle.exposed.specs.declared.TooManyCalls.{TooManyCalls}
use Rattle.exposed.proofs.Marking.{get_or_listed, listing_refused}

-- ---- the report of up to 64 calls is exactly the list of exposed places (RULES 8.5)
same_exposed : (acts : List Act) (p : ℕ) → exposed call_reads call_rewrites (map call_of_act acts) p ≡ exposed reads rewrites acts p
unfolding exposed reads rewrites call_reads call_rewrites
same_exposed [] p = refl
same_exposed (a ∷ rest) p =
    ap (λ (b : Bool). in_spans (reads_of a.call) p || not (in_spans (rewrites_of a.call) p) && b) (same_exposed rest p)

module _ (acts : List Act) (rest : List Call) (few : length acts ≤ 64) where
  -- it is accepted, whatever stands behind the calls in the list
  pub report_accepted : (reported (map call_of_act acts ++ rest) (length acts)).outcome ≡ gives []
  unfolding reported
  report_accepted = simp (le-leb (length acts) 64 few)

  pub report_exact : (p : ℕ) → p < 182
      → get_or (reported (map call_of_act acts ++ rest) (length acts)).places p false ≡ exposed reads rewrites acts p
  unfolding reported
  report_exact p l =
      let e : take (length acts) (map call_of_act acts ++ rest) ≡ map call_of_act acts =
      ap (λ (n : ℕ). take n (map call_of_act acts ++ rest)) (sym (length-map acts call_of_act))
      ∙ take-append_seam (map call_of_act acts) rest in
      simp (le-leb (length acts) 64 few)
      (get_or_listed 182 (exposed call_reads call_rewrites (take (length acts) (map call_of_act acts ++ rest))) p l
      ∙ ap (λ (cs : List Call). exposed call_reads call_rewrites cs p) e
      ∙ same_exposed acts p)

  -- in the demand's words: a yes where some call reads the place and no earlier call has rewritten it, and only there
  pub report_says : (p : ℕ) → p < 182 → get_or (reported (map call_of_act acts ++ rest) (length acts)).places p false ≡ true
      → Exposes reads rewrites acts p
  report_says p l h = exposed_says acts p (sym (report_exact p l) ∙ h)

  pub report_where : (p : ℕ) → p < 182 → Exposes reads rewrites acts p
      → get_or (reported (map call_of_act acts ++ rest) (length acts)).places p false ≡ true
  report_where p l e = report_exact p l ∙ exposed_where acts p e

-- 12 where more than 64 calls are meant, and all no (RULES 8.5)
pub report_refused : (calls : List Call) (n : ℕ) → 64 < n
    → ◌≡◌ {A = ReportAnswer} record { outcome = refuses 12; places = replicate 182 false } (reported calls n)
report_refused calls n h = listing_refused calls n h

-- ---- a verdict can be told from its outcome, so that the contract of `exposed_places` fixes the whole report
pub verdict_outcome_lem : (a b : Result (Unit {0}) TooManyCalls) → verdict_outcome a ≡ verdict_outcome b → a ≡ b
verdict_outcome_lem (Ok x) (Ok y) e = refl
verdict_outcome_lem (Err q) (Err r) e = refl
verdict_outcome_lem (Ok x) (Err r) e = absurd (let n = ap (λ (o : Outcome ℕ). o.number) e in omega arith)
verdict_outcome_lem (Err q) (Ok x) e = absurd (let n = ap (λ (o : Outcome ℕ). o.number) e in omega arith)

pub report_outcome : (r q : Report) → report_answer r ≡ report_answer q → r ≡ q
report_outcome r q e =
    let v = verdict_outcome_lem r.verdict q.verdict (ap (λ (s : ReportAnswer). s.outcome) e) in
    let l = ap (λ (s : ReportAnswer). s.places) e in
    λ i. record { verdict = v i; places = l i }
