-- Demand 3, forgotten readers (RULES 8.4, 8.5). A place is exposed by the table of calls (`exposed`, effects/specs/Exposed.antt); a machine
-- of Rattle has 22 words below 2^64 and so on by its type (`WellTyped`, effects/specs/Places.antt); what a call does is `step`, which
-- `calls::perform` is proved to do.
use Rattle.std.specs.Prelude.{true, false, List, [], ◌++◌, map, ◌≡◌, ℕ, ◌<◌, ◌≤◌, length, get_or}
use Rattle.utils.specs.Outcome.{gives}
use Rattle.calls.specs.declared.Call.{Call}
use Rattle.effects.specs.Exposed.{exposed, Exposes, Forgotten}
use Rattle.effects.specs.Places.{Act, State, WellTyped, place, reads, rewrites, does, store_in, place_in}
use Rattle.exposed.specs.Reported.{call_of_act, reported}

-- for every list of tabled calls with their arguments, and two machines with equal stores that agree on all exposed places: each call
-- answers alike in both, stores are equal after it, and at the end the machines agree on every place that is exposed or rewritten; each
-- keeps what it had elsewhere (`Forgotten`)
abbrev pub ForgottenReaders : Type 0
ForgottenReaders =
    (acts : List Act) (x y : State)
    → WellTyped x.machine
    → WellTyped y.machine
    → x.store ≡ y.store
    → ((p : ℕ) → exposed reads rewrites acts p ≡ true → place x.machine p ≡ place y.machine p)
    → Forgotten reads rewrites does store_in place_in acts x y

-- exposed means what the rule says: some call reads the place, and no call before it has rewritten it
pub record ExposedMeans (acts : List Act) (p : ℕ) : Type 0 where
  pub only : exposed reads rewrites acts p ≡ true → Exposes reads rewrites acts p
  pub where_so : Exposes reads rewrites acts p → exposed reads rewrites acts p ≡ true

-- the report of up to 64 calls is exactly the exposed places (RULES 8.5): it is accepted, whatever stands behind the calls in the list
pub record Exact (acts : List Act) (rest : List Call) : Type 0 where
  pub accepted : (reported (map call_of_act acts ++ rest) (length acts)).outcome ≡ gives []
  pub places : (p : ℕ)
      → p < 182
      → get_or (reported (map call_of_act acts ++ rest) (length acts)).places p false ≡ exposed reads rewrites acts p

abbrev pub ReportExact : Type 0
ReportExact =
    (acts : List Act) (rest : List Call)
    → length acts ≤ 64
    → Exact acts rest
