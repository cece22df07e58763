-- Demand 3, from the crates `effects` and exposed (RULES 8.4, 8.5). Assumes nothing.
use mathlib.Core.List.{List}
use Prim.Native.Nat.{ℕ}
use Rattle.effects.specs.Places.{Act}
use Rattle.effects.proofs.Theorem as theorem
use Rattle.exposed.proofs.Exact as exact
use Rattle.promises.specs.Demand3.{ForgottenReaders, ExposedMeans, ReportExact}

pub forgotten_readers : ForgottenReaders
forgotten_readers = theorem.forgotten_readers

pub exposed_means : (acts : List Act) (p : ℕ) → ExposedMeans acts p
exposed_means acts p = record { only = theorem.exposed_says acts p; where_so = theorem.exposed_where acts p }

pub report_exact : ReportExact
report_exact acts rest few = record { accepted = exact.report_accepted acts rest few; places = exact.report_exact acts rest few }
