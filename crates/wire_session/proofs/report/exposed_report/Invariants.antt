-- `exposed_report` reports on the calls of the block's headers, if it holds nothing else: each turn lists one more. Assumes nothing.
use Rattle.std.specs.Prelude.{Some}
use mathlib.Core.Path.{◌≡◌}
use Rattle.wire_session.specs.Reports.{calls_listed}
use Rattle.wire_session.proofs.report.exposed_report.Given as goal

abbrev pub invariant-loop-k : goal.invariant-loop-k
invariant-loop-k l = calls_listed l.lent l.k ≡ Some l.calls
