-- `put_places` gives a byte for each place: one place more with each turn. Assumes nothing.
use mathlib.Core.Path.{◌≡◌}
use Rattle.byte_runs.specs.Runs.{filled}
use Rattle.wire_session.specs.Reports.{place_byte}
use Rattle.wire_session.proofs.report.put_places.Given as goal

abbrev pub invariant-loop-k : goal.invariant-loop-k
invariant-loop-k l = l.lent ≡ filled l.fn.lent 0 (place_byte l.fn.places) l.k
