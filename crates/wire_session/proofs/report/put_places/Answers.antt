-- `put_places` gives a byte for each place: one place more with each turn. Assumes nothing.
use mathlib.Core.Path.{refl}
use Rattle.byte_runs.specs.Runs.{filled}
use Rattle.wire_session.proofs.Reporting.{place_more}
use Rattle.wire_session.proofs.report.put_places.Goals as goal

pub loop-k-init : goal.loop-k-init
unfolding filled
loop-k-init c = refl

pub loop-k-preserved : goal.loop-k-preserved
loop-k-preserved c = rw c.from.ensures (place_more c.args.lent.now c.args.places c.loop-k.k c.loop-k.invariant)
