-- `neighbours::spans_meet` meets its contract: the later start against the earlier end is the test by places. Assumes nothing.
use Rattle.neighbours.proofs.Test.{spans_test}
use Rattle.neighbours.proofs.spans_meet.Goals as goal

pub returns : goal.returns
returns c = rw (c.max-start.ensures, c.min-end.ensures) (spans_test c.args.a c.args.b c.requires.0)
