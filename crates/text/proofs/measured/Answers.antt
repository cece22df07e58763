-- `measured` meets its contract: the call of the writer puts a text of the length that was measured. Assumes nothing.
use Rattle.text.proofs.Answering.{too_long, in_room}
use Rattle.text.proofs.measured.Goals as goal

pub returns-then-out-length : goal.returns-then-out-length
returns-then-out-length g c = λ text (z, puts). too_long z c.if-out-length.true

pub returns : goal.returns
returns g c = λ text (z, puts). let (most, p) = puts _ _ _ c.put.ensures in in_room z c.if-out-length.false p
