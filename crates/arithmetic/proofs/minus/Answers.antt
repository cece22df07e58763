-- `minus` gives `subtracted`: the sum with the complement is the difference (`difference_is`). Assumes nothing.
use Rattle.arithmetic.proofs.Widths.{bits_some, bits_within}
use Rattle.arithmetic.proofs.Taking.{complement_is, difference_is}
use Rattle.arithmetic.proofs.minus.Goals as goal

pub returns : goal.returns
returns c =
    rw c.plus-sum.ensures
    (difference_is _ _ _ _ c.args.borrow (bits_some c.args.size)
    (complement_is _ c.args.b (bits_within c.args.size) c.ranges.b.fits))
