-- `worked` gives `worked_of`: its two ways out are the two of the definition. Assumes nothing.
use Rattle.arithmetic.specs.Sums.{worked_of}
use Rattle.std.proofs.Common.{sym}
use Rattle.arithmetic.proofs.worked.Goals as goal

pub returns-then-is_difference : goal.returns-then-is_difference
unfolding worked_of
returns-then-is_difference c =
    rw (sym c.is_difference.ensures, c.if-is_difference.true) c.minus.ensures

pub returns : goal.returns
unfolding worked_of
returns c =
    rw (sym c.is_difference.ensures, c.if-is_difference.false) c.plus.ensures
