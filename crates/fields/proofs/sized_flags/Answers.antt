-- `sized_flags` meets its contract: it is the old form of the low bits (`sized_of_low`). Assumes nothing.
use Rattle.fields.proofs.SizedFlags.{sized_of_low}
use Rattle.fields.proofs.sized_flags.Goals as goal

pub returns : goal.returns
returns c =
    rw (c.computed_flags.ensures, c.cut_to.ensures) (sized_of_low c.args.size c.args.res c.args.x)
