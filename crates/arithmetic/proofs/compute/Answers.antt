-- `compute` gives `computed_of`: the carry taken, what is worked out with it, its flags and its extension. Assumes nothing.
use Rattle.arithmetic.specs.Sums.{computed_of}
use Rattle.arithmetic.proofs.compute.Goals as goal

pub returns : goal.returns
unfolding computed_of
returns c =
    rw (
      c.with_flags.ensures,
      c.sign_extend-value.ensures,
      c.size_bits.ensures,
      c.worked-sum.ensures,
      c.carry_taken-carry.ensures,
      c.test_flag.ensures,
    )
