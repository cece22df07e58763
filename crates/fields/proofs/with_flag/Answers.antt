-- `fields::with_flag` meets its contract: the old bit out and the new one in is what `put` does (BitOf). Assumes nothing.
use Rattle.instruction_set.specs.Flags.{bit_of}
use Rattle.fields.specs.FlagBits.{put_flag}
use Rattle.fields.proofs.BitOf.{bit_in, bit_out}
use Rattle.instruction_set.proofs.Bounds.{bit_below}
use native.Mathlib.Omega.{arith}
use Rattle.fields.proofs.with_flag.Goals as goal

pub returns-then-value : goal.returns-then-value
unfolding put_flag
returns-then-value c =
    rw (c.flag_bit-bit.ensures, c.if-value.true)
    (bit_in c.args.x (bit_of c.args.flag) (omega (arith, bit_below c.args.flag))
    c.ranges.x.fits)

pub returns : goal.returns
unfolding put_flag
returns c =
    rw (c.flag_bit-bit.ensures, c.if-value.false)
    (bit_out c.args.x (bit_of c.args.flag) (omega (arith, bit_below c.args.flag))
    c.ranges.x.fits)
