-- `fields::test_flag` meets its contract: the flag's bit, shifted down, is its field of one bit. Assumes nothing.
use Rattle.fields.specs.FlagBits.{bit_set}
use Rattle.utils.specs.Word.{cut}
use Rattle.fields.proofs.test_flag.Goals as goal

pub returns : goal.returns
unfolding bit_set cut
returns c = rw c.flag_bit-bit.ensures
