-- `fields::sign_bit` meets its contract: the top bit, shifted down, is its field of one bit. Assumes nothing.
use Rattle.fields.specs.FlagBits.{bit_set}
use Rattle.utils.specs.Word.{cut}
use Rattle.fields.proofs.sign_bit.Goals as goal

pub returns : goal.returns
unfolding bit_set cut
returns c = rw c.size_bits-top.ensures
