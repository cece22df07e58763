-- `put_register` meets its contract: `%`, then the name. Assumes nothing.
use Rattle.text_pieces.proofs.Writing.{◌then◌}
use Rattle.text_operands.proofs.put_register.Goals as goal

pub returns : goal.returns
returns c =
    c.put_byte-o.ensures then c.put_name.ensures
