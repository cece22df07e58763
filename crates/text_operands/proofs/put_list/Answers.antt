-- `put_list` meets its contract, by cases on the second operand. Assumes nothing.
use Rattle.text_pieces.proofs.Writing.{◌then◌}
use Rattle.text_operands.proofs.put_list.Goals as goal

pub returns-in-Some : goal.returns-in-Some
returns-in-Some c =
    rw c.in-Some.is
    (c.put_operand-o.ensures then c.put_byte-p.ensures then c.put_operand.ensures)
