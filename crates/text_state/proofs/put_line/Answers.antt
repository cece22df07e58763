-- `put_line` meets its contract: its pieces one after the other; a register's parent is below 22. Assumes nothing.
use Rattle.text_pieces.proofs.Writing.{◌then◌}
use Rattle.text_state.proofs.put_line.Goals as goal

pub returns : goal.returns
returns c =
    c.put_padded-o.ensures then
    (c.put_bytes-p.ensures then (rw c.get_parent-parent.ensures at c.put_hex.ensures))
