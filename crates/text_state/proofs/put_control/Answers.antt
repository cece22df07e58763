-- `put_control` meets its contract: a line where the register has a label, and none otherwise. Assumes nothing.
use borrow.Author.Tests.{lt-ltb, le-ltb}
use native.Mathlib.Omega.{arith}
use Rattle.text_pieces.proofs.Writing.{◌then◌, nothing}
use Rattle.text_state.proofs.put_control.Goals as goal

pub returns-in_default : goal.returns-in_default
returns-in_default c = simp (lt-ltb _ _ c.in_default.ensures) (nothing (omega arith))

pub returns : goal.returns
returns c =
    simp (le-ltb _ _ c.in-Some.ensures.0)
    (c.put_bytes-o.ensures then
    ((rw c.in-Some.ensures.1 at c.put_byte-p.ensures) then
    (c.put_bytes-q.ensures then c.put_hex.ensures)))
