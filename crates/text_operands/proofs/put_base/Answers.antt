-- `put_base` meets its contract, by cases on the base. Assumes nothing.
use Rattle.text_pieces.proofs.Writing.{nothing}
use native.Mathlib.Omega.{arith}
use Rattle.text_operands.proofs.put_base.Goals as goal

pub returns-in-None : goal.returns-in-None
returns-in-None c = rw c.in-None.is (nothing (omega arith))
