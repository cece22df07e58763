-- `put_event` meets its contract, by cases on the event. Assumes nothing.
use native.Mathlib.Omega.{arith}
use Rattle.text_pieces.proofs.Writing.{nothing}
use Rattle.text_state.proofs.put_event.Goals as goal

pub returns-in-Quiet : goal.returns-in-Quiet
returns-in-Quiet c = rw c.in-Quiet.is (nothing (omega arith))
