-- `state_text` meets its contract: the writer puts the lines of the state. Assumes nothing.
use borrow.Author.Rules.{rules}
use native.Mathlib.Omega.{arith}
use Rattle.text_pieces.proofs.Writing.{from_zero}
use Rattle.text_state.specs.Lines.{state_text}
use Rattle.text.proofs.state_text.Goals as goal

pub returns : goal.returns
returns c =
    c.measured.ensures (state_text c.args.machine) (from_zero (omega arith) c.put_state-length.ensures, λ d d' r k. (577, search rules))
