-- `event_text` meets its contract: the writer puts the event's line. Assumes nothing.
use borrow.Author.Rules.{rules}
use native.Mathlib.Omega.{arith}
use Rattle.text_pieces.proofs.Writing.{from_zero}
use Rattle.text_state.specs.Lines.{event_text}
use Rattle.text.proofs.event_text.Goals as goal

pub returns : goal.returns
returns c =
    c.measured.ensures (event_text c.args.event) (from_zero (omega arith) c.put_event-length.ensures, λ d d' r k. (21, search rules))
