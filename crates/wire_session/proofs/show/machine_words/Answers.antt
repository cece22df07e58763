-- `machine_words` gives the parents, then the three others. Assumes nothing.
use Rattle.std.specs.Prelude.{Some}
use borrow.Author.Rules.{rules}
use mathlib.Core.Path.{ap}
use Rattle.wire_records.specs.declared.Reply.{Reply}
use Rattle.wire_session.proofs.Showing.{machine_given}
use Rattle.wire_session.proofs.show.machine_words.Goals as goal

pub returns : goal.returns
returns c =
    machine_given c.args.machine (search rules) c.if-lent-lt200.false c.put_words.ensures
    c.put_words-2.ensures (ap (λ (r : Reply). Some r) c.gave.ensures)
