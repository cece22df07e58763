-- `child` meets its contract: a node's place among its neighbours is its letter's. Assumes nothing.
use borrow.Author.Rules.{rules}
use mathlib.Core.Path.{sym}
use Rattle.reading_names.proofs.Tables.{child_place, child_nowhere}
use Rattle.reading_names.proofs.child.Goals as goal

pub returns-in_err-i : goal.returns-in_err-i
returns-in_err-i c = rw c.from_residual.ensures (sym (child_nowhere c.args.first c.args.b c.args.letters.now (search rules)))

pub returns : goal.returns
returns c = sym (child_place c.args.first c.args.b c.args.letters.now c.in_ok-i.i (search rules))
