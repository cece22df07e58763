-- `neighbours::span_meets_row` meets its contract: an empty span meets nothing, another is tried against each of the four. Assumes nothing.
use Rattle.effects.specs.Rows.{in_span}
use Rattle.neighbours.proofs.Test.{empty_meets_none, row_test}
use mathlib.Core.Path.{sym}
use Rattle.neighbours.proofs.span_meets_row.Goals as goal

pub returns-then-span-eq0 : goal.returns-then-span-eq0
returns-then-span-eq0 c =
    sym (empty_meets_none c.args.span c.args.row c.if-span-eq0.true)

pub returns : goal.returns
returns c =
    rw (
      c.spans_meet.ensures,
      c.spans_meet-2.ensures,
      c.spans_meet-3.ensures,
      c.spans_meet-4.ensures,
    )
    (row_test (in_span c.args.span) c.args.row)
