-- `neighbours::rows_meet` meets its contract: each of the four spans against the other row. Assumes nothing.
use Rattle.neighbours.proofs.Test.{rows_test}
use Rattle.effects.specs.Rows.{in_spans}
use Rattle.neighbours.proofs.rows_meet.Goals as goal

pub returns : goal.returns
returns c =
    rw (
      c.span_meets_row.ensures,
      c.span_meets_row-2.ensures,
      c.span_meets_row-3.ensures,
      c.span_meets_row-4.ensures,
    )
    (rows_test c.args.row (in_spans c.args.other))
