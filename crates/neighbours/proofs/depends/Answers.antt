-- `neighbours::depends` meets its contract: both reach memory, or the rows decide, which stand within the 182 places. Assumes nothing.
use Rattle.effects.proofs.Inside.{reads_inside, rewrites_inside}
use Rattle.neighbours.proofs.Test.{both_reach, places_decide}
use mathlib.Core.Path.{sym}
use Rattle.neighbours.proofs.depends.Goals as goal

-- both reach memory
pub returns-then-reaches_memory : goal.returns-then-reaches_memory
returns-then-reaches_memory c =
    sym (both_reach c.args.a c.args.b
    (rw (c.reaches_memory.ensures, c.reaches_memory-2.ensures) at c.if-reaches_memory.true))

-- each row stands within the 182 places
pub rows_meet-requires : goal.rows_meet-requires
rows_meet-requires c =
    (rw c.rewrites_of-rewrites.ensures (rewrites_inside _), rw c.reads_of-other_reads.ensures (reads_inside _))

pub rows_meet-requires-2 : goal.rows_meet-requires-2
rows_meet-requires-2 c = (
  rw c.rewrites_of-rewrites.ensures (rewrites_inside _),
  rw c.rewrites_of-other_rewrites.ensures (rewrites_inside _),
)

pub rows_meet-requires-3 : goal.rows_meet-requires-3
rows_meet-requires-3 c =
    (rw c.rewrites_of-other_rewrites.ensures (rewrites_inside _), rw c.reads_of-reads.ensures (reads_inside _))

-- the rows decide
pub returns : goal.returns
returns c =
    rw (
      c.rows_meet.ensures,
      c.rows_meet-2.ensures,
      c.rows_meet-3.ensures,
      c.rewrites_of-rewrites.ensures,
      c.rewrites_of-other_rewrites.ensures,
      c.reads_of-reads.ensures,
      c.reads_of-other_reads.ensures,
    )
    (places_decide c.args.a c.args.b
    (rw (c.reaches_memory.ensures, c.reaches_memory-2.ensures) at c.if-reaches_memory.false))
