-- `fields::write_part` meets its contract: each arm's sum is the field that `put` puts in; arithmetic. Assumes nothing.
use Rattle.fields.specs.Parts.{write_of}
use Rattle.utils.specs.Word.{put}
use native.Mathlib.Omega.{arith}
use Rattle.fields.proofs.write_part.Goals as goal

pub returns-in-Whole : goal.returns-in-Whole
unfolding write_of put
returns-in-Whole c = rw c.in-Whole.is (omega arith)

pub returns-in-Low32 : goal.returns-in-Low32
unfolding write_of put
returns-in-Low32 c = rw (c.with_low_half.ensures, c.in-Low32.is) (omega arith)

pub returns-in-Low16 : goal.returns-in-Low16
unfolding write_of put
returns-in-Low16 c = rw c.in-Low16.is (omega arith)

pub returns-in-Low8 : goal.returns-in-Low8
unfolding write_of put
returns-in-Low8 c = rw c.in-Low8.is (omega arith)

pub returns-in-High8 : goal.returns-in-High8
unfolding write_of put
returns-in-High8 c = rw c.in-High8.is (omega arith)

pub returns-in-Nothing : goal.returns-in-Nothing
unfolding write_of put
returns-in-Nothing c = rw c.in-Nothing.is (omega arith)
