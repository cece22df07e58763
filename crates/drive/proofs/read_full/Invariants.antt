-- `drive::read_full` is safe and ends: each read that goes on takes the count nearer to the buffer's length. Assumes nothing.
use Rattle.std.proofs.Common.{length, ◌-◌}
use Rattle.drive.proofs.read_full.Given as goal

abbrev pub decreases-loop-done : goal.decreases-loop-done
decreases-loop-done l = length l.initial.buf - l.done
