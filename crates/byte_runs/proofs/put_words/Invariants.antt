-- `put_words` gives `FilledIf`: one word more with each turn. Assumes nothing.
use mathlib.Core.Path.{◌≡◌}
use Prim.Native.Nat.{◌*◌}
use Rattle.byte_runs.specs.Runs.{filled, lane_in}
use Rattle.byte_runs.proofs.put_words.Given as goal

abbrev pub invariant-loop-k : goal.invariant-loop-k
invariant-loop-k l = l.out ≡ filled l.fn.out l.at (lane_in l.words) (8 * l.k)
