-- `take_words` gives `FilledIf`: one word more with each turn. Assumes nothing.
use mathlib.Core.Path.{◌≡◌}
use Prim.Native.Nat.{ℕ, ◌+◌, ◌*◌, ◌<◌}
use lib.ListN.{get_or}
use Rattle.byte_runs.specs.Runs.{word_in}
use Rattle.byte_runs.proofs.take_words.Given as goal

abbrev pub invariant-loop-k : goal.invariant-loop-k
invariant-loop-k l = (j : ℕ) → j < l.k → get_or l.word-items j 0 ≡ word_in l.bytes (l.at + 8 * j)
