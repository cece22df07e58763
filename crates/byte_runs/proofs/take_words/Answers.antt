-- `take_words` gives `FilledIf`: one word more with each turn. Assumes nothing.
use mathlib.Core.Path.{sym, ◌∙◌}
use Prim.Native.Nat.{ℕ, ◌+◌, ◌*◌}
use native.Mathlib.Omega.{arith}
use lib.ListN.{length-take}
use Rattle.byte_runs.specs.Runs.{word_in}
use Rattle.byte_runs.proofs.Filled.{part_filled}
use Rattle.byte_runs.proofs.Puts.{room_yes, put_done}
use Rattle.std.proofs.lemmas.Bool.{and_from}
use Rattle.byte_runs.proofs.take_words.Goals as goal

pub returns : goal.returns
returns c =
    let a = c.args in
    let e = sym c.has_room.ensures ∙ c.if-not-has_room.false in
    put_done (and_from _ _ (room_yes _ 0 a.n (omega arith)) e)
    (part_filled a.words.now 0 (λ (k : ℕ). word_in a.bytes.now (a.at + 8 * k)) a.n c.loop-k.word-items (omega arith)
    (omega (arith, length-take {A = ℕ})) (λ k lt. c.loop-k.invariant k (omega (arith, length-take {A = ℕ}))))
