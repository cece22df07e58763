-- `put_words` gives `FilledIf`: one word more with each turn (`word_more`). Assumes nothing.
use mathlib.Core.Path.{◌≡◌, refl, sym, ◌∙◌}
use native.Mathlib.Omega.{arith}
use lib.ListN.{length}
use Rattle.utils.proofs.Bytes.{length_to_bytes}
use Rattle.byte_runs.specs.Runs.{filled}
use Rattle.byte_runs.proofs.Puts.{room_le, put_copied, word_more}
use Rattle.byte_runs.proofs.put_words.Goals as goal

pub loop-k-init : goal.loop-k-init
unfolding filled
loop-k-init c = refl

pub loop-k-preserved : goal.loop-k-preserved
loop-k-preserved c =
    let a = c.args in
    let w = c.word_to_bytes in
    let r = room_le _ _ _ (sym c.has_room.ensures ∙ c.if-not-has_room.false) in
    let e : length w.result ≡ 8 = rw w.ensures (length_to_bytes 8 _) in
    put_copied w.result 0 c.copy.ensures (omega (arith, e)) (omega (arith, r))
    ∙ rw (c.loop-k.invariant, w.ensures) (word_more a.out.now a.at a.words.now c.loop-k.k)
