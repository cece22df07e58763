-- `word_at` gives `word_in`: the eight bytes of a part, as a word. Assumes nothing.
use mathlib.Core.Path.{◌≡◌, sym, ap, ◌∙◌}
use Prim.Native.Nat.{ℕ, ◌+◌, ◌-◌}
use native.Mathlib.Omega.{arith}
use lib.ListN.{take, drop}
use Rattle.byte_runs.proofs.Puts.{room_le, word_there}
use Rattle.byte_runs.proofs.word_at.Goals as goal

pub returns : goal.returns
returns c =
    let a = c.args in
    let n : a.at + 8 - a.at ≡ 8 = omega arith in
    word_there _ _ _ _ (room_le _ _ _ (sym c.has_room.ensures ∙ c.if-not-has_room.false))
    (c.copy_from_slice.ensures.after ∙ ap (λ (k : ℕ). take k (drop a.at a.bytes.now)) n) c.bytes_to_word.ensures
