-- `put_digits` meets its contract: the highest digit that is left is written, and at the end none is left. Assumes nothing.
use mathlib.Core.Path.{◌≡◌}
use native.Mathlib.Omega.{arith}
use Rattle.text_pieces.specs.Hex.{hex_digits}
use Rattle.text_pieces.proofs.Longest.{length_digits}
use Rattle.text_pieces.proofs.Writing.{digits_pos, onward, finish}
use Rattle.text_pieces.proofs.put_digits.Goals as goal

pub loop-k-preserved : goal.loop-k-preserved
loop-k-preserved c =
    let l = c.loop-k in
    onward (rw (digits_pos l.k c.args.x (omega arith)) at l.invariant) (rw c.hex_byte.ensures at c.put_byte-o.ensures)

pub returns : goal.returns
unfolding hex_digits
returns c =
    let z : c.loop-k.k ≡ 0 = omega arith in
    finish (rw (z, hex_digits) at c.loop-k.invariant) (rw length_digits c.requires)
