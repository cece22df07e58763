-- `put_displacement` meets its contract, on either side of 0; of 32 bits at most eight digits are shown. Assumes nothing.
use lib.IntN.{pos}
use lib.Signed.{lt_z}
use mathlib.Core.Bool.{true, false}
use mathlib.Core.Path.{◌≡◌}
use native.Mathlib.Omega.{arith}
use Rattle.text_operands.proofs.Displacement.{whole, shown_below, shown_above, eight}
use Rattle.text_pieces.proofs.Writing.{◌then◌, tight, widen}
use Rattle.text_operands.proofs.put_displacement.Goals as goal
use Rattle.text_operands.proofs.put_displacement.Goals.{then-d-lt0, else-d-lt0}

pub returns : goal.returns
returns c =
    let f = c.ranges.d in
    let d = c.args.d in
    let digits = tight (rw (c.magnitude.ensures, whole _ f) at c.put_hex.ensures) (eight f) in
    let prefix = rw c.as_bytes.ensures.value at c.put_bytes-o.ensures in
    elim c.if-d-lt0.branch [
      | then-d-lt0 w ↦
          let t : lt_z d (pos 0) ≡ true = rw (whole _ f) at w.if-d-lt0.true in
          rw (shown_below d t) (widen (omega arith) (rw w.prefix-is at prefix then digits))
      | else-d-lt0 w ↦
          let t : lt_z d (pos 0) ≡ false = rw (whole _ f) at w.if-d-lt0.false in
          rw (shown_above d t) (widen (omega arith) (rw w.prefix-is at prefix then digits))
    ]
