-- `put_operand` meets its contract, by cases on the operand. Assumes nothing.
use Rattle.text_operands.proofs.Displacement.{whole}
use borrow.Author.Rules.{rules}
use native.Mathlib.Omega.{arith}
use Rattle.text_pieces.proofs.Writing.{◌then◌, widen}
use Rattle.text_operands.proofs.put_operand.Goals as goal

pub returns-in-Immediate : goal.returns-in-Immediate
returns-in-Immediate c =
    rw c.in-Immediate.is
    (widen (omega arith)
    (c.put_bytes-o.ensures then (rw c.cut_to.ensures at c.put_hex.ensures)))

pub returns-in-EffectiveAddress : goal.returns-in-EffectiveAddress
returns-in-EffectiveAddress c =
    rw c.in-EffectiveAddress.is
    ((rw (whole c.in-EffectiveAddress.displacement (search rules)) at c.put_displacement-o.ensures) then c.put_address.ensures)
