-- `put_address` meets its contract, by cases on index and base, its pieces one after the other. Assumes nothing.
use native.Mathlib.Omega.{arith}
use Rattle.text_pieces.proofs.Writing.{◌then◌, nothing, widen}
use Rattle.text_operands.proofs.put_address.Goals as goal

-- neither base nor index
pub returns-in-None-None : goal.returns-in-None-None
returns-in-None-None c =
    rw (c.in-None-None.is-0, c.in-None-None.is-1) (nothing (omega arith))

-- a base alone
pub returns-in-None-Some : goal.returns-in-None-Some
returns-in-None-Some c =
    rw (c.in-None-Some.is-0, c.in-None-Some.is-1)
    (widen (omega arith)
    (c.put_byte-o1.ensures then c.put_register-o2.ensures then c.put_byte.ensures))

-- an index, with a base or without
pub returns-in-Some-default : goal.returns-in-Some-default
returns-in-Some-default c =
    rw c.in-Some-default.is-0
    (c.put_byte-o1-in-Some-default.ensures then
    c.put_base-o2.ensures then
    c.put_byte-o3.ensures then
    c.put_register-o4.ensures then
    c.put_byte-o5.ensures then
    c.put_scale-o6.ensures then
    c.put_byte-in-Some-default.ensures)
