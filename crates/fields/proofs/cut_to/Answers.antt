-- `cut_to` meets its contract, size by size. Assumes nothing.
use native.Mathlib.Omega.{arith}
use Rattle.utils.specs.Word.{cut}
use Rattle.fields.proofs.cut_to.Goals as goal

pub returns-in-Bit64 : goal.returns-in-Bit64
unfolding cut
returns-in-Bit64 c = rw c.in-Bit64.is (omega arith)

pub returns-in-Bit32 : goal.returns-in-Bit32
unfolding cut
returns-in-Bit32 c = rw c.in-Bit32.is (omega arith)

pub returns-in-Bit16 : goal.returns-in-Bit16
unfolding cut
returns-in-Bit16 c = rw c.in-Bit16.is (omega arith)

pub returns-in-Bit8 : goal.returns-in-Bit8
unfolding cut
returns-in-Bit8 c = rw c.in-Bit8.is (omega arith)
