-- `put_state` meets its contract: one line more is written, and at the end none is left. Assumes nothing.
use mathlib.Core.Path.{◌≡◌}
use native.Mathlib.Omega.{arith}
use Rattle.instruction_set.specs.declared.Register.TheVariants.{RAX}
use Rattle.text_pieces.proofs.Writing.{begin, onward, finish, reach, ◌then◌}
use Rattle.text_state.proofs.Longest.{lines_most}
use Rattle.text_state.proofs.StateLines.{next_line}
use Rattle.text_state.specs.Lines.{lines_after, others}
use Rattle.text_state.proofs.put_state.Goals as goal

pub loop-register-init : goal.loop-register-init
loop-register-init c = (begin (omega arith), omega (arith, reach c.put_line-o.ensures))

pub put_line-o-requires-in-loop-register : goal.put_line-o-requires-in-loop-register
put_line-o-requires-in-loop-register c = omega (arith, reach c.put_byte-o.ensures)

pub loop-register-preserved : goal.loop-register-preserved
loop-register-preserved c =
    let l = c.loop-register in
    let p = c.put_byte-o.ensures in
    let q = c.put_line-o-in-loop-register.ensures in (
      onward (onward (rw (next_line c.args.regs others l.register-index RAX (omega arith)) at l.invariant.0) p) q,
      omega (arith, reach p, reach q),
    )

pub returns : goal.returns
unfolding lines_after
returns c =
    let z : c.loop-register.register-index ≡ 16 = omega arith in
    c.put_line-o.ensures then (finish (rw z at c.loop-register.invariant.0) (lines_most c.args.regs others))
