-- `put_byte` meets its contract: a byte past the end is not stored, and after the last offset comes none. Assumes nothing.
use mathlib.Core.Path.{refl, sym}
use native.Mathlib.Omega.{arith}
use lib.Seq.{set_out}
use Rattle.text_pieces.specs.Put.{offset_after}
use Rattle.text_pieces.proofs.put_byte.Goals as goal

pub returns-then-at-out : goal.returns-then-at-out
unfolding offset_after
returns-then-at-out c = record { bytes = refl; next = omega arith; most = omega arith; short = omega arith }

pub returns : goal.returns
unfolding offset_after
returns c =
    record {
      bytes = sym (set_out _ _ _ c.if-at-out.false);
      next = omega (arith, c.saturating_add.ensures);
      most = omega arith;
      short = omega arith;
    }
