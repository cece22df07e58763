-- `put_video` meets its contract, on either side of 0x80. Assumes nothing.
use borrow.Author.Tests.{lt-ltb, le-ltb}
use native.Mathlib.Omega.{arith}
use Rattle.text_pieces.proofs.Writing.{◌then◌, widen}
use Rattle.text_state.proofs.put_video.Goals as goal

pub returns-then-byte-lt128 : goal.returns-then-byte-lt128
returns-then-byte-lt128 c =
    simp (lt-ltb c.args.byte 128 (omega arith))
    (widen (omega arith) (c.put_bytes-o.ensures then c.put_byte.ensures))

pub returns : goal.returns
returns c =
    simp (le-ltb c.args.byte 128 (omega arith))
    (c.put_bytes-o.ensures then (c.put_byte-p.ensures then c.put_byte-2.ensures))
