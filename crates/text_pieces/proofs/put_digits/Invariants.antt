-- `put_digits` meets its contract. The loop's invariant: the k lowest digits are left to write. Assumes nothing.
use Rattle.text_pieces.specs.Hex.{hex_digits}
use Rattle.text_pieces.proofs.Writing.{Rest}
use Rattle.text_pieces.proofs.put_digits.Given as goal

abbrev pub invariant-loop-k : goal.invariant-loop-k
invariant-loop-k l = Rest l.initial.out l.at (hex_digits l.n l.x) l.out l.o (hex_digits l.k l.x)
