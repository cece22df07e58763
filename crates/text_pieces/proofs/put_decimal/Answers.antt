-- `put_decimal` meets its contract: of the three digits those of a hundred and of ten are left out where the number is below. Assumes
-- nothing.
use mathlib.Core.Bool.{cond}
use mathlib.Core.List.{List, [], ◌∷◌, ◌++◌}
use mathlib.Core.Path.{◌≡◌}
use Prim.Native.Nat.{ℕ, ◌/◌, ◌%◌}
use borrow.Author.Tests.{lt-ltb, le-ltb}
use lib.Dec.{ltb}
use native.Mathlib.Omega.{arith}
use Rattle.std.proofs.lemmas.Bool.Decides.{nat_tests}
use Rattle.text_pieces.specs.Ascii.{digit, decimal_text}
use Rattle.text_pieces.specs.Put.{TextPut}
use Rattle.text_pieces.proofs.Writing.{◌then◌, nothing}
use Rattle.text_pieces.proofs.put_decimal.Goals as goal
use Rattle.text_pieces.proofs.put_decimal.Goals.{then-x-lt100, else-x-lt100, then-x-lt10, else-x-lt10}

-- a digit, or nothing where x is below n
abbrev unless_below : ℕ → ℕ → ℕ → List ℕ
unless_below n x d = cond (ltb x n) [] (digit d ∷ [])

abbrev apart : ℕ → List ℕ
apart x = unless_below 100 x (x / 100) ++ unless_below 10 x (x / 10 % 10) ++ (digit (x % 10) ∷ [])

pieces : (x : ℕ) → decimal_text x ≡ apart x
pieces x = grind (arith, nat_tests)

pub returns : goal.returns
returns c =
    let a = c.args in
    let m = c.if-x-lt100 in
    let n = c.if-x-lt10 in
    let hundreds : TextPut 1 a.out.now a.at (unless_below 100 a.x (a.x / 100)) m.out m.o =
    elim m.branch [
      | then-x-lt100 w ↦ rw (w.out-is, w.o-is, lt-ltb a.x 100 w.if-x-lt100.true) (nothing (omega arith))
      | else-x-lt100 w ↦ rw (w.out-is, w.o-is, le-ltb a.x 100 w.if-x-lt100.false) w.put_byte-o.ensures
    ] in
    let tens : TextPut 1 m.out m.o (unless_below 10 a.x (a.x / 10 % 10)) n.out n.p =
    elim n.branch [
      | then-x-lt10 w ↦ rw (w.out-is, w.p-is, lt-ltb a.x 10 w.if-x-lt10.true) (nothing (omega arith))
      | else-x-lt10 w ↦ rw (w.out-is, w.p-is, le-ltb a.x 10 w.if-x-lt10.false) w.put_byte-p.ensures
    ] in
    rw (pieces a.x) (hundreds then tens then c.put_byte.ensures)
