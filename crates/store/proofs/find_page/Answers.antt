-- `find_page` gives `found_in`: while the loop runs, no slot before i holds the page, in the whole directory; the laws of `take` say that
-- the first of the slots in use is then the first of all, if it is among them.
use mathlib.Core.Path.{sym}
use Prim.Native.Nat.{ℕ, ◌+◌}
use native.Mathlib.Omega.{arith}
use lib.ListN.{length-take}
use Rattle.store.proofs.Seek.{seek_le, found_taken, none_taken}
use Rattle.store.proofs.find_page.Goals as goal

-- among the first four of a turn
pub returns-in-Some : goal.returns-in-Some
returns-in-Some c =
    let s = c.args in
    sym (found_taken s.used s.dir.now s.page (c.loop-i.i + c.in-Some.k) c.in-Some.ensures.1
    (omega (arith, length-take {A = ℕ}, c.min-end.ensures, c.in-Some.ensures)))

-- among the next four
pub returns-in-Some-among_four : goal.returns-in-Some-among_four
returns-in-Some-among_four c =
    let s = c.args in
    sym (found_taken s.used s.dir.now s.page (c.loop-i.i + 4 + c.in-Some-among_four.m) c.in-Some-among_four.ensures.1
    (omega (arith, length-take {A = ℕ}, c.min-end.ensures, c.in-Some-among_four.ensures)))

-- in none
pub returns-then-end-i : goal.returns-then-end-i
returns-then-end-i c =
    let s = c.args in
    sym (none_taken s.used s.dir.now s.page (omega (arith, length-take {A = ℕ}, c.min-end.ensures)))

-- in one of the last, which go one by one
pub returns-then-dir-i : goal.returns-then-dir-i
returns-then-dir-i c =
    let s = c.args in
    let here = seek_le s.dir.now s.page c.loop-i.i (omega (arith, c.min-end.ensures)) c.if-dir-i.true in
    sym (found_taken s.used s.dir.now s.page c.loop-i.i (omega arith) (omega (arith, length-take {A = ℕ}, c.min-end.ensures)))
