-- `write_counted` owes `Stored`: nothing, or what `write` writes, which asks for the room that was counted.
use mathlib.Core.Path.{sym}
use native.Mathlib.Omega.{arith}
use Rattle.std.proofs.lemmas.Grind.{common_steps}
use Rattle.writes.proofs.Stores.{stored_full, stored_done}
use Rattle.writes.proofs.write_counted.Goals as goal

-- no room
pub returns-then-unused-absent : goal.returns-then-unused-absent
returns-then-unused-absent c =
    stored_full _ c.requires _ c.args.«data».now _
    (omega (arith, c.if-unused-absent.true, c.count_absent-absent.ensures))
    (omega (arith, c.count_absent-absent.ensures))

-- page by page: the slices are those that were lent, so what `write` leaves in them is what the caller sees
pub returns : goal.returns
returns c =
    let t = c.write.new.self in
    let d = sym c.write.ensures.same.dir in
    let b = sym c.write.ensures.same.bytes in
    let w = c.write.ensures.bytes in
    stored_done _ _ c.requires _ _ _ (omega (arith, c.if-unused-absent.false, c.count_absent-absent.ensures)) (grind (arith, common_steps))
