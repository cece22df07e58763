-- So far the part of the span below p is marked.
use Prim.Native.Nat.{◌-◌}
use Rattle.effects.specs.Rows.{span, in_span}
use Rattle.exposed.specs.Reported.{Marked}
use Rattle.exposed.proofs.mark_from.Given as goal

abbrev pub invariant-loop-p : goal.invariant-loop-p
invariant-loop-p l = Marked l.initial.on l.on (in_span (span l.start (l.p - l.start))) l.value
