-- The answers so far are those of the calls that were gone through, the last of all calls first.
use Rattle.std.proofs.Common.{map, reverse}
use Rattle.exposed.proofs.Marking.{Listing}
use Rattle.exposed.proofs.exposed_places.Given as goal

abbrev pub invariant-loop-call : goal.invariant-loop-call
invariant-loop-call l = Listing (reverse (map (λ r. r.now) l.yielded)) l.on
