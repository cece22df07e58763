-- `exposed::mark_from` meets its contract: with each turn the part of the span that is marked grows by one place. Assumes nothing.
use Rattle.exposed.proofs.Marking.{mark_none, mark_more}
use native.Mathlib.Omega.{arith}
use Rattle.effects.specs.Rows.{span, in_span}
use Rattle.exposed.specs.Reported.{Marked}
use mathlib.Core.Path.{◌≡◌, subst}
use Prim.Native.Nat.{◌-◌, ℕ}
use Rattle.exposed.proofs.mark_from.Goals as goal

pub loop-p-init : goal.loop-p-init
loop-p-init c = mark_none c.args.on.now c.args.start c.args.value

pub loop-p-preserved : goal.loop-p-preserved
loop-p-preserved c =
    mark_more c.args.on.now c.loop-p.on c.args.start c.loop-p.p c.args.value (omega arith) (omega arith) c.loop-p.invariant

pub returns : goal.returns
returns c =
    let e : c.loop-p.p - c.args.start ≡ c.args.count = omega arith in
    subst (λ (n : ℕ). Marked c.args.on.now c.loop-p.on (in_span (span c.args.start n)) c.args.value) e c.loop-p.invariant
