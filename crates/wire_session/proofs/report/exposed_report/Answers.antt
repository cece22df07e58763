-- `exposed_report` reports on the calls of the block's headers, if it holds nothing else: each turn lists one more. Assumes nothing.
use Rattle.std.specs.Prelude.{Some}
use mathlib.Core.Path.{◌≡◌, refl, sym, ap, ◌∙◌}
use native.Mathlib.Omega.{arith}
use Prim.Native.Nat.{◌/◌}
use Rattle.wire_records.specs.declared.Reply.{Reply}
use Rattle.wire_session.specs.Reports.{calls_listed, Reports}
use Rattle.wire_session.proofs.Replying.{no_record}
use Rattle.wire_session.proofs.Reporting.{listed_more, listed_none, is_whole, report_reply, report_bytes}
use Rattle.wire_session.proofs.report.exposed_report.Goals as goal

pub loop-k-init : goal.loop-k-init
unfolding calls_listed
loop-k-init c = refl

pub returns-in_err-calls : goal.returns-in_err-calls
unfolding Reports
returns-in_err-calls c =
    let a = c.args in
    let m = c.loop-k in
    let told = rw c.header_in.ensures at c.decode_call.ensures in
    rw (
      is_whole a.header a.lent.now c.if-n-gt64.false c.if-header-ne0.false c.if-lent-lt182.false,
      listed_none a.lent.now m.k (a.header.length / 128) m.invariant (sym told ∙ c.in_err-calls.was) (omega (arith, c.loop-k-test.true)),
    )
    (no_record c.from_residual.ensures)

pub loop-k-preserved : goal.loop-k-preserved
loop-k-preserved c =
    let told = rw c.header_in.ensures at c.decode_call.ensures in
    listed_more c.args.lent.now c.loop-k.k c.loop-k.invariant (sym told ∙ c.in_ok-calls.was)

pub returns : goal.returns
unfolding Reports
returns c =
    let a = c.args in
    let m = c.loop-k in
    let e : m.k ≡ a.header.length / 128 = omega (arith, c.loop-k-test.false) in
    let all : calls_listed a.lent.now (a.header.length / 128) ≡ Some m.calls = rw e at m.invariant in
    rw (is_whole a.header a.lent.now c.if-n-gt64.false c.if-header-ne0.false c.if-lent-lt182.false, all)
    (record {
      reply = report_reply c.exposed_places-report.result m.calls a.header.a c.exposed_places-report.ensures
          (ap (λ (r : Reply). Some r) c.reply.ensures);
      bytes = report_bytes a.lent.now c.exposed_places-report.result m.calls a.header.a c.exposed_places-report.ensures
          c.put_places.ensures;
    })
