-- The list of a report: each turn lists one call more, or there is no list; when a block is whole; and what a report says. Assumes nothing.
use Rattle.std.specs.Prelude.{Option, Some, None}
use mathlib.Core.Bool.{Bool, true, false}
use mathlib.Core.List.{List}
use mathlib.Core.Path.{◌≡◌, sym, ap, ◌∙◌}
use Prim.Native.Nat.{ℕ, zero, suc, ◌+◌, ◌-◌, ◌/◌, ◌%◌, ◌≤◌, ◌<◌}
use native.Mathlib.Nat.{zero-add}
use native.Mathlib.Numerals.{add-one}
use native.Mathlib.Omega.{arith}
use mir.Val.{bool_byte}
use borrow.Author.Tests.{le-leb}
use lib.ListN.{length, get_or, set}
use Rattle.machine_state.specs.Memory.{word_outcome}
use Rattle.byte_runs.specs.Runs.{filled}
use Rattle.byte_runs.proofs.Filled.{filled_more}
use Rattle.calls.specs.declared.Call.{Call}
use Rattle.exposed.specs.Reported.{ReportAnswer, reported, report_answer, verdict_outcome}
use Rattle.exposed.specs.declared.Report.{Report}
use Rattle.wire_records.specs.Decoded.{call_of}
use Rattle.wire_records.specs.Words.{header_in}
use Rattle.wire_records.specs.declared.Header.{Header}
use Rattle.wire_records.specs.declared.Reply.{Reply}
use Rattle.wire_session.proofs.Replying.{bool_byte_lem}
use Rattle.wire_session.specs.Replies.{reply_of}
use Rattle.wire_session.specs.Reports.{calls_listed, whole, place_byte}

-- ---- one header more: a call is listed, and where there is none, none is from there on
pub listed_more : (l : List ℕ) (k : ℕ) {cs : List Call} {c : Call} → calls_listed l k ≡ Some cs → call_of (header_in l k) ≡ Some c
    → calls_listed l (k + 1) ≡ Some (set cs k c)
unfolding calls_listed
listed_more l k e f = rw (add-one, e, f)

stays_none : (l : List ℕ) (n : ℕ) → calls_listed l n ≡ None → calls_listed l (suc n) ≡ None
unfolding calls_listed
stays_none l n e = rw e

none_later : (l : List ℕ) (k d : ℕ) → calls_listed l k ≡ None → calls_listed l (k + d) ≡ None
none_later l k zero e = let z : k + 0 ≡ k = omega arith in ap (λ (j : ℕ). calls_listed l j) z ∙ e
none_later l k (suc d) e =
    let s : k + suc d ≡ suc (k + d) = omega arith in ap (λ (j : ℕ). calls_listed l j) s ∙ stays_none l (k + d) (none_later l k d e)

pub listed_none : (l : List ℕ) (k n : ℕ) {cs : List Call} → calls_listed l k ≡ Some cs → call_of (header_in l k) ≡ None → k < n
    → calls_listed l n ≡ None
unfolding calls_listed
listed_none l k n e f lt =
    let z : n ≡ suc k + (n - suc k) = omega (arith, lt) in
    let here : calls_listed l (suc k) ≡ None = rw (e, f) in
    ap (λ (j : ℕ). calls_listed l j) z ∙ none_later l (suc k) (n - suc k) here

-- ---- a block is whole, or is not
module _ (h : Header) (l : List ℕ) where
  pub is_whole : h.length / 128 ≤ 64 → h.length % 128 ≡ 0 → 182 ≤ length l → whole h l ≡ true
  is_whole a b d = rw (le-leb (h.length / 128) 64 a, b, le-leb 182 (length l) d)

-- what the report says is what is answered
pub report_reply : {r : Option Reply} (p : Report) (cs : List Call) (n : ℕ) → report_answer p ≡ reported cs n
    → r ≡ Some (reply_of (word_outcome (verdict_outcome p.verdict)) 182)
    → r ≡ Some (reply_of (word_outcome (reported cs n).outcome) 182)
report_reply p cs n e h = h ∙ ap (λ (s : ReportAnswer). Some (reply_of (word_outcome s.outcome) 182)) e

pub report_bytes : (l : List ℕ) {l' : List ℕ} (p : Report) (cs : List Call) (n : ℕ) → report_answer p ≡ reported cs n
    → l' ≡ filled l 0 (place_byte p.places) 182
    → l' ≡ filled l 0 (place_byte (reported cs n).places) 182
report_bytes l p cs n e h = h ∙ ap (λ (s : ReportAnswer). filled l 0 (place_byte s.places) 182) e

-- one place more
pub place_more : (l : List ℕ) (ps : List Bool) {d : List ℕ} (k : ℕ) → d ≡ filled l 0 (place_byte ps) k
    → set d k (bool_byte (get_or ps k false)) ≡ filled l 0 (place_byte ps) (k + 1)
place_more l ps {d} k e =
    ap (λ (x : List ℕ). set x k (bool_byte (get_or ps k false))) e
    ∙ ap (λ (b : ℕ). set (filled l 0 (place_byte ps) k) k b) (bool_byte_lem (get_or ps k false))
    ∙ ap (λ (j : ℕ). set (filled l 0 (place_byte ps) k) j (place_byte ps k)) (sym (zero-add k))
    ∙ filled_more l 0 (place_byte ps) k
