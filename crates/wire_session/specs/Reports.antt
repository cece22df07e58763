-- Kind 40 (docs/FORMAT.md, "Texts and the report"): the exposed places (RULES 8.5) of the calls whose headers stand in the lent bytes.
use Rattle.std.specs.Prelude.{Bool, false, cond, ◌&&◌, List, ◌≡◌, ℕ, zero, suc, ◌/◌, ◌%◌, eqb, leb, length, get_or, set, replicate}
use Rattle.std.specs.Prelude.{Option, Some, MatchOption}
use Rattle.machine_state.specs.Memory.{word_outcome}
use Rattle.byte_runs.specs.Runs.{filled}
use Rattle.calls.specs.declared.Call.{Call}
use Rattle.calls.specs.declared.Call.TheVariants.{Push}
use Rattle.exposed.specs.Reported.{reported}
use Rattle.wire_records.specs.Decoded.{on_found, call_of}
use Rattle.wire_records.specs.Words.{header_in}
use Rattle.wire_records.specs.declared.Header.{Header}
use Rattle.wire_records.specs.declared.Reply.{Reply}
use Rattle.wire_session.specs.Replies.{reply_of, NoRecord}

-- the list's calls from the first on, and push behind them: so many headers of a block, where each of them is a call
unfoldable pub calls_listed : List ℕ → ℕ → Option (List Call)
calls_listed l zero = Some (replicate 64 Push)
calls_listed l (suc n) = on_found (calls_listed l n) (λ cs. on_found (call_of (header_in l n)) (λ c. Some (set cs n c)))

-- "whole headers of kinds 1 to 10, 12 and 13, at most 64"; and the lent bytes have room for the answer
abbrev pub whole : Header → List ℕ → Bool
whole h l = leb (h.length / 128) 64 && eqb (h.length % 128) 0 && leb 182 (length l)

-- "182 bytes, 0 or 1, one for each place in place order"
abbrev pub place_byte : List Bool → ℕ → ℕ
place_byte ps k = cond (get_or ps k false) 1 0

-- the report is of the count that the header states
pub record Reported (h : Header) (l : List ℕ) (cs : List Call) (r : Option Reply) (l' : List ℕ) : Type 0 where
  pub reply : r ≡ Some (reply_of (word_outcome (reported cs h.a).outcome) 182)
  pub bytes : l' ≡ filled l 0 (place_byte (reported cs h.a).places) 182

unfoldable pub Reports : Header → List ℕ → Option Reply → List ℕ → Type 0
Reports h l r l' =
    cond (whole h l) (MatchOption (calls_listed l (h.length / 128)) (NoRecord l r l') (λ cs. Reported h l cs r l')) (NoRecord l r l')
