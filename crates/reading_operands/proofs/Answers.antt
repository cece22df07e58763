-- A text has exactly one answer, and it is the reader's. From three facts: the state determines the text (Running), every state can be
-- completed (GoesOn), and everything printed is run through (Through). Assumes nothing.
use Rattle.std.specs.Option.{option_and_then}
use Rattle.std.proofs.lemmas.Bool.{cases_lt}
use Rattle.std.specs.Prelude.{Option, Some, None, Ok, Err}
use mathlib.Core.List.{List, [], ◌∷◌, ◌++◌, append_assoc}
use mathlib.Core.Logic.{⊎_elim}
use mathlib.Core.Path.{◌≡◌, refl, sym, ap, ◌∙◌}
use Prim.Native.Nat.{ℕ, zero, suc, ◌+◌, ◌≤◌, ◌<◌}
use native.Mathlib.Omega.{arith}
use lib.ListN.{length, take, drop, get_or}
use lib.Seq.{take_all, take-suc}
use Rattle.utils.proofs.Outcomes.{same_values, given_not_refused}
use Rattle.instruction_set.specs.declared.ArgumentSize.TheVariants.{Bit64}
use Rattle.instruction_set.specs.declared.InstructionArgument.{InstructionArgument}
use Rattle.text_operands.specs.Operands.{list_text}
use Rattle.reading_operands.specs.Reads.{Lossless, OfSecond, OperandText, StopsAt, Shows, Reading, Reads}
use Rattle.reading_operands.specs.Reads.{operands, offset, operands_outcome}
use Rattle.reading_operands.specs.Reader.{finished_operand, ReaderState, state, start, advanced, given, stopped_at}
use Rattle.reading_operands.specs.Reader.{ended_by, ended, reader_answer}
use Rattle.reading_operands.specs.declared.Lead.TheVariants as lead
use Rattle.reading_operands.specs.declared.Phase.{Phase}
use Rattle.reading_operands.specs.declared.Phase.TheVariants as phase
use Rattle.reading_operands.proofs.GoesOn.{completes}
use Rattle.reading_operands.proofs.Printed.{shown_of, printed_of}
use Rattle.reading_operands.proofs.Running.{apart, ran, ran_append, Runs, ◌then◌, by_byte, run_stands, shows, read_run}
use Rattle.reading_operands.proofs.Running.{Stopped, stopped}
use Rattle.reading_operands.proofs.Texts.{text_of, Sound}
use Rattle.reading_operands.proofs.Through.{finished_stops, operand_arrives}

-- ---- what is shown is run through, and read
record ReadThrough (t : List ℕ) (x : InstructionArgument) (y : Option InstructionArgument) : Type 0 where
  end : ReaderState
  runs : Runs start t end
  gives : (k : ℕ) → ended k end ≡ given x y

second_begins : (p : Phase) (x : InstructionArgument) → finished_operand p ≡ Some x →
    Runs (state None p) (44 ∷ []) (state (Some x) (phase.Lead lead.Nothing))
unfolding advanced
second_begins p x e = by_byte 44 (rw (finished_stops p e, e))

listed : (x : InstructionArgument) (y : Option InstructionArgument) → Lossless Bit64 x → OfSecond (Lossless Bit64) y →
    ReadThrough (list_text Bit64 x y) x y
listed x None hx hy =
    let a = operand_arrives None x hx in
    record { end = state None a.end; runs = a.runs; gives = λ k. ap (ended_by k None) a.done }
listed x (Some y) hx hy =
    let a = operand_arrives None x hx in
    let b = operand_arrives (Some x) y hy in
    record {
      end = state (Some x) b.end;
      runs = a.runs then second_begins a.end x a.done then b.runs;
      gives = λ k. ap (ended_by k (Some x)) b.done;
    }

read_through : (t : List ℕ) (x : InstructionArgument) (y : Option InstructionArgument) → Shows t x y → ReadThrough t x y
read_through t x y s = rw s.text (listed x y s.first s.second)

shown_read : (t : List ℕ) (x : InstructionArgument) (y : Option InstructionArgument) → Shows t x y → reader_answer t ≡ given x y
shown_read t x y s =
    let r = read_through t x y s in
    read_run t 0 start r.runs.run ∙ r.gives (0 + length t)

-- ---- a text that cannot go on is the beginning of no operand text
dead_end : (s u : List ℕ) → ran s start ≡ None → OperandText (s ++ u) → ⊥
dead_end s u e p =
    let shown = shown_of (s ++ u) p in
    let t = read_through (s ++ u) shown.first shown.second shown.shows in
    let lives : ran (s ++ u) start ≡ Some t.end = t.runs.run in
    let dies : ran (s ++ u) start ≡ None = ran_append s u start ∙ ap (option_and_then (ran u)) e in
    apart cc

one_byte_dies : {x : ReaderState} (s : List ℕ) (b : ℕ) → ran s start ≡ Some x → advanced x b ≡ None →
    ran (s ++ (b ∷ [])) start ≡ None
unfolding ran
one_byte_dies s b e h =
    ran_append s (b ∷ []) start
    ∙ ap (option_and_then (ran (b ∷ []))) e
    ∙ ap (option_and_then (ran [])) h

not_printed : (t : List ℕ) (k : ℕ) → reader_answer t ≡ stopped_at k → OperandText t → ⊥
not_printed t k h p =
    let shown = shown_of t p in
    let is = shown_read t shown.first shown.second shown.shows in
    apart cc

-- ---- what the reader says where it stops
start_sound : Sound start
start_sound = (tt, tt)

module _ (t : List ℕ) (s : Stopped t start) where
  placed : reader_answer t ≡ stopped_at s.at → StopsAt t s.at
  placed said =
      let st = run_stands (take s.at t) start start_sound s.run in
      let x = s.here in
      let c = completes x.first x.phase st.sound.1 in
      let on : Runs start (take s.at t ++ c.rest) (state x.first c.end) = (record { run = s.run }) then c.runs in
      let end = run_stands (take s.at t ++ c.rest) start start_sound on.run in
      let whole = shows x.first c.end c.operand end.sound.0 end.sound.1 c.done in
      record {
        refused = not_printed t s.at said;
        inside = s.within;
        goes_on = (c.rest, rw end.text at (printed_of (text_of (state x.first c.end)) whole.0 whole.1 whole.3));
        stops =
            λ l u p. dead_end (take (suc s.at) t) u
            (rw (take-suc t s.at 0 l) (one_byte_dies (take s.at t) (get_or t s.at 0) s.run (s.blocked l))) p;
      }

  -- the text ends where the reader does
  finishes : length t ≤ s.at → (done : Option InstructionArgument) → finished_operand s.here.phase ≡ done →
      reader_answer t ≡ ended_by s.at s.here.first done → Reads t (reader_answer t)
  finishes l None e said = rw said (placed said)
  finishes l (Some a) e said =
      let all : take s.at t ≡ t = take_all s.at t l in
      let st = run_stands t start start_sound (rw all at s.run) in
      let x = s.here in
      let whole = shows x.first x.phase a st.sound.0 st.sound.1 e in
      let w = whole.3 in
      let shown : Shows t whole.0 whole.1 = record { first = w.first; second = w.second; text = sym st.text ∙ w.text } in
      rw (said ∙ whole.2) shown

pub answered : (t : List ℕ) → Reads t (reader_answer t)
answered t =
    let s = stopped t start in
    let from_zero : 0 + s.at ≡ s.at = omega arith in
    ⊎_elim
    (λ (l : s.at < length t).
    let said = s.refused l 0 ∙ ap stopped_at from_zero in
    rw said (placed t s said))
    (λ (g : length t ≤ s.at).
    finishes t s g (finished_operand s.here.phase) refl (s.ends g 0 ∙ ap (λ (n : ℕ). ended n s.here) from_zero))
    (cases_lt s.at (length t))

-- what the reader says is an answer
pub so_read : (t : List ℕ) (r : Reading) → r ≡ reader_answer t → Reads t r
so_read t r e = rw e (answered t)

-- ---- no text has two answers
-- a longer beginning is a shorter one and more
take_longer : (j k : ℕ) (t : List ℕ) → j ≤ k → take k t ≡ take j t ++ drop j (take k t)
take_longer zero k t h = refl
take_longer (suc j) zero t h = absurd (omega arith)
take_longer (suc j) (suc k) [] h = refl
take_longer (suc j) (suc k) (b ∷ t) h = ap (λ (l : List ℕ). b ∷ l) (take_longer j k t (omega arith))

-- no offset lies before another: the text goes on up to the later one
not_before : (t : List ℕ) (j k : ℕ) → StopsAt t j → StopsAt t k → j < k → ⊥
not_before t j k p q l =
    let u = q.goes_on.0 in
    let more = drop (suc j) (take k t) in
    let longer : take k t ++ u ≡ take (suc j) t ++ (more ++ u) =
    ap (λ (s : List ℕ). s ++ u) (take_longer (suc j) k t l) ∙ append_assoc (take (suc j) t) more u in
    p.stops (omega (arith, q.inside)) (more ++ u) (rw longer at q.goes_on.1)

pub one_answer : (t : List ℕ) (r s : Reading) → Reads t r → Reads t s → r ≡ s
one_answer t (Ok r) (Ok s) a b = sym (shown_read t r.0 r.1 a) ∙ shown_read t s.0 s.1 b
one_answer t (Ok r) (Err e) a b = absurd (b.refused (printed_of t r.0 r.1 a))
one_answer t (Err e) (Ok s) a b = absurd (a.refused (printed_of t s.0 s.1 b))
one_answer t (Err d) (Err e) a b =
    let j = d.offset in
    let k = e.offset in
    ap stopped_at
    (⊎_elim
    (λ (l : j < k). absurd (not_before t j k a b l))
    (λ (g : k ≤ j). ⊎_elim (λ (l : k < j). absurd (not_before t k j b a l)) (λ (h : j ≤ k). omega arith) (cases_lt k j))
    (cases_lt j k))

-- ---- nothing is lost in the number and what is said with it
operands_said : {x x' : InstructionArgument} {y y' : Option InstructionArgument} → operands x y ∷ [] ≡ operands x' y' ∷ [] →
    given x y ≡ given x' y'
operands_said e = cc

place_said : {j k : ℕ} → offset j ∷ [] ≡ offset k ∷ [] → stopped_at j ≡ stopped_at k
place_said e = cc

pub outcome_one : (r s : Reading) → operands_outcome r ≡ operands_outcome s → r ≡ s
outcome_one (Ok r) (Ok s) h = operands_said (same_values h)
outcome_one (Ok r) (Err e) h = absurd (given_not_refused (operands r.0 r.1 ∷ []) (offset e.offset ∷ []) 13 (omega arith) h)
outcome_one (Err e) (Ok s) h = absurd (given_not_refused (operands s.0 s.1 ∷ []) (offset e.offset ∷ []) 13 (omega arith) (sym h))
outcome_one (Err d) (Err e) h = place_said (same_values h)
