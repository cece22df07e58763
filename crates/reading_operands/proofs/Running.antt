-- The reader over a text: where it gets, what its state then says of the text, and when it stops. Assumes nothing.
use Rattle.std.specs.Prelude.{Option, Some, None}
use Rattle.instruction_set.specs.declared.Register.{Register}
use mathlib.Core.Bool.{Bool, true, false, cond}
use mathlib.Core.List.{List, [], ◌∷◌, ◌++◌, append_assoc, append-nil}
use mathlib.Core.Path.{◌≡◌, refl, sym, ap, subst, ◌∙◌}
use Prim.Native.Nat.{ℕ, suc, ◌+◌, ◌^◌, ◌≤◌, ◌<◌}
use native.Mathlib.Nat.{add-zero}
use native.Mathlib.Omega.{arith}
use borrow.Author.Tests.{eqb-true}
use lib.Dec.{eqb}
use lib.ListN.{length, take, get_or}
use Rattle.std.specs.Option.{option_and_then}
use Rattle.std.proofs.lemmas.Option.{none-some, same_Some}
use Rattle.utils.proofs.Field.{cut_all}
use Rattle.instruction_set.specs.declared.ArgumentSize.TheVariants.{Bit64}
use Rattle.instruction_set.specs.declared.InstructionArgument.{InstructionArgument}
use Rattle.text_pieces.specs.Ascii.{ascii}
use Rattle.text_pieces.specs.Hex.{hex_text}
use Rattle.text_operands.specs.Operands.{operand_text}
use Rattle.reading_numbers.proofs.Signs.{positive_fits, negative_fits}
use Rattle.reading_numbers.specs.Numerals.{positive_bits, negative_bits}
use Rattle.reading_names.proofs.Spelling.{spells_name}
use Rattle.reading_names.specs.Nodes.{register_of}
use Rattle.reading_operands.specs.Reads.{Lossless, OfSecond, Shows}
use Rattle.reading_operands.specs.Reader.{named_register, finished_operand, ReaderState, state, unless_second, second_begun}
use Rattle.reading_operands.specs.Reader.{step_taken, advanced, given, stopped_at, operands_of, ended, go_on, read_from}
use Rattle.reading_operands.specs.Steps.{stepped}
use Rattle.reading_operands.specs.declared.Named.TheVariants as named
use Rattle.reading_operands.specs.declared.Numbered.TheVariants as numbered
use Rattle.reading_operands.specs.declared.Phase.{Phase}
use Rattle.reading_operands.specs.declared.Phase.TheVariants as phase
use Rattle.reading_operands.proofs.Shapes.{positive_text, negative_text, lossless_immediate, lossless_register, lossless_plain}
use Rattle.reading_operands.proofs.Stands.{stands}
use Rattle.reading_operands.proofs.Texts.{offset_text, phase_text, first_text, text_of, PhaseSound, Sound}

pub apart : {A : Type 0} → ◌≡◌ {A = ℕ} 0 1 → A
apart e = absurd (omega arith)

-- ---- the run
unfoldable pub ran : List ℕ → ReaderState → Option ReaderState
ran [] x = Some x
ran (b ∷ t) x = option_and_then (ran t) (advanced x b)

pub ran_append : (s t : List ℕ) (x : ReaderState) → ran (s ++ t) x ≡ option_and_then (ran t) (ran s x)
unfolding ran
ran_append [] t x = refl
ran_append (b ∷ s) t x = go (advanced x b) (ran_append s t)
  where
    go : (a : Option ReaderState) → ((y : ReaderState) → ran (s ++ t) y ≡ option_and_then (ran t) (ran s y)) →
        option_and_then (ran (s ++ t)) a ≡ option_and_then (ran t) (option_and_then (ran s) a)
    go None rec = refl
    go (Some y) rec = rec y

-- from the state x the text t leads to the state y
pub record Runs (x : ReaderState) (t : List ℕ) (y : ReaderState) : Type 0 where
  pub run : ran t x ≡ Some y

infixl 5 ◌then◌
pub ◌then◌ : {x y z : ReaderState} {s t : List ℕ} → Runs x s y → Runs y t z → Runs x (s ++ t) z
◌then◌ {x} {s = s} {t} p q = record { run = ran_append s t x ∙ ap (option_and_then (ran t)) p.run ∙ q.run }

pub stay : {x : ReaderState} → Runs x [] x
unfolding ran
stay = record { run = refl }

pub by_byte : {x y : ReaderState} (b : ℕ) → advanced x b ≡ Some y → Runs x (b ∷ []) y
unfolding ran
by_byte b e = record { run = ap (option_and_then (ran [])) e }

-- ---- a finished operand is the text
pub record Finishes (p : Phase) (a : InstructionArgument) : Type 0 where
  pub whole : Lossless Bit64 a
  pub text : operand_text Bit64 a ≡ phase_text p

shown_so : {p : Phase} {a b : InstructionArgument} → Some a ≡ Some b → Finishes p a → Finishes p b
shown_so {p} {a} {b} e s = subst (λ (x : InstructionArgument). Finishes p x) (same_Some a b e) s

pub absent : {A X : Type 0} {x : X} → None ≡ Some x → A
absent {x = x} e = absurd (none-some x e)

shown_register : {a : InstructionArgument} (n : ℕ) (found : Option Register) → register_of n ≡ found →
    named_register found ≡ Some a → Finishes (phase.Name named.Operand n) a
shown_register n None e h = absent h
shown_register n (Some r) e h =
    shown_so h (record { whole = lossless_register r; text = ap (λ (t : List ℕ). ascii "%" ++ t) (sym (spells_name n r e)) })

pub shown : {a : InstructionArgument} (p : Phase) → PhaseSound p → finished_operand p ≡ Some a → Finishes p a
shown (phase.Lead l) s h = absent h
shown (phase.FirstDigit role) s h = absent h
shown (phase.Digits numbered.Immediate v) s h =
    let small : v < 2 ^ 64 = omega (arith, s.1.most) in
    shown_so h (record { whole = lossless_immediate v small; text = ap (λ (n : ℕ). ascii "$0x" ++ hex_text n) (cut_all v 64 small) })
shown (phase.Digits numbered.Above v) s h =
    let o = positive_bits v in
    shown_so h (record {
      whole = lossless_plain o (positive_fits v) None;
      text = append-nil (offset_text o) ∙ positive_text v s.1;
    })
shown (phase.Digits numbered.Below v) s h =
    let o = negative_bits v in
    shown_so h (record {
      whole = lossless_plain o (negative_fits v) None;
      text = append-nil (offset_text o) ∙ negative_text v s.1;
    })
shown (phase.Digits (numbered.Scale o b i) v) s h = absent h
shown (phase.Name named.Operand n) s h = shown_register n (register_of n) refl h
shown (phase.Name (named.Base o) n) s h = absent h
shown (phase.Name (named.Index o b) n) s h = absent h
shown (phase.Opened o) s h = absent h
shown (phase.IndexWanted o b) s h = absent h
shown (phase.Closed x) s h = shown_so h (record { whole = s; text = refl })

-- ---- the state determines the text
pub record Stood (t : List ℕ) (y : ReaderState) : Type 0 where
  pub sound : Sound y
  pub text : text_of y ≡ t

stood_so : {t : List ℕ} {x y : ReaderState} → Some x ≡ Some y → Stood t x → Stood t y
stood_so {t} {x} {y} e s = subst (λ (z : ReaderState). Stood t z) (same_Some x y e) s

second_stands : {y : ReaderState} (f : Option InstructionArgument) (p : Phase) (operand : Option InstructionArgument) →
    finished_operand p ≡ operand → PhaseSound p → second_begun (unless_second f operand) ≡ Some y →
    Stood (first_text f ++ phase_text p ++ (44 ∷ [])) y
second_stands None p None e hp h = absent h
second_stands None p (Some a) e hp h =
    let s = shown p hp e in
    stood_so h (record {
      sound = (s.whole, tt);
      text = append-nil (operand_text Bit64 a ++ ascii ",") ∙ ap (λ (t : List ℕ). t ++ ascii ",") s.text;
    })
second_stands (Some g) p operand e hp h = absent h

comma_stands : {y : ReaderState} (f : Option InstructionArgument) (p : Phase) (b : ℕ) (t : Bool) → eqb b 44 ≡ t → PhaseSound p →
    second_begun (cond t (unless_second f (finished_operand p)) None) ≡ Some y → Stood (first_text f ++ phase_text p ++ (b ∷ [])) y
comma_stands f p b false e hp h = absent h
comma_stands f p b true e hp h = rw (eqb-true b 44 e) (second_stands f p (finished_operand p) refl hp h)

taken_stands : {y : ReaderState} (f : Option InstructionArgument) (p : Phase) (b : ℕ) (s : Option Phase) → stepped p b ≡ s →
    OfSecond (Lossless Bit64) f → PhaseSound p → step_taken (state f p) b s ≡ Some y → Stood (first_text f ++ phase_text p ++ (b ∷ [])) y
taken_stands f p b None e hf hp h = comma_stands f p b (eqb b 44) refl hp h
taken_stands f p b (Some q) e hf hp h =
    let st = stands p b hp e in
    stood_so h (record {
      sound = (hf, st.sound);
      text = ap (λ (t : List ℕ). first_text f ++ t) st.text ∙ sym (append_assoc (first_text f) (phase_text p) (b ∷ []));
    })

byte_stands : {y : ReaderState} (x : ReaderState) (b : ℕ) → Sound x → advanced x b ≡ Some y → Stood (text_of x ++ (b ∷ [])) y
unfolding advanced
byte_stands x b s h = taken_stands x.first x.phase b (stepped x.phase b) refl s.0 s.1 h

pub run_stands : {y : ReaderState} (t : List ℕ) (x : ReaderState) → Sound x → ran t x ≡ Some y → Stood (text_of x ++ t) y
unfolding ran
run_stands [] x s h = stood_so h (record { sound = s; text = sym (append-nil (text_of x)) })
run_stands {y} (b ∷ t) x s h = go (advanced x b) refl (λ (z : ReaderState). run_stands t z) h
  where
    go : (a : Option ReaderState) → advanced x b ≡ a → ((z : ReaderState) → Sound z → ran t z ≡ Some y → Stood (text_of z ++ t) y) →
        option_and_then (ran t) a ≡ Some y → Stood (text_of x ++ (b ∷ t)) y
    go None e rec g = absent g
    go (Some z) e rec g =
        let st = byte_stands x b s e in
        let all = rec z st.sound g in
        record { sound = all.sound; text = all.text ∙ ap (λ (l : List ℕ). l ++ t) st.text ∙ append_assoc (text_of x) (b ∷ []) t }

-- ---- a finished state shows its operands
pub shows : (f : Option InstructionArgument) (p : Phase) (a : InstructionArgument) → OfSecond (Lossless Bit64) f → PhaseSound p →
    finished_operand p ≡ Some a → (x : InstructionArgument) × (y : Option InstructionArgument) × (operands_of f a ≡ given x y)
    × Shows (text_of (state f p)) x y
shows None p a hf hp e =
    let s = shown p hp e in
    (a, None, refl, record { first = s.whole; second = tt; text = sym s.text })
shows (Some g) p a hf hp e =
    let s = shown p hp e in
    let text = ap (λ (t : List ℕ). operand_text Bit64 g ++ ascii "," ++ t) (sym s.text) in
    (g, Some a, refl, record { first = hf; second = s.whole; text = text })

-- ---- reading by the run
pub read_run : {y : ReaderState} (t : List ℕ) (k : ℕ) (x : ReaderState) → ran t x ≡ Some y → read_from t k x ≡ ended (k + length t) y
unfolding ran read_from
read_run {y} [] k x h = rw (add-zero k) (ap (ended k) (same_Some x y h))
read_run {y} (b ∷ t) k x h = go (advanced x b) (λ (z : ReaderState). read_run t (suc k) z) h
  where
    go : (a : Option ReaderState) → ((z : ReaderState) → ran t z ≡ Some y → read_from t (suc k) z ≡ ended (suc k + length t) y) →
        option_and_then (ran t) a ≡ Some y → go_on a k (read_from t (suc k)) ≡ ended (k + suc (length t)) y
    go None rec g = absent g
    go (Some z) rec g = let e : suc k + length t ≡ k + suc (length t) = omega arith in rec z g ∙ ap (λ (n : ℕ). ended n y) e

-- where the reader gets: the state `here` is reached by the first `at` bytes, and the next byte leads nowhere or the text ends there; and
-- what is then said of a text that begins at offset k
pub record Stopped (t : List ℕ) (x : ReaderState) : Type 0 where
  pub at : ℕ
  pub here : ReaderState
  pub within : at ≤ length t
  pub run : ran (take at t) x ≡ Some here
  pub blocked : at < length t → advanced here (get_or t at 0) ≡ None
  pub refused : at < length t → (k : ℕ) → read_from t k x ≡ stopped_at (k + at)
  pub ends : length t ≤ at → (k : ℕ) → read_from t k x ≡ ended (k + at) here

pub stopped : (t : List ℕ) (x : ReaderState) → Stopped t x
unfolding ran read_from
stopped [] x =
    record {
      at = 0;
      here = x;
      within = omega arith;
      run = refl;
      blocked = λ l. absurd (omega arith);
      refused = λ l k. absurd (omega arith);
      ends = λ l k. rw (add-zero k);
    }
stopped (b ∷ t) x = go (advanced x b) refl (λ (z : ReaderState). stopped t z)
  where
    go : (v : Option ReaderState) → advanced x b ≡ v → ((z : ReaderState) → Stopped t z) → Stopped (b ∷ t) x
    go None e rec =
        record {
          at = 0;
          here = x;
          within = omega arith;
          run = refl;
          blocked = λ l. e;
          refused = λ l k. rw (e, add-zero k);
          ends = λ l k. absurd (omega arith);
        }
    go (Some z) e rec =
        let s = rec z in
        let later : (k : ℕ) → suc k + s.at ≡ k + suc s.at = λ k. omega arith in
        record {
          at = suc s.at;
          here = s.here;
          within = omega (arith, s.within);
          run = ap (option_and_then (ran (take s.at t))) e ∙ s.run;
          blocked = λ l. s.blocked (omega arith);
          refused = λ l k. rw e (s.refused (omega arith) (suc k) ∙ ap stopped_at (later k));
          ends = λ l k. rw e (s.ends (omega arith) (suc k) ∙ ap (λ (n : ℕ). ended n s.here) (later k));
        }
