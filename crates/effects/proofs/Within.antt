-- Spans of places: when a place stands in one, and when in one of four. By the two tests that `in_span` makes. Assumes nothing.
use mathlib.Core.Path.{◌≡◌, sym, ap, ◌∙◌}
use mathlib.Core.Logic.{◌⊎◌, inl, inr, ⊎_elim}
use mathlib.Core.Bool.{Bool, true, false, ◌||◌, and-false, or-false}
use Prim.Native.Nat.{ℕ, ◌+◌, ◌≤◌, ◌<◌}
use native.Mathlib.Omega.{arith}
use lib.Dec.{ltb, leb, ltb→lt, leb→le}
use borrow.Author.Tests.{ltb-true, ltb-false, leb-true, leb-false, lt-ltb, le-ltb, le-leb, lt-leb}
use Rattle.std.proofs.lemmas.Bool.{cases_Bool, and_parts, and_cases, or_left, or_right}
use Rattle.instruction_set.specs.declared.Flags.{Flags}
use Rattle.instruction_set.specs.declared.Flags.TheVariants.{Carry, Parity, Zero, Sign, Overflow}
use Rattle.instruction_set.proofs.Arms.{all}
use Rattle.instruction_set.specs.contracts.Flags.{enum}
use Rattle.effects.specs.Rows.{span, spans, none, nothing, flag_place, flag_span, five_flags, in_span, in_spans}
use Rattle.effects.specs.declared.Span.{Span}
use Rattle.effects.specs.declared.Spans.{Spans}

pub in_low : (s : Span) (p : ℕ) → in_span s p ≡ true → s.start ≤ p
unfolding in_span
in_low s p h = leb-true s.start p (and_parts (leb s.start p) (ltb p (s.start + s.count)) h).0

pub in_high : (s : Span) (p : ℕ) → in_span s p ≡ true → p < s.start + s.count
unfolding in_span
in_high s p h = ltb-true p (s.start + s.count) (and_parts (leb s.start p) (ltb p (s.start + s.count)) h).1

pub in_yes : (s : Span) (p : ℕ) → s.start ≤ p → p < s.start + s.count → in_span s p ≡ true
unfolding in_span
in_yes s p a b = simp (le-leb s.start p a, lt-ltb p (s.start + s.count) b)

pub in_no : (s : Span) (p : ℕ) → in_span s p ≡ false → (p < s.start) ⊎ (s.start + s.count ≤ p)
unfolding in_span
in_no s p h =
    ⊎_elim (λ e. inl (leb-false s.start p e)) (λ e. inr (ltb-false p (s.start + s.count) e))
    (and_cases (leb s.start p) (ltb p (s.start + s.count)) h)

pub in_out : (s : Span) (p : ℕ) → (p < s.start) ⊎ (s.start + s.count ≤ p) → in_span s p ≡ false
unfolding in_span
in_out s p (inl h) = simp (lt-leb s.start p h)
in_out s p (inr h) = simp (le-ltb p (s.start + s.count) h, and-false)

-- of four, in one of the four
module _ (s : Spans) (p : ℕ) where
  pub in_one : in_span s.one p ≡ true → in_spans s p ≡ true
  unfolding in_spans
  in_one h = or_left (in_span s.one p) (in_span s.two p || (in_span s.three p || in_span s.four p)) h

  pub in_two : in_span s.two p ≡ true → in_spans s p ≡ true
  unfolding in_spans
  in_two h =
      or_right (in_span s.one p) (in_span s.two p || (in_span s.three p || in_span s.four p))
      (or_left (in_span s.two p) (in_span s.three p || in_span s.four p) h)

  pub in_three : in_span s.three p ≡ true → in_spans s p ≡ true
  unfolding in_spans
  in_three h =
      or_right (in_span s.one p) (in_span s.two p || (in_span s.three p || in_span s.four p))
      (or_right (in_span s.two p) (in_span s.three p || in_span s.four p) (or_left (in_span s.three p) (in_span s.four p) h))

pub none_in : (p : ℕ) → in_span none p ≡ false
none_in p = in_out none p (inr (omega arith))

pub one_only : (s : Span) (p : ℕ) → in_spans (spans s none none none) p ≡ in_span s p
unfolding in_spans
one_only s p = simp (none_in p, or-false)

pub nothing_in : (p : ℕ) → in_spans nothing p ≡ false
nothing_in p = one_only none p ∙ none_in p

-- three spans, and no fourth
pub three_only : (a b c : Span) (p : ℕ) → in_spans (spans a b c none) p ≡ (in_span a p || (in_span b p || in_span c p))
unfolding in_spans
three_only a b c p = simp (none_in p, or-false)

-- a span one place longer
span_next : (a n p : ℕ) → in_span (span a (n + 1)) p ≡ (in_span (span a n) p || in_span (span (a + n) 1) p)
span_next a n p = go (cases_Bool (in_span (span a n) p)) (cases_Bool (in_span (span (a + n) 1) p))
  where
    go : (in_span (span a n) p ≡ true) ⊎ (in_span (span a n) p ≡ false)
        → (in_span (span (a + n) 1) p ≡ true) ⊎ (in_span (span (a + n) 1) p ≡ false)
        → in_span (span a (n + 1)) p ≡ (in_span (span a n) p || in_span (span (a + n) 1) p)
    go (inl x) d =
        let lo = in_low (span a n) p x in
        let hi = in_high (span a n) p x in
        in_yes (span a (n + 1)) p (omega arith) (omega arith) ∙ sym (or_left (in_span (span a n) p) (in_span (span (a + n) 1) p) x)
    go (inr x) (inl y) =
        let lo = in_low (span (a + n) 1) p y in
        let hi = in_high (span (a + n) 1) p y in
        in_yes (span a (n + 1)) p (omega arith) (omega arith) ∙ sym (or_right (in_span (span a n) p) (in_span (span (a + n) 1) p) y)
    go (inr x) (inr y) =
        in_out (span a (n + 1)) p (beyond (in_no (span a n) p x) (in_no (span (a + n) 1) p y)) ∙ sym (rw (x, y))
      where
        beyond : (p < a) ⊎ (a + n ≤ p) → (p < a + n) ⊎ (a + n + 1 ≤ p) → (p < a) ⊎ (a + (n + 1) ≤ p)
        beyond (inl l) d = inl l
        beyond (inr l) (inl k) = absurd (omega arith)
        beyond (inr l) (inr k) = inr (omega arith)

-- the five flags that an operation rewrites, one after the other
abbrev pub or_flag : Flags → (ℕ → Bool) → ℕ → Bool
or_flag f w p = w p || in_span (flag_span f) p

abbrev four_in_turn : ℕ → Bool
four_in_turn = or_flag Sign (or_flag Zero (or_flag Parity (in_span (flag_span Carry))))

abbrev pub five_in_turn : ℕ → Bool
five_in_turn = or_flag Overflow four_in_turn

pub five_flags_lem : (p : ℕ) → in_spans five_flags p ≡ five_in_turn p
unfolding in_spans
five_flags_lem p = simp (none_in p, or-false) (ap (λ (b : Bool). b || in_span (flag_span Overflow) p) four)
  where
    four : in_span (span 176 4) p ≡ four_in_turn p
    four =
        span_next 176 3 p ∙ ap (λ (b : Bool). b || in_span (flag_span Sign) p)
        (span_next 176 2 p ∙ ap (λ (b : Bool). b || in_span (flag_span Zero) p) (span_next 176 1 p))

-- the flags' places
pub flag_from : (f : Flags) → 176 ≤ flag_place f
flag_from f = leb→le 176 (flag_place f) (all enum (λ e. leb 176 (flag_place e)) tt f)

pub flag_below : (f : Flags) → flag_place f < 182
flag_below f = ltb→lt (flag_place f) 182 (all enum (λ e. ltb (flag_place e) 182) tt f)
