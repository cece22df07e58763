-- The test that the code makes, span against span, is the one by places: two spans have a place in common where the later start lies before
-- the earlier end; and "or" goes out of `common` on either side. Assumes nothing.
use mathlib.Core.Bool.{Bool, true, false, ◌&&◌, ◌||◌, or_assoc}
use mathlib.Core.Logic.{◌⊎◌, inl, inr}
use mathlib.Core.Path.{◌≡◌, refl, sym, ◌∙◌}
use Prim.Native.Nat.{ℕ, ◌+◌, ◌≤◌, ◌<◌, max, min}
use native.Mathlib.Decide.{dec_lt}
use native.Mathlib.Omega.{arith}
use lib.Dec.{ltb}
use borrow.Author.Tests.{ltb-true, lt-ltb}
use Rattle.std.proofs.lemmas.Bool.{cases_Bool, and_parts, and_from, or_right}
use Rattle.calls.specs.declared.Call.{Call}
use Rattle.effects.specs.Rows.{reads_of, rewrites_of, reaches, in_span, in_spans}
use Rattle.effects.specs.declared.Span.{Span}
use Rattle.effects.specs.declared.Spans.{Spans}
use Rattle.effects.proofs.Within.{in_low, in_high, in_yes, in_out}
use Rattle.neighbours.specs.Dependent.{common, meets, dependent}
use Rattle.neighbours.proofs.Common.{some_found, found_some, common_swap, common_or, common_four, common_none}

-- ---- span against span
abbrev starts : Span → Span → ℕ
starts a b = max a.start b.start

abbrev ends : Span → Span → ℕ
ends a b = min (a.start + a.count) (b.start + b.count)

pub spans_test : (a b : Span) → a.start + a.count ≤ 182 → ltb (starts a b) (ends a b) ≡ common (in_span a) (in_span b)
unfolding common
spans_test a b inside = go (cases_Bool (ltb (starts a b) (ends a b))) (cases_Bool (common (in_span a) (in_span b)))
  where
    go : (ltb (starts a b) (ends a b) ≡ true) ⊎ (ltb (starts a b) (ends a b) ≡ false)
        → (common (in_span a) (in_span b) ≡ true) ⊎ (common (in_span a) (in_span b) ≡ false)
        → ltb (starts a b) (ends a b) ≡ common (in_span a) (in_span b)
    go (inl t) u =
        let l : starts a b < ends a b = ltb-true (starts a b) (ends a b) t in
        let p = starts a b in
        t ∙ sym (found_some 182 (λ q. in_span a q && in_span b q) (record {
          at = p;
          below = omega (arith, inside);
          has = and_from _ _ (in_yes a p (omega arith) (omega arith)) (in_yes b p (omega arith) (omega arith));
        }))
    go (inr f) (inl t) =
        let w = some_found 182 (λ q. in_span a q && in_span b q) t in
        let p = w.at in
        let in-a = (and_parts (in_span a p) (in_span b p) w.has).0 in
        let in_b = (and_parts (in_span a p) (in_span b p) w.has).1 in
        let low-a = in_low a p in-a in
        let high-a = in_high a p in-a in
        let low-b = in_low b p in_b in
        let high-b = in_high b p in_b in
        lt-ltb (starts a b) (ends a b) (omega arith) ∙ sym t
    go (inr f) (inr e) = f ∙ sym e

-- ---- a span that is empty, and a span against four
pub empty_meets_none : (a : Span) (s : Spans) → a.count ≡ 0 → common (in_span a) (in_spans s) ≡ false
empty_meets_none a s e = common_none (in_span a) (in_spans s) (λ p. in_out a p (side p))
  where
    side : (p : ℕ) → (p < a.start) ⊎ (a.start + a.count ≤ p)
    side p = go (dec_lt p a.start)
      where
        go : Dec (p < a.start) → (p < a.start) ⊎ (a.start + a.count ≤ p)
        go (yes l) = inl l
        go (no l) = inr (omega (arith, l, e))

or_four_left : (a b c d : Bool) → (((a || b) || c) || d) ≡ (a || (b || (c || d)))
or_four_left a b c d = or_assoc (a || b) c d ∙ or_assoc a b (c || d)

pub row_test : (f : ℕ → Bool) (s : Spans)
    → (((common f (in_span s.one) || common f (in_span s.two)) || common f (in_span s.three)) || common f (in_span s.four))
    ≡ common f (in_spans s)
unfolding in_spans
row_test f s =
    or_four_left (common f (in_span s.one)) (common f (in_span s.two)) (common f (in_span s.three)) (common f (in_span s.four))
    ∙ sym (common_four f (in_span s.one) (in_span s.two) (in_span s.three) (in_span s.four))

-- ---- four against four: the same from the other side
pub rows_test : (r : Spans) (g : ℕ → Bool)
    → (((common (in_span r.one) g || common (in_span r.two) g) || common (in_span r.three) g) || common (in_span r.four) g)
    ≡ common (in_spans r) g
rows_test r g =
    rw (
      common_swap (in_span r.one) g,
      common_swap (in_span r.two) g,
      common_swap (in_span r.three) g,
      common_swap (in_span r.four) g,
    ) (row_test g r ∙ common_swap g (in_spans r))

-- ---- call against call
pub both_reach : (c d : Call) → (reaches c && reaches d) ≡ true → dependent c d ≡ true
unfolding dependent
both_reach c d h =
    or_right (meets c d) (meets d c || reaches c && reaches d) (or_right (meets d c) (reaches c && reaches d) h)

-- what both rewrite need not be looked for twice
three_suffice : (a b c : Bool) → ((a || b) || c) ≡ ((a || b) || ((c || b) || false))
three_suffice a b c = grind arith

pub places_decide : (c d : Call) → (reaches c && reaches d) ≡ false
    → ((common (in_spans (rewrites_of c)) (in_spans (reads_of d)) || common (in_spans (rewrites_of c)) (in_spans (rewrites_of d)))
    || common (in_spans (rewrites_of d)) (in_spans (reads_of c)))
    ≡ dependent c d
unfolding dependent meets
places_decide c d h =
    let wc = in_spans (rewrites_of c) in
    let wd = in_spans (rewrites_of d) in
    let rc = in_spans (reads_of c) in
    let rd = in_spans (reads_of d) in
    three_suffice (common wc rd) (common wc wd) (common wd rc)
    ∙ sym (rw (h, common_or wc rd wd, common_or wd rc wc, common_swap wd wc) refl)
