-- What the code of the report does: marking spans in a list of answers, and going through the calls from the last to the first, gives the
-- recursive definition `exposed` at each place. Lists of answers are known by their elements. Assumes nothing.
use mathlib.Core.Bool.{Bool, true, false, cond, not, ◌&&◌, ◌||◌}
use mathlib.Core.List.{List, [], ◌∷◌, ◌++◌, map, reverse}
use Rattle.std.proofs.lemmas.List.{map-append, reverse-append, reverse-reverse}
use Rattle.std.proofs.lemmas.Bool.{cases_Bool}
use mathlib.Core.Logic.{◌⊎◌, inl, inr, ⊎_elim}
use mathlib.Core.Path.{◌≡◌, refl, sym, ap, ap₂, ◌∙◌, subst}
use Prim.Native.Nat.{ℕ, zero, suc, ◌+◌, ◌-◌, ◌≤◌, ◌<◌}
use native.Mathlib.Decide.{dec_lt}
use native.Mathlib.Nat.{le_of_suc-le-suc, not-suc-le-zero}
use native.Mathlib.Omega.{arith}
use lib.Dec.{eqb}
use lib.ListN.{length, get_or, set, length-set, take, replicate}
use lib.Seq.{ext_get_or, get_or-set_same, get_or-set_other}
use borrow.Author.Tests.{eqb-true, eqb-false, le-leb, lt-leb}
use Rattle.utils.specs.Outcome.{gives, refuses}
use Rattle.effects.specs.Exposed.{exposed}
use Rattle.effects.specs.Rows.{span, reads_of, rewrites_of, in_span, in_spans}
use Rattle.effects.specs.declared.Spans.{Spans}
use Rattle.effects.proofs.Within.{in_low, in_high, in_yes, in_no, in_out}
use Rattle.exposed.specs.Reported.{truths_of, ReportAnswer, call_reads, call_rewrites, reported, Marked}
use Rattle.calls.specs.declared.Call.{Call}

-- ---- marking
pub mark_none : (on : List Bool) (a : ℕ) (v : Bool) → Marked on on (in_span (span a (a - a))) v
mark_none on a v =
    record {
      long = refl;
      at = λ k. sym (ap (λ (b : Bool). cond b v (get_or on k false)) (in_out (span a (a - a)) k (side k (dec_lt k a))));
    }
  where
    side : (k : ℕ) → Dec (k < a) → (k < a) ⊎ (a + (a - a) ≤ k)
    side k (yes l) = inl l
    side k (no l) = inr (omega (arith, l))

pub mark_more : (on out : List Bool) (a p : ℕ) (v : Bool) → a ≤ p → p < length on → Marked on out (in_span (span a (p - a))) v
    → Marked on (set out p v) (in_span (span a (p + 1 - a))) v
mark_more on out a p v l fits m = record { long = length-set out p v ∙ m.long; at = λ k. go k (cases_Bool (eqb k p)) }
  where
    room : p < length out
    room = omega (arith, m.long)

    same : (k : ℕ) → (k ≡ p → ⊥) → (in_span (span a (p - a)) k ≡ true) ⊎ (in_span (span a (p - a)) k ≡ false)
        → in_span (span a (p - a)) k ≡ in_span (span a (p + 1 - a)) k
    same k ne (inl t) =
        let lo : a ≤ k = in_low (span a (p - a)) k t in
        let hi : k < a + (p - a) = in_high (span a (p - a)) k t in
        t ∙ sym (in_yes (span a (p + 1 - a)) k lo (omega arith))
    same k ne (inr f) =
        f ∙ sym (in_out (span a (p + 1 - a)) k
        (⊎_elim (λ (q : k < a). inl q) (λ (q : a + (p - a) ≤ k). inr (omega (arith, ne))) (in_no (span a (p - a)) k f)))

    go : (k : ℕ) → (eqb k p ≡ true) ⊎ (eqb k p ≡ false)
        → get_or (set out p v) k false ≡ cond (in_span (span a (p + 1 - a)) k) v (get_or on k false)
    go k (inl t) =
        let e : k ≡ p = eqb-true k p t in
        rw e (get_or-set_same out p v false room
        ∙ sym (ap (λ (b : Bool). cond b v (get_or on p false)) (in_yes (span a (p + 1 - a)) p l (omega arith))))
    go k (inr f) =
        let ne : k ≡ p → ⊥ = eqb-false k p f in
        get_or-set_other out p k v false ne ∙ m.at k
        ∙ ap (λ (b : Bool). cond b v (get_or on k false)) (same k ne (cases_Bool (in_span (span a (p - a)) k)))

marked_or : (a b v x : Bool) → cond b v (cond a v x) ≡ cond (a || b) v x
marked_or a b v x = grind arith

mark_twice : {on mid out : List Bool} {w u : ℕ → Bool} {v : Bool} → Marked on mid w v → Marked mid out u v
    → Marked on out (λ k. w k || u k) v
mark_twice {on} {mid} {out} {w} {u} {v} a b =
    record {
      long = b.long ∙ a.long;
      at = λ k. b.at k ∙ ap (λ (x : Bool). cond (u k) v x) (a.at k) ∙ marked_or (w k) (u k) v (get_or on k false);
    }

pub mark_four : (s : Spans) (on a b c out : List Bool) (v : Bool) → Marked on a (in_span s.one) v → Marked a b (in_span s.two) v
    → Marked b c (in_span s.three) v
    → Marked c out (in_span s.four) v → Marked on out (in_spans s) v
unfolding in_spans
mark_four s on a b c out v h i j k = mark_twice h (mark_twice i (mark_twice j k))

-- ---- lists of answers
pub length_listed : (n : ℕ) (f : ℕ → Bool) → length (truths_of n f) ≡ n
unfolding truths_of
length_listed zero f = refl
length_listed (suc n) f = ap suc (length_listed n (λ k. f (suc k)))

pub get_or_listed : (n : ℕ) (f : ℕ → Bool) (i : ℕ) → i < n → get_or (truths_of n f) i false ≡ f i
unfolding truths_of
get_or_listed zero f i h = absurd (not-suc-le-zero h)
get_or_listed (suc n) f zero h = refl
get_or_listed (suc n) f (suc i) h = get_or_listed n (λ k. f (suc k)) i (le_of_suc-le-suc h)

is_listed : (l : List Bool) (n : ℕ) (f : ℕ → Bool) → length l ≡ n → ((i : ℕ) → i < n → get_or l i false ≡ f i) → l ≡ truths_of n f
is_listed l n f e h =
    ext_get_or false l (truths_of n f) (e ∙ sym (length_listed n f)) (λ i q. h i (omega arith) ∙ sym (get_or_listed n f i (omega arith)))

-- ---- what the loop keeps: the answers are those of the calls that it has gone through, the last of all calls first
abbrev pub Listing : List Call → List Bool → Type 0
Listing cs on = on ≡ truths_of 182 (exposed call_reads call_rewrites cs)

pub listing_none : Listing [] (replicate 182 false)
unfolding truths_of exposed
listing_none = refl

pub listing_long : (cs : List Call) {on : List Bool} → Listing cs on → length on ≡ 182
listing_long cs l = ap length l ∙ length_listed 182 (exposed call_reads call_rewrites cs)

-- what is read is exposed, and what was exposed and is not rewritten
shows : (r w later : Bool) → cond r true (cond w false later) ≡ (r || not w && later)
shows r w later = grind arith

pub listing_more : (c : Call) (cs : List Call) (on mid out : List Bool) (r w : Spans) → r ≡ reads_of c → w ≡ rewrites_of c
    → Marked on mid (in_spans w) false → Marked mid out (in_spans r) true → Listing cs on → Listing (c ∷ cs) out
unfolding exposed call_reads call_rewrites
listing_more c cs on mid out r w er ew a b l = is_listed out 182 (exposed call_reads call_rewrites (c ∷ cs)) long at
  where
    long : length out ≡ 182
    long = b.long ∙ a.long ∙ listing_long cs l

    at : (i : ℕ) → i < 182
        → get_or out i false ≡ (in_spans (reads_of c) i || not (in_spans (rewrites_of c) i) && exposed call_reads call_rewrites cs i)
    at i h =
        b.at i ∙ ap (λ (x : Bool). cond (in_spans r i) true x) (a.at i) ∙ shows (in_spans r i) (in_spans w i) (get_or on i false)
        ∙ ap (λ (x : Bool). in_spans r i || not (in_spans w i) && x)
        (ap (λ (x : List Bool). get_or x i false) l ∙ get_or_listed 182 (exposed call_reads call_rewrites cs) i h)
        ∙ ap₂ (λ (x y : Spans). in_spans x i || not (in_spans y i) && exposed call_reads call_rewrites cs i) er ew

-- one call more among those that were gone through, and all of them
pub listing_step : {X : Type 0} (now : X → Call) (ys : List X) (x : X) (on : List Bool) → Listing (now x ∷ reverse (map now ys)) on
    → Listing (reverse (map now (ys ++ x ∷ []))) on
listing_step now ys x on l =
    let e : reverse (map now (ys ++ x ∷ [])) ≡ now x ∷ reverse (map now ys) =
    ap reverse (map-append now ys (x ∷ [])) ∙ reverse-append (map now ys) (now x ∷ []) in
    subst (λ (cs : List Call). Listing cs on) (sym e) l

pub listing_all : (ys cs : List Call) (on : List Bool) → ys ≡ reverse cs → Listing (reverse ys) on → Listing cs on
listing_all ys cs on e l = subst (λ (ds : List Call). Listing ds on) (ap reverse e ∙ reverse-reverse cs) l

pub listing_done : (calls : List Call) (n : ℕ) (on : List Bool) → n ≤ 64 → Listing (take n calls) on
    → ◌≡◌ {A = ReportAnswer} record { outcome = gives []; places = on } (reported calls n)
unfolding reported
listing_done calls n on h l = simp (le-leb n 64 h) (rw l refl)

pub listing_refused : (calls : List Call) (n : ℕ) → 64 < n
    → ◌≡◌ {A = ReportAnswer} record { outcome = refuses 12; places = replicate 182 false } (reported calls n)
unfolding reported
listing_refused calls n h = simp (lt-leb n 64 h)
