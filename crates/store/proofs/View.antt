-- The page view: what the code's answers give, and that it shows what reads show, 4,096 bytes of them. By the slot of the page.
use Rattle.std.specs.Prelude.{Option, Some, None}
use Rattle.std.proofs.lemmas.Bool.{and_parts}
use mathlib.Core.Path.{◌≡◌, refl, sym, ap, ◌∙◌}
use mathlib.Core.Bool.{true, false, ◌&&◌}
use mathlib.Core.List.{List, [], ◌∷◌}
use Prim.Native.Nat.{ℕ, ◌+◌, ◌-◌, ◌*◌, ◌<◌}
use native.Mathlib.Omega.{arith}
use lib.Dec.{eqb}
use lib.ListN.{length, get_or, drop, take, length-drop}
use lib.Seq.{get_or-take, get_or-drop, length-take-le}
use borrow.Author.Tests.{eqb-true}
use Rattle.utils.specs.Outcome.{gives, refuses}
use Rattle.store.specs.Store.{Store, is_store, pages_in_use, found_in, byte_in, byte_at}
use Rattle.store.specs.View.{all_zero, zero_page, view_in, view_of, view_outcome}
use Rattle.store.proofs.Read.{sound_facts, slot_held, page_byte}
use Rattle.store.proofs.Zeros.{zero_at}

pub view_bad : (s : Store) (z : List ℕ) (g : ℕ) → is_store s ≡ false → view_of s z g ≡ []
unfolding view_of
view_bad s z g e = rw e

pub view_odd : (s : Store) (z : List ℕ) (g : ℕ) → is_store s ≡ true → zero_page z ≡ false → view_of s z g ≡ []
unfolding view_of
view_odd s z g e e' = rw (e, e')

pub view_in_lem : (s : Store) (z : List ℕ) (g : ℕ) (f : Option ℕ) → is_store s ≡ true → zero_page z ≡ true → f ≡ found_in (pages_in_use s) g
    → view_of s z g ≡ view_in s.bytes z f
unfolding view_of
view_in_lem s z g f e e' ef = rw (e, e', ef)

pub view_at : (s : Store) (z : List ℕ) (g i : ℕ) (f : Option ℕ) → is_store s ≡ true → zero_page z ≡ true
    → f ≡ found_in (pages_in_use s) g → f ≡ Some i
    → take (4096 * i + 4096 - 4096 * i) (drop (4096 * i) s.bytes) ≡ view_of s z g
view_at s z g i f e e' ef q =
    let n : 4096 * i + 4096 - 4096 * i ≡ 4096 = omega arith in
    ap (λ (k : ℕ). take k (drop (4096 * i) s.bytes)) n ∙ sym (view_in_lem s z g (Some i) e e' (sym q ∙ ef))

pub view_none : (s : Store) (z : List ℕ) (g : ℕ) (f : Option ℕ) → is_store s ≡ true → zero_page z ≡ true → f ≡ found_in (pages_in_use s) g
    → f ≡ None → z ≡ view_of s z g
view_none s z g f e e' ef q = sym (view_in_lem s z g None e e' (sym q ∙ ef))

-- ---- the view shows the page
-- byte k of an accepted view is the byte that a read of the page gives
pub view_law : (s : Store) (z : List ℕ) (g k : ℕ) → is_store s ≡ true → zero_page z ≡ true → k < 4096
    → get_or (view_of s z g) k 0 ≡ byte_at s (4096 * g + k)
unfolding zero_page
view_law s z g k e e' h =
    ap (λ (l : List ℕ). get_or l k 0) (view_in_lem s z g (found_in (pages_in_use s) g) e e' refl)
    ∙ go (found_in (pages_in_use s) g)
    ∙ sym (page_byte s g k h)
  where
    go : (f : Option ℕ) → get_or (view_in s.bytes z f) k 0 ≡ byte_in s.bytes f k
    go (Some i) = get_or-take 4096 (drop (4096 * i) s.bytes) k 0 h ∙ get_or-drop (4096 * i) s.bytes k 0
    go None = zero_at z (and_parts (eqb (length z) 4096) (all_zero z) e').1 k

-- and there are 4,096 of them, so that an accepted view is no empty part
pub view_length : (s : Store) (z : List ℕ) (g : ℕ) → is_store s ≡ true → zero_page z ≡ true → length (view_of s z g) ≡ 4096
unfolding zero_page
view_length s z g e e' = ap length (view_in_lem s z g (found_in (pages_in_use s) g) e e' refl) ∙ go (found_in (pages_in_use s) g) refl
  where
    go : (f : Option ℕ) → found_in (pages_in_use s) g ≡ f → length (view_in s.bytes z f) ≡ 4096
    go (Some i) q =
        let w = slot_held s (sound_facts s e) g i q in
        length-take-le 4096 (drop (4096 * i) s.bytes) (omega (arith, length-drop (4096 * i) s.bytes))
    go None q = eqb-true (length z) 4096 (and_parts (eqb (length z) 4096) (all_zero z) e').0

-- so a view is refused, with 4, exactly if the store or the lent page is no good
pub view_refused : (s : Store) (z : List ℕ) (g : ℕ) → is_store s && zero_page z ≡ false → view_outcome (view_of s z g) ≡ refuses 4
unfolding view_of
view_refused s z g e = rw e

pub view_accepted : (s : Store) (z : List ℕ) (g : ℕ) → is_store s ≡ true → zero_page z ≡ true
    → view_outcome (view_of s z g) ≡ gives (view_of s z g)
view_accepted s z g e e' = go (view_of s z g) (view_length s z g e e')
  where
    go : (l : List ℕ) → length l ≡ 4096 → view_outcome l ≡ gives l
    go [] q = absurd (omega arith)
    go (b ∷ l) q = refl
