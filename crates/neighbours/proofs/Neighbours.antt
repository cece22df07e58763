-- Independent neighbours may be exchanged, from what each call owes, and so they may inside a longer list. The idea: a call looks at the
-- same whether or not its neighbour has gone before (`unmoved`), so it answers the same and leaves the same where it rewrites; and each
-- part of the state is changed by one of the two at most, or emptied by both. Assumes nothing.
use Prim.Native.Nat.{ℕ}
use mathlib.Core.Path.{◌≡◌, refl, sym, ap, ap₂, ◌∙◌}
use mathlib.Core.Logic.{◌⊎◌, inl, inr}
use mathlib.Core.Bool.{Bool, true, false, cond, ◌&&◌, ◌||◌, and_comm}
use mathlib.Core.List.{List, [], ◌∷◌, ◌++◌}
use native.Mathlib.Omega.{arith}
use Rattle.std.proofs.lemmas.Bool.{cases_Bool, and_parts, and_left, or_left, or_right}
use Rattle.effects.specs.Exposed.{Performed, end}
use Rattle.neighbours.specs.Swapped.{Swapped, answers_of, Exchanged}
use Rattle.neighbours.proofs.Parted.{Independent, looks, Alike, Parted}

-- of two that are not both so, where one is so the other is not
first_is_not : (a b : Bool) → (a && b) ≡ false → b ≡ true → a ≡ false
first_is_not a b h t = grind arith

-- a thing emptied or left twice: the order does not matter
emptied_twice : {H : Type 0} (a b : Bool) (nothing h : H) → cond a nothing (cond b nothing h) ≡ cond b nothing (cond a nothing h)
emptied_twice a b nothing h = grind arith

module _ {C A X S H Z : Type 0} (reads rewrites : C → ℕ → Bool) (reaches : C → Bool) (does : C → X → Performed A X) (shared : X → S)
    (aside : X → H) (place : X → ℕ → Z) (Good : X → Type 0) (key : ℕ) (nothing : H) (empties : C → X → Bool)
    (owed : Parted reads rewrites reaches does shared aside place Good key nothing empties) where
  abbrev Apart : C → C → Type 0
  Apart c d = Independent reads rewrites reaches c d

  abbrev Same : C → X → X → Type 0
  Same c x y = Alike reads reaches shared aside place key c x y

  -- the state after c, and after c and then d
  abbrev after : C → X → X
  after c x = (does c x).after

  abbrev both : C → C → X → X
  both c d x = after d (after c x)

  flip : {c d : C} → Apart c d → Apart d c
  flip {c} {d} i = record { forth = i.back; back = i.forth; one_only = and_comm (reaches d) (reaches c) ∙ i.one_only }

  same_sym : {c : C} {x y : X} → Same c x y → Same c y x
  same_sym a = record { places = λ p r. sym (a.places p r); memory = λ r. sym (a.memory r); beside = λ l. sym (a.beside l) }

  -- what the one leaves alone, by what the other does
  not_reached : (c d : C) → Apart c d → reaches d ≡ true → reaches c ≡ false
  not_reached c d i r = first_is_not (reaches c) (reaches d) i.one_only r

  not_rewritten : (c d : C) (p : ℕ) → Apart c d → (reads d p || rewrites d p) ≡ true → rewrites c p ≡ false
  not_rewritten c d p i t = first_is_not (rewrites c p) (reads d p || rewrites d p) (i.forth p) t

  spared : (c d : C) (p : ℕ) → Apart c d → reads d p ≡ true → rewrites c p ≡ false
  spared c d p i r = not_rewritten c d p i (or_left (reads d p) (rewrites d p) r)

  only_one : (c d : C) (p : ℕ) → Apart c d → rewrites d p ≡ true → rewrites c p ≡ false
  only_one c d p i w = not_rewritten c d p i (or_right (reads d p) (rewrites d p) w)

  -- where d looks at what is aside, c leaves it
  unrecalled : (c d : C) (x : X) → Good x → Apart c d → looks reads reaches key d ≡ true → aside (after c x) ≡ aside x
  unrecalled c d x g i l =
      let quiet : reaches c ≡ false = not_reached c d i (and_parts (reaches d) (reads d key) l).0 in
      let kept : rewrites c key ≡ false = spared c d key i (and_parts (reaches d) (reads d key) l).1 in
      owed.leaves c x g (and_left _ (reads c key) quiet) ∙ ap (λ (b : Bool). cond b nothing (aside x)) (owed.holds c x g quiet kept)

  -- d looks at the same whether or not c has gone before
  unmoved : (c d : C) (x : X) → Good x → Apart c d → Same d (after c x) x
  unmoved c d x g i =
      record {
        places = λ p r. owed.keeps c x p g (spared c d p i r);
        memory = λ r. owed.stays c x (not_reached c d i r);
        beside = λ l. unrecalled c d x g i l;
      }

  -- places: where c rewrites, both orders leave what c alone leaves
  renewed : (c d : C) (x : X) (p : ℕ) → Good x → Apart c d → rewrites c p ≡ true → place (both c d x) p ≡ place (both d c x) p
  renewed c d x p g i t =
      owed.keeps d (after c x) p (owed.good c x g) (only_one d c p (flip i) t)
      ∙ owed.renews c x (after d x) p g (owed.good d x g) (same_sym (unmoved d c x g (flip i))) t

  places_alike : (c d : C) (x : X) (p : ℕ) → Good x → Apart c d → place (both c d x) p ≡ place (both d c x) p
  places_alike c d x p g i = go (cases_Bool (rewrites c p)) (cases_Bool (rewrites d p))
    where
      go : (rewrites c p ≡ true) ⊎ (rewrites c p ≡ false) → (rewrites d p ≡ true) ⊎ (rewrites d p ≡ false)
          → place (both c d x) p ≡ place (both d c x) p
      go (inl t) u = renewed c d x p g i t
      go (inr f) (inl t) = sym (renewed d c x p g (flip i) t)
      go (inr f) (inr e) =
          owed.keeps d (after c x) p (owed.good c x g) e
          ∙ owed.keeps c x p g f
          ∙ sym (owed.keeps d x p g e)
          ∙ sym (owed.keeps c (after d x) p (owed.good d x g) f)

  -- memory: one at most reaches it
  reached : (c d : C) (x : X) → Good x → Apart c d → reaches c ≡ true → shared (both c d x) ≡ shared (both d c x)
  reached c d x g i t =
      owed.stays d (after c x) (not_reached d c (flip i) t)
      ∙ owed.moves c x (after d x) g (owed.good d x g) t (same_sym (unmoved d c x g (flip i)))

  shared_alike : (c d : C) (x : X) → Good x → Apart c d → shared (both c d x) ≡ shared (both d c x)
  shared_alike c d x g i = go (cases_Bool (reaches c)) (cases_Bool (reaches d))
    where
      go : (reaches c ≡ true) ⊎ (reaches c ≡ false) → (reaches d ≡ true) ⊎ (reaches d ≡ false)
          → shared (both c d x) ≡ shared (both d c x)
      go (inl t) u = reached c d x g i t
      go (inr f) (inl t) = sym (reached d c x g (flip i) t)
      go (inr f) (inr e) = owed.stays d (after c x) e ∙ owed.stays c x f ∙ sym (owed.stays d x e) ∙ sym (owed.stays c (after d x) f)

  -- what is aside: one looks at it and the other leaves it, or each leaves it or empties it
  recalled : (c d : C) (x : X) → Good x → Apart c d → looks reads reaches key c ≡ true → aside (both c d x) ≡ aside (both d c x)
  recalled c d x g i l =
      unrecalled d c (after c x) (owed.good c x g) (flip i) l
      ∙ owed.recalls c x (after d x) g (owed.good d x g) l (same_sym (unmoved d c x g (flip i)))

  emptied : (c d : C) (x : X) → Good x → Apart c d → looks reads reaches key c ≡ false → looks reads reaches key d ≡ false
      → aside (both c d x) ≡ cond (empties d x) nothing (cond (empties c x) nothing (aside x))
  emptied c d x g i lc ld =
      owed.leaves d (after c x) (owed.good c x g) ld
      ∙ ap₂ (λ (b : Bool) (h : H). cond b nothing h) (owed.empties_alike d (after c x) x (owed.good c x g) g ld (unmoved c d x g i))
      (owed.leaves c x g lc)

  aside_alike : (c d : C) (x : X) → Good x → Apart c d → aside (both c d x) ≡ aside (both d c x)
  aside_alike c d x g i = go (cases_Bool (looks reads reaches key c)) (cases_Bool (looks reads reaches key d))
    where
      go : (looks reads reaches key c ≡ true) ⊎ (looks reads reaches key c ≡ false)
          → (looks reads reaches key d ≡ true) ⊎ (looks reads reaches key d ≡ false) → aside (both c d x) ≡ aside (both d c x)
      go (inl l) u = recalled c d x g i l
      go (inr f) (inl l) = sym (recalled d c x g (flip i) l)
      go (inr f) (inr e) =
          emptied c d x g i f e ∙ emptied_twice (empties d x) (empties c x) nothing (aside x) ∙ sym (emptied d c x g (flip i) e f)

  -- each gives the same answer, and the state, which is its three parts, ends equal
  pub neighbours : ((x y : X) → Good x → Good y → shared x ≡ shared y → aside x ≡ aside y → ((p : ℕ) → place x p ≡ place y p) → x ≡ y)
      → (c d : C) (x : X) → Good x → Independent reads rewrites reaches c d → Swapped does c d x
  neighbours whole c d x g i =
      let gc = owed.good c x g in
      let gd = owed.good d x g in
      record {
        first = owed.answers c x (after d x) g gd (same_sym (unmoved d c x g (flip i)));
        second = owed.answers d (after c x) x gc g (unmoved c d x g i);
        last = whole (both c d x) (both d c x) (owed.good d (after c x) gc) (owed.good c (after d x) gd) (shared_alike c d x g i)
            (aside_alike c d x g i) (λ p. places_alike c d x p g i);
      }

-- ---- inside a longer list
module _ {C A X : Type 0} (does : C → X → Performed A X) where
  answered_append : (before rest : List C) (x : X)
      → answers_of does (before ++ rest) x ≡ answers_of does before x ++ answers_of does rest (end does before x)
  unfolding answers_of end
  answered_append [] rest x = refl
  answered_append (c ∷ before) rest x = ap (λ (l : List A). (does c x).answer ∷ l) (answered_append before rest (does c x).after)

  end_append : (before rest : List C) (x : X) → end does (before ++ rest) x ≡ end does rest (end does before x)
  unfolding end
  end_append [] rest x = refl
  end_append (c ∷ before) rest x = end_append before rest (does c x).after

  pub exchanged : (before : List C) (c d : C) (after : List C) (x : X) → Swapped does c d (end does before x)
      → Exchanged does before c d after x
  unfolding answers_of end
  exchanged before c d after x s =
      let y = end does before x in
      record {
        one = (does c y).answer;
        other = (does d (does c y).after).answer;
        later = answers_of does after (does d (does c y).after).after;
        as_listed = answered_append before (c ∷ d ∷ after) x;
        turned = answered_append before (d ∷ c ∷ after) x
            ∙ sym (λ i. answers_of does before x ++ s.second i ∷ s.first i ∷ answers_of does after (s.last i));
        ends = end_append before (c ∷ d ∷ after) x
            ∙ ap (λ (z : X). end does after z) s.last
            ∙ sym (end_append before (d ∷ c ∷ after) x);
      }
