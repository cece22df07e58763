-- An arm of a `match` on an enum whose variants hold nothing, several variants joined by `|` in the order in which they are declared: the
-- arm's keys are the numbers of the variants that pass a test which the checker computes at each variant, so at the arm's value the test
-- passes. Assumes nothing.
use mathlib.Core.Path.{◌≡◌, refl, sym, ◌∙◌, ap, subst}
use mathlib.Core.Bool.{Bool, true, false}
use mathlib.Core.Logic.{inl, inr}
use mathlib.Core.List.{List, [], ◌∷◌}
use Prim.Native.Nat.{ℕ, zero, suc}
use lib.Dec.{T, eqb, eqb→eq}
use types.Run.{OneOf}
use denote.Struct.Field.{Field}
use denote.Enum.Enum.{tag}
use denote.Enum.Declared.{Record, Choice, rowss, intoss, declared, tag_of, values_one}
use native.Mathlib.Omega.{arith}
use borrow.Author.Tests.{eq-eqb}

abbrev pub both : Bool → Bool → Bool
both true b = b
both false b = false

both_left : (a b : Bool) → T (both a b) → T a
both_left true b t = tt
both_left false b t = t

both_right : (a b : Bool) → T (both a b) → T b
both_right true b t = t
both_right false b t = absurd t

-- no variant holds anything
abbrev pub bare : List (List Field) → Bool
bare [] = true
bare ([] ∷ Fss) = bare Fss
bare ((F ∷ Fs) ∷ Fss) = false

-- the test at the variant of a number
abbrev pub at_place : (Fss : List (List Field)) → (Choice Fss → Bool) → ℕ → Bool
at_place [] g n = true
at_place ([] ∷ Fss) g zero = g (inl tt)
at_place ([] ∷ Fss) g (suc n) = at_place Fss (λ c. g (inr c)) n
at_place ((F ∷ Fs) ∷ Fss) g n = true

at_its : (Fss : List (List Field)) (g : Choice Fss → Bool) → T (bare Fss) → (c : Choice Fss)
    → at_place Fss g (tag (rowss Fss) (intoss Fss c)) ≡ g c
at_its [] g b c = absurd c
at_its ([] ∷ Fss) g b (inl x) = refl
at_its ([] ∷ Fss) g b (inr c) = at_its Fss (λ e. g (inr e)) b c
at_its ((F ∷ Fs) ∷ Fss) g b c = absurd b

-- those numbers from n on at which the test passes, of as many as there are variants
abbrev pub if_so_lem : Bool → ℕ → List ℕ → List ℕ
if_so_lem true n ns = n ∷ ns
if_so_lem false n ns = ns

abbrev pub places : List (List Field) → (ℕ → Bool) → ℕ → List ℕ
places [] t n = []
places (x ∷ xs) t n = if_so_lem (t n) n (places xs t (suc n))

module _ (t : ℕ → Bool) (x : ℕ) where
  more : (b : Bool) (n : ℕ) → t n ≡ b → (ns : List ℕ) → (OneOf ns x → T (t x)) → OneOf (if_so_lem b n ns) x → T (t x)
  more false n e ns k h = k h
  more true n e [] k h = subst T (sym (ap t h ∙ e)) tt
  more true n e (m ∷ ns) k (inl h) = subst T (sym (ap t h ∙ e)) tt
  more true n e (m ∷ ns) k (inr h) = k h

  passes : (xs : List (List Field)) (n : ℕ) → OneOf (places xs t n) x → T (t x)
  passes [] n h = absurd h
  passes (y ∷ ys) n h = more (t n) n refl (places ys t (suc n)) (passes ys (suc n)) h

abbrev pub keys : (N : Record) → (N.D → Bool) → List ℕ
keys N f = places N.parts (at_place N.parts (λ c. f (N.make c))) 0

pub arm : (N : Record) → T (bare N.parts) → (f : N.D → Bool) (d : N.D) → OneOf (keys N f) (tag_of (declared N) d) → T (f d)
arm N b f d h =
    subst T (at_its N.parts (λ c. f (N.make c)) b (N.as_values d) ∙ ap f (N.eta d))
    (passes (at_place N.parts (λ c. f (N.make c))) (tag_of (declared N) d) N.parts 0 h)

pub arm_says : (N : Record) → T (bare N.parts) → (f : N.D → ℕ) (v : ℕ) (d : N.D)
    → OneOf (keys N (λ e. eqb v (f e))) (tag_of (declared N) d) → v ≡ f d
arm_says N b f v d h = eqb→eq v (f d) (arm N b (λ e. eqb v (f e)) d h)

-- two values of such an enum that have one number are one value
choice_one : (Fss : List (List Field)) → T (bare Fss) → (c e : Choice Fss)
    → tag (rowss Fss) (intoss Fss c) ≡ tag (rowss Fss) (intoss Fss e) → c ≡ e
choice_one [] b c e p = absurd c
choice_one ([] ∷ Fss) b (inl x) (inl y) p = refl
choice_one ([] ∷ Fss) b (inl x) (inr e) p = absurd (omega arith)
choice_one ([] ∷ Fss) b (inr c) (inl y) p = absurd (omega arith)
choice_one ([] ∷ Fss) b (inr c) (inr e) p = ap inr (choice_one Fss b c e (omega arith))
choice_one ((F ∷ Fs) ∷ Fss) b c e p = absurd b

pub arm_picks : (N R : Record) → T (bare N.parts) → T (bare R.parts) → (f : N.D → R.D) (v : R.D) (d : N.D)
    → OneOf (keys N (λ e. eqb (tag_of (declared R) v) (tag_of (declared R) (f e)))) (tag_of (declared N) d) → v ≡ f d
arm_picks N R b b' f v d h =
    values_one R v (f d)
    (choice_one R.parts b' (R.as_values v) (R.as_values (f d))
    (eqb→eq (tag_of (declared R) v) (tag_of (declared R) (f d))
    (arm N b (λ e. eqb (tag_of (declared R) v) (tag_of (declared R) (f e))) d h)))

-- a test that the checker computes at every variant
abbrev pub every : (Fss : List (List Field)) → (Choice Fss → Bool) → Bool
every [] g = true
every ([] ∷ Fss) g = both (g (inl tt)) (every Fss (λ c. g (inr c)))
every ((F ∷ Fs) ∷ Fss) g = false

each : (Fss : List (List Field)) (g : Choice Fss → Bool) → T (every Fss g) → (c : Choice Fss) → T (g c)
each [] g t c = absurd c
each ([] ∷ Fss) g t (inl x) = both_left (g (inl tt)) (every Fss (λ c. g (inr c))) t
each ([] ∷ Fss) g t (inr c) = each Fss (λ e. g (inr e)) (both_right (g (inl tt)) (every Fss (λ e. g (inr e))) t) c
each ((F ∷ Fs) ∷ Fss) g t c = absurd t

pub all : (N : Record) (f : N.D → Bool) → T (every N.parts (λ c. f (N.make c))) → (d : N.D) → T (f d)
all N f t d = subst (λ (e : N.D). T (f e)) (N.eta d) (each N.parts (λ c. f (N.make c)) t (N.as_values d))

-- a number at each variant, another at each: the number fixes the variant
abbrev pub implies : Bool → Bool → Bool
implies true b = b
implies false b = true

implied : (a b : Bool) → T (implies a b) → a ≡ true → T b
implied true b t e = t
implied false b t e = absurd (let z : ◌≡◌ {A = ℕ} 0 1 = cc in omega arith)

module _ (N : Record) (b : T (bare N.parts)) (f : N.D → ℕ) where
  abbrev pub apart : N.D → N.D → Bool
  apart x y = implies (eqb (f x) (f y)) (eqb (tag_of (declared N) x) (tag_of (declared N) y))

  pub number_one : T (every N.parts (λ c. every N.parts (λ e. apart (N.make c) (N.make e)))) → (x y : N.D) → f x ≡ f y → x ≡ y
  number_one t x y e =
      let s = all N (λ d. every N.parts (λ k. apart d (N.make k))) t x in
      let u = all N (apart x) s y in
      values_one N x y
      (choice_one N.parts b (N.as_values x) (N.as_values y)
      (eqb→eq (tag_of (declared N) x) (tag_of (declared N) y)
      (implied (eqb (f x) (f y)) (eqb (tag_of (declared N) x) (tag_of (declared N) y)) u (eq-eqb (f x) (f y) e))))
