-- From what each call owes to the theorem on forgotten readers for every list of calls, and exposed as the demand says it: both by
-- induction on the list. Nothing here knows what a call, a place or a state is. Assumes nothing.
use Prim.Native.Nat.{ℕ}
use mathlib.Core.Path.{◌≡◌, refl, sym, ap, ap₂, ◌∙◌}
use mathlib.Core.Logic.{◌⊎◌, inl, inr}
use mathlib.Core.Bool.{Bool, true, false, not, ◌&&◌, ◌||◌, or-false}
use mathlib.Core.List.{List, [], ◌∷◌, ◌++◌}
use native.Mathlib.Omega.{arith}
use Rattle.std.proofs.lemmas.Bool.{cases_Bool, or_left, or_right, or_parts}
use Rattle.effects.specs.Exposed.{Performed, exposed, rewritten, end, trace, Seen, Forgotten, Exposes}

-- what each call owes: it sees only what it reads, of the shared part only if it reaches memory, and changes only what it rewrites
pub record Owed
    {C A X S Z : Type 0} (reads rewrites : C → ℕ → Bool) (reaches : C → Bool) (does : C → X → Performed A X)
    (shared : X → S) (place : X → ℕ → Z) (Good : X → Type 0) : Type 0 where
  pub good : (c : C) (x : X) → Good x → Good (does c x).after
  pub keeps : (c : C) (x : X) (p : ℕ) → Good x → rewrites c p ≡ false → place (does c x).after p ≡ place x p
  pub stays : (c : C) (x : X) → reaches c ≡ false → shared (does c x).after ≡ shared x
  pub moves : (c : C) (x y : X) → Good x → Good y → ((p : ℕ) → reads c p ≡ true → place x p ≡ place y p) → shared x ≡ shared y
      → shared (does c x).after ≡ shared (does c y).after
  pub answers : (c : C) (x y : X) → Good x → Good y → ((p : ℕ) → reads c p ≡ true → place x p ≡ place y p)
      → (reaches c ≡ true → shared x ≡ shared y)
      → (does c x).answer ≡ (does c y).answer
  pub renews : (c : C) (x y : X) (p : ℕ) → Good x → Good y → ((p : ℕ) → reads c p ≡ true → place x p ≡ place y p)
      → (reaches c ≡ true → shared x ≡ shared y)
      → rewrites c p ≡ true → place (does c x).after p ≡ place (does c y).after p

module _ {C A X S Z : Type 0} (reads rewrites : C → ℕ → Bool) (reaches : C → Bool) (does : C → X → Performed A X) (shared : X → S)
    (place : X → ℕ → Z)
    (Good : X → Type 0) (owed : Owed reads rewrites reaches does shared place Good) where
  pub kept : (cs : List C) (x : X) (p : ℕ) → Good x → rewritten rewrites cs p ≡ false → place (end does cs x) p ≡ place x p
  unfolding rewritten end
  kept [] x p g h = refl
  kept (c ∷ cs) x p g h =
      kept cs (does c x).after p (owed.good c x g) (or_parts (rewrites c p) (rewritten rewrites cs p) h).1
      ∙ owed.keeps c x p g (or_parts (rewrites c p) (rewritten rewrites cs p) h).0

  -- after one call they agree where they did, and where it rewrites
  after_one : (c : C) (x y : X) (p : ℕ) → Good x → Good y → ((p : ℕ) → reads c p ≡ true → place x p ≡ place y p)
      → (reaches c ≡ true → shared x ≡ shared y)
      → (rewrites c p ≡ true) ⊎ (place x p ≡ place y p) → place (does c x).after p ≡ place (does c y).after p
  after_one c x y p gx gy a s h = go (cases_Bool (rewrites c p)) h
    where
      go : (rewrites c p ≡ true) ⊎ (rewrites c p ≡ false) → (rewrites c p ≡ true) ⊎ (place x p ≡ place y p)
          → place (does c x).after p ≡ place (does c y).after p
      go (inl t) h = owed.renews c x y p gx gy a s t
      go (inr f) (inl t) = owed.renews c x y p gx gy a s t
      go (inr f) (inr e) = owed.keeps c x p gx f ∙ e ∙ sym (owed.keeps c y p gy f)

  Agree : List C → X → X → Type 0
  Agree cs x y = (p : ℕ) → exposed reads rewrites cs p ≡ true → place x p ≡ place y p

  reads_agree : (c : C) (cs : List C) (x y : X) → Agree (c ∷ cs) x y → (p : ℕ) → reads c p ≡ true → place x p ≡ place y p
  unfolding Agree exposed
  reads_agree c cs x y a p h = a p (or_left (reads c p) (not (rewrites c p) && exposed reads rewrites cs p) h)

  rest_agree : (c : C) (cs : List C) (x y : X) → Good x → Good y → shared x ≡ shared y → Agree (c ∷ cs) x y
      → Agree cs (does c x).after (does c y).after
  unfolding Agree exposed
  rest_agree c cs x y gx gy s a p h = go (cases_Bool (rewrites c p))
    where
      go : (rewrites c p ≡ true) ⊎ (rewrites c p ≡ false) → place (does c x).after p ≡ place (does c y).after p
      go (inl t) = owed.renews c x y p gx gy (reads_agree c cs x y a) (λ r. s) t
      go (inr f) =
          owed.keeps c x p gx f ∙ a p (or_right (reads c p) (not (rewrites c p) && exposed reads rewrites cs p) (rw (f, h) refl))
          ∙ sym (owed.keeps c y p gy f)

  alike : (cs : List C) (x y : X) → Good x → Good y → shared x ≡ shared y → Agree cs x y → trace does shared cs x ≡ trace does shared cs y
  unfolding trace
  alike [] x y gx gy s a = refl
  alike (c ∷ cs) x y gx gy s a =
      let ra = reads_agree c cs x y a in
      let s' : shared (does c x).after ≡ shared (does c y).after = owed.moves c x y gx gy ra s in
      let e : (does c x).answer ≡ (does c y).answer = owed.answers c x y gx gy ra (λ r. s) in
      ap₂ {A = Seen A S} {B = List (Seen A S)} (λ h t. h ∷ t) (λ i. record { answer = e i; shared = s' i })
      (alike cs (does c x).after (does c y).after (owed.good c x gx) (owed.good c y gy) s' (rest_agree c cs x y gx gy s a))

  -- at the end they agree on what some call rewrites, and where they agreed at the start
  settled : (cs : List C) (x y : X) (p : ℕ) → Good x → Good y → shared x ≡ shared y → Agree cs x y
      → (rewritten rewrites cs p ≡ true) ⊎ (place x p ≡ place y p) → place (end does cs x) p ≡ place (end does cs y) p
  unfolding end rewritten
  settled [] x y p gx gy s a (inl t) = let w : place x p ≡ place y p = cc in w
  settled [] x y p gx gy s a (inr e) = e
  settled (c ∷ cs) x y p gx gy s a h =
      settled cs (does c x).after (does c y).after p (owed.good c x gx) (owed.good c y gy) (owed.moves c x y gx gy ra s)
      (rest_agree c cs x y gx gy s a)
      (go (cases_Bool (rewrites c p)) h)
    where
      ra : (p : ℕ) → reads c p ≡ true → place x p ≡ place y p
      ra = reads_agree c cs x y a

      go : (rewrites c p ≡ true) ⊎ (rewrites c p ≡ false) → (rewritten rewrites (c ∷ cs) p ≡ true) ⊎ (place x p ≡ place y p)
          → (rewritten rewrites cs p ≡ true) ⊎ (place (does c x).after p ≡ place (does c y).after p)
      go (inl t) h = inr (owed.renews c x y p gx gy ra (λ r. s) t)
      go (inr f) (inl t) = inl (let w : (false || rewritten rewrites cs p) ≡ true = rw f at t in w)
      go (inr f) (inr e) = inr (after_one c x y p gx gy ra (λ r. s) (inr e))

  pub forgotten : (cs : List C) (x y : X) → Good x → Good y → shared x ≡ shared y
      → ((p : ℕ) → exposed reads rewrites cs p ≡ true → place x p ≡ place y p) → Forgotten reads rewrites does shared place cs x y
  unfolding Agree
  forgotten cs x y gx gy s a =
      record {
        alike = alike cs x y gx gy s a;
        agree = λ p h. settled cs x y p gx gy s a (which p (cases_Bool (rewritten rewrites cs p)) h);
        keeps_one = λ p h. kept cs x p gx h;
        keeps_other = λ p h. kept cs y p gy h;
      }
    where
      which : (p : ℕ) → (rewritten rewrites cs p ≡ true) ⊎ (rewritten rewrites cs p ≡ false)
          → (exposed reads rewrites cs p || rewritten rewrites cs p) ≡ true
          → (rewritten rewrites cs p ≡ true) ⊎ (place x p ≡ place y p)
      which p (inl t) h = inl t
      which p (inr f) h = inr (a p (rw (f, or-false) at h))

-- ---- exposed, in the words of the demand

module _ {C : Type 0} (reads rewrites : C → ℕ → Bool) where
  pub exposes : (cs : List C) (p : ℕ) → exposed reads rewrites cs p ≡ true → Exposes reads rewrites cs p
  unfolding exposed rewritten
  exposes [] p h = absurd (let z : ◌≡◌ {A = ℕ} 0 1 = cc in omega arith)
  exposes (c ∷ cs) p h = go (cases_Bool (reads c p)) (cases_Bool (rewrites c p)) (λ q. exposes cs p q)
    where
      go : (reads c p ≡ true) ⊎ (reads c p ≡ false) → (rewrites c p ≡ true) ⊎ (rewrites c p ≡ false)
          → (exposed reads rewrites cs p ≡ true → Exposes reads rewrites cs p) → Exposes reads rewrites (c ∷ cs) p
      go (inl r) w rec = record { before = []; call = c; after = cs; is = refl; does = r; earlier = refl }
      go (inr r) (inl w) rec = let z : ◌≡◌ {A = Bool} false true = rw (r, w) at h in absurd (let y : ◌≡◌ {A = ℕ} 0 1 = cc in omega arith)
      go (inr r) (inr w) rec =
          let e = rec (rw (r, w) at h) in
          record {
            before = c ∷ e.before;
            call = e.call;
            after = e.after;
            is = ap (λ (l : List C). c ∷ l) e.is;
            does = e.does;
            earlier = simp (w, e.earlier);
          }

  exposed_here : (b : List C) (c : C) (a : List C) (p : ℕ) → reads c p ≡ true → rewritten rewrites b p ≡ false
      → exposed reads rewrites (b ++ c ∷ a) p ≡ true
  unfolding exposed rewritten
  exposed_here [] c a p r w = simp r
  exposed_here (d ∷ b) c a p r w =
      or_right (reads d p) (not (rewrites d p) && exposed reads rewrites (b ++ c ∷ a) p)
      (simp (or_parts (rewrites d p) (rewritten rewrites b p) w).0
      (exposed_here b c a p r (or_parts (rewrites d p) (rewritten rewrites b p) w).1))

  pub exposed_if : (cs : List C) (p : ℕ) → Exposes reads rewrites cs p → exposed reads rewrites cs p ≡ true
  exposed_if cs p e = rw e.is (exposed_here e.before e.call e.after p e.does e.earlier)
