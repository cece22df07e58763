-- What independent neighbours are, and what each call owes so that they may be exchanged. The state has three parts: places, a shared part
-- (memory), and a part aside. Only calls that reach memory and read the key's place look at what is aside; any other leaves it or empties
-- it. Today nothing is aside (`nothing_aside`); it is room for what a machine remembers of its walks, whose key is CR3. Nothing here knows
-- what a call, a place or a state is. Assumes nothing.
use mathlib.Core.Bool.{Bool, true, false, cond, ◌&&◌, ◌||◌}
use mathlib.Core.Path.{◌≡◌, refl}
use Prim.Native.Nat.{ℕ}
use Rattle.effects.specs.Exposed.{Performed}
use Rattle.effects.proofs.Forgotten.{Owed}

-- neither rewrites what the other reads or rewrites, and not both reach memory
pub record Independent {C : Type 0} (reads rewrites : C → ℕ → Bool) (reaches : C → Bool) (c d : C) : Type 0 where
  pub forth : (p : ℕ) → (rewrites c p && (reads d p || rewrites d p)) ≡ false
  pub back : (p : ℕ) → (rewrites d p && (reads c p || rewrites c p)) ≡ false
  pub one_only : (reaches c && reaches d) ≡ false

-- the call looks at what is aside
abbrev pub looks : {C : Type 0} → (C → ℕ → Bool) → (C → Bool) → ℕ → C → Bool
looks reads reaches key c = reaches c && reads c key

-- two states are alike for a call: in all that it looks at
pub record Alike
    {C X S H Z : Type 0} (reads : C → ℕ → Bool) (reaches : C → Bool) (shared : X → S) (aside : X → H) (place : X → ℕ → Z) (key : ℕ)
    (c : C) (x y : X) : Type 0 where
  pub places : (p : ℕ) → reads c p ≡ true → place x p ≡ place y p
  pub memory : reaches c ≡ true → shared x ≡ shared y
  pub beside : looks reads reaches key c ≡ true → aside x ≡ aside y

pub record Parted
    {C A X S H Z : Type 0} (reads rewrites : C → ℕ → Bool) (reaches : C → Bool) (does : C → X → Performed A X) (shared : X → S)
    (aside : X → H)
    (place : X → ℕ → Z) (Good : X → Type 0) (key : ℕ) (nothing : H) (empties : C → X → Bool) : Type 0 where
  pub good : (c : C) (x : X) → Good x → Good (does c x).after
  -- what it does not rewrite it keeps, and memory stays where it does not reach it
  pub keeps : (c : C) (x : X) (p : ℕ) → Good x → rewrites c p ≡ false → place (does c x).after p ≡ place x p
  pub stays : (c : C) (x : X) → reaches c ≡ false → shared (does c x).after ≡ shared x
  -- what it answers, what it rewrites and what it makes of memory goes by what it looks at
  pub answers : (c : C) (x y : X) → Good x → Good y → Alike reads reaches shared aside place key c x y
      → (does c x).answer ≡ (does c y).answer
  pub renews : (c : C) (x y : X) (p : ℕ) → Good x → Good y → Alike reads reaches shared aside place key c x y → rewrites c p ≡ true
      → place (does c x).after p ≡ place (does c y).after p
  pub moves : (c : C) (x y : X) → Good x → Good y → reaches c ≡ true → Alike reads reaches shared aside place key c x y
      → shared (does c x).after ≡ shared (does c y).after
  -- what is aside: a call that looks at it makes of it what goes by what it looks at; any other leaves it or empties it, which again goes
  -- by what it looks at; and none empties it but those that reach memory or rewrite the key's place
  pub recalls : (c : C) (x y : X) → Good x → Good y → looks reads reaches key c ≡ true → Alike reads reaches shared aside place key c x y
      → aside (does c x).after ≡ aside (does c y).after
  pub leaves : (c : C) (x : X) → Good x → looks reads reaches key c ≡ false → aside (does c x).after ≡ cond (empties c x) nothing (aside x)
  pub empties_alike : (c : C) (x y : X) → Good x → Good y → looks reads reaches key c ≡ false
      → Alike reads reaches shared aside place key c x y
      → empties c x ≡ empties c y
  pub holds : (c : C) (x : X) → Good x → reaches c ≡ false → rewrites c key ≡ false → empties c x ≡ false

-- with nothing aside it is what the theorem on forgotten readers asks of the calls
pub nothing_aside : {C A X S Z : Type 0} (reads rewrites : C → ℕ → Bool) (reaches : C → Bool) (does : C → X → Performed A X)
    (shared : X → S)
    (place : X → ℕ → Z) (Good : X → Type 0) (key : ℕ) → Owed reads rewrites reaches does shared place Good
    → Parted {H = Unit {0}} reads rewrites reaches does shared (λ x. tt) place Good key tt (λ c x. false)
nothing_aside reads rewrites reaches does shared place Good key owed =
    record {
      good = owed.good;
      keeps = owed.keeps;
      stays = owed.stays;
      answers = λ c x y g k a. owed.answers c x y g k a.places a.memory;
      renews = λ c x y p g k a w. owed.renews c x y p g k a.places a.memory w;
      moves = λ c x y g k r a. owed.moves c x y g k a.places (a.memory r);
      recalls = λ c x y g k l a. refl;
      leaves = λ c x g l. refl;
      empties_alike = λ c x y g k l a. refl;
      holds = λ c x g r w. refl;
    }
