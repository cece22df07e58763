-- Exposed and rewritten places of a list of calls, and the theorem on forgotten readers (RULES 8.4, demand 3 of the request), over any
-- kind of call, answer and state.
use Rattle.std.specs.Prelude.{Bool, true, false, not, ◌&&◌, ◌||◌, List, [], ◌∷◌, ◌++◌, ◌≡◌, ℕ}

-- what a call leaves: its answer (outcome, event, lent bytes), and the state after it
pub record Performed (A X : Type 0) : Type 0 where
  pub answer : A
  pub after : X

-- some call reads p, and no earlier call has rewritten it (RULES 8.4); a call's reads come before its rewrites (RULES 8.3)
unfoldable pub exposed : {C : Type 0} → (C → ℕ → Bool) → (C → ℕ → Bool) → List C → ℕ → Bool
exposed reads rewrites [] p = false
exposed reads rewrites (c ∷ cs) p = reads c p || not (rewrites c p) && exposed reads rewrites cs p

-- some call rewrites p
unfoldable pub rewritten : {C : Type 0} → (C → ℕ → Bool) → List C → ℕ → Bool
rewritten rewrites [] p = false
rewritten rewrites (c ∷ cs) p = rewrites c p || rewritten rewrites cs p

-- the state after a list of calls
unfoldable pub end : {C A X : Type 0} → (C → X → Performed A X) → List C → X → X
end does [] x = x
end does (c ∷ cs) x = end does cs (does c x).after

-- what is seen of one call: its answer, and the store with its slots in use after it
pub record Seen (A S : Type 0) : Type 0 where
  pub answer : A
  pub shared : S

-- what is seen of a list of calls, one after the other
unfoldable pub trace : {C A X S : Type 0} → (C → X → Performed A X) → (X → S) → List C → X → List (Seen A S)
trace does shared [] x = []
trace does shared (c ∷ cs) x =
    record { answer = (does c x).answer; shared = shared (does c x).after } ∷ trace does shared cs (does c x).after

-- demand 3 for one list of calls and two states (RULES 8.4)
pub record Forgotten
    {C A X S Z : Type 0} (reads rewrites : C → ℕ → Bool) (does : C → X → Performed A X) (shared : X → S) (place : X → ℕ → Z)
    (cs : List C) (x y : X) : Type 0 where
  -- each call answers alike in both, refusals, events and slots in use included, and the stores are equal after it
  pub alike : trace does shared cs x ≡ trace does shared cs y
  -- at the end they agree on every place that is exposed or rewritten
  pub agree : (p : ℕ) → (exposed reads rewrites cs p || rewritten rewrites cs p) ≡ true → place (end does cs x) p ≡ place (end does cs y) p
  -- every other place is as it was
  pub keeps_one : (p : ℕ) → rewritten rewrites cs p ≡ false → place (end does cs x) p ≡ place x p
  pub keeps_other : (p : ℕ) → rewritten rewrites cs p ≡ false → place (end does cs y) p ≡ place y p

-- exposed, as the rule says it: a call reads p, and no call before it has rewritten it (RULES 8.4)
pub record Exposes {C : Type 0} (reads rewrites : C → ℕ → Bool) (cs : List C) (p : ℕ) : Type 0 where
  pub before : List C
  pub call : C
  pub after : List C
  pub is : cs ≡ before ++ call ∷ after
  pub does : reads call p ≡ true
  pub earlier : rewritten rewrites before p ≡ false
