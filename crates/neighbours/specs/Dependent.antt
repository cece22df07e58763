-- Dependent calls (RULES 8.6), by the rows of the table: a test, as code can make it, and the rule's sentence.
use Rattle.std.specs.Prelude.{Bool, true, false, ◌&&◌, ◌||◌, ◌≡◌, ℕ, zero, suc}
use Rattle.calls.specs.declared.Call.{Call}
use Rattle.effects.specs.Rows.{reads_of, rewrites_of, reaches, in_spans}

-- some number below n has it
unfoldable pub some : ℕ → (ℕ → Bool) → Bool
some zero f = false
some (suc n) f = f n || some n f

-- some place, of the 182, has both
unfoldable pub common : (ℕ → Bool) → (ℕ → Bool) → Bool
common f g = some 182 (λ p. f p && g p)

-- a call reads or rewrites the place
abbrev pub touches : Call → ℕ → Bool
touches c p = in_spans (reads_of c) p || in_spans (rewrites_of c) p

-- the first call rewrites a place that the second reads or rewrites
unfoldable pub meets : Call → Call → Bool
meets c d = common (in_spans (rewrites_of c)) (touches d)

-- dependent: one of them does so to the other, or both reach memory (RULES 8.6). Both reach it by their kind: also two that read it, and
-- also where one is refused
unfoldable pub dependent : Call → Call → Bool
dependent c d = meets c d || (meets d c || reaches c && reaches d)

-- ---- the same in the rule's words, with no bound on the place
pub record Meets (c d : Call) : Type 0 where
  pub at : ℕ
  pub rewrites : in_spans (rewrites_of c) at ≡ true
  pub touched : touches d at ≡ true

pub data Dependent (c d : Call) : Type 0 where
  forth : Meets c d → Dependent c d
  back : Meets d c → Dependent c d
  memory : reaches c ≡ true → reaches d ≡ true → Dependent c d
