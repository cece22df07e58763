-- What only the contracts of private functions cite: a reader of the public contracts needs none of it.
use Rattle.std.specs.Prelude.{None, Err, ◌≡◌, ℕ}
use Rattle.mmu.specs.declared.Refusal.{Refusal}
use Rattle.mmu.specs.declared.Written.{Written}

-- the answer of a refused write
pub record RefusedFor (w : Written) (why : Refusal) (used : ℕ) : Type 0 where
  pub answer : w.answer ≡ Err why
  pub count : w.used ≡ used
  pub dark : w.shown ≡ None
