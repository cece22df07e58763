-- What two equal outcomes tell: their numbers and values are equal, and an accepted one is no refusal; and nothing comes of what a
-- refusal says (`on_value`). Assumes nothing.
use Rattle.std.proofs.Common.{◌≡◌, ℕ, ◌≤◌, List, ap, arith, ne_eqb}
use Rattle.utils.specs.Outcome.{Outcome, gives, refuses_with, on_value}

module _ {X : Type 0} where
  pub same_number : {o p : Outcome X} → o ≡ p → o.number ≡ p.number
  same_number e = ap (λ (o : Outcome X). o.number) e

  pub same_values : {o p : Outcome X} → o ≡ p → o.values ≡ p.values
  same_values e = ap (λ (o : Outcome X). o.values) e

  pub given_not_refused : (vs ws : List X) (n : ℕ) → 1 ≤ n → gives vs ≡ refuses_with n ws → ⊥
  given_not_refused vs ws n h e = omega (arith, same_number e)

-- nothing comes of what a refusal says
pub on_refused : {X Y : Type 0} (n : ℕ) (vs : List X) (go : X → Y) (other : Y) → 1 ≤ n → on_value (refuses_with n vs) go other ≡ other
on_refused n vs go other h = rw (ne_eqb n 0 (λ e. omega arith))
