-- Each register's name belongs to it alone: the names as numbers differ at every two registers, by one computed test. Assumes nothing.
use mathlib.Core.List.{List, [], ◌∷◌}
use mathlib.Core.Path.{◌≡◌, ap}
use Prim.Native.Nat.{ℕ, ◌+◌, ◌*◌}
use Rattle.instruction_set.proofs.Arms.{number_one}
use Rattle.instruction_set.specs.contracts.Register.{enum}
use Rattle.instruction_set.specs.declared.Register.{Register}
use Rattle.text_names.specs.Names.{name_of}

-- a text as a number, its first byte lowest
abbrev packed : List ℕ → ℕ
packed [] = 0
packed (b ∷ t) = b + 256 * packed t

abbrev number : Register → ℕ
number r = packed (name_of r)

pub name_one : (q r : Register) → name_of q ≡ name_of r → q ≡ r
unfolding name_of
name_one q r e = number_one enum tt number tt q r (ap packed e)
