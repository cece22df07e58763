-- How long a register's name can be, by one computed test. Assumes nothing.
use Prim.Native.Nat.{◌≤◌}
use native.Mathlib.Omega.{arith}
use lib.Dec.{leb, leb→le}
use lib.ListN.{length}
use Rattle.instruction_set.proofs.Arms.{all}
use Rattle.instruction_set.specs.contracts.Register.{enum}
use Rattle.instruction_set.specs.declared.Register.{Register}
use Rattle.text_pieces.proofs.Longest.{joined}
use Rattle.text_pieces.specs.Ascii.{ascii}
use Rattle.text_names.specs.Names.{name_of, register_text}

pub name_most : (r : Register) → length (name_of r) ≤ 4
unfolding name_of
name_most r = leb→le (length (name_of r)) 4 (all enum (λ e. leb (length (name_of e)) 4) tt r)

pub register_most : (r : Register) → length (register_text r) ≤ 5
register_most r = joined 1 4 (ascii "%") (name_of r) (omega arith) (name_most r)
