-- `register_number` gives the table's number: that it is the variant's place is one test that the checker computes at all 80 registers.
-- Assumes nothing.
use Rattle.std.proofs.Common.{◌≡◌, ◌∙◌, ℕ, ◌<◌, eqb, ltb, eqb→eq, arith}
use lib.Dec.{ltb→lt}
use denote.Enum.Declared.{tag_of}
use Rattle.instruction_set.proofs.Arms.{all}
use Rattle.instruction_set.specs.contracts.Register.{enum as registers, the_type}
use Rattle.instruction_set.specs.declared.Register.{Register}
use Rattle.wire_numbers.specs.Numbers.{register_number}
use Rattle.wire_numbers.proofs.register_number.Goals as goal

place_is : (r : Register) → tag_of the_type r ≡ register_number r
unfolding register_number
place_is r = eqb→eq (tag_of the_type r) (register_number r) (all registers (λ e. eqb (tag_of the_type e) (register_number e)) tt r)

place_below : (r : Register) → tag_of the_type r < 80
place_below r = ltb→lt (tag_of the_type r) 80 (all registers (λ e. ltb (tag_of the_type e) 80) tt r)

-- what is the variant's place, however the code comes to it
numbered : (r : Register) (n : ℕ) → n ≡ tag_of the_type r → (n ≡ register_number r) × (n < 80)
numbered r n e = (e ∙ place_is r, omega (arith, e, place_below r))

pub returns : goal.returns
returns c = numbered c.args.register _ (omega arith)
