-- The five registers whose writing gives an event are those of parents 17 to 21, and no other register has one of these parents. Each fact
-- is one test that the checker computes at all 80 registers. Assumes nothing.
use Rattle.std.proofs.Common.{◌≡◌, ℕ, ◌<◌, ◌≤◌, Bool, true, false, cond, T, eqb, ltb, List, [], ◌∷◌, sym, refl, ◌∙◌, subst, eqb→eq, le-ltb}
use Rattle.std.proofs.Common.{lt-ltb, not, arith}
use mathlib.Core.Bool.{beq}
use mathlib.Core.List.{Memᴰ}
use denote.Enum.Declared.{tag_of, declared}
use Rattle.instruction_set.specs.Registers.{row, parent_of}
use Rattle.instruction_set.specs.declared.Register.{Register}
use Rattle.instruction_set.proofs.Arms.{all, number_one}
use Rattle.instruction_set.specs.contracts.Register.{enum as registers}
use Rattle.machine_state.specs.Machine.{controls, is_control}

-- ---- by parent
alike_same : (a b : Bool) → T (beq a b) → a ≡ b
alike_same a b t = grind arith

-- a register is one of the five where its parent is not below 17
pub control_from_17 : (r : Register) → is_control r ≡ not (ltb (parent_of r) 17)
unfolding row is_control
control_from_17 r =
    alike_same (is_control r) (not (ltb (parent_of r) 17))
    (all registers (λ e. beq (is_control e) (not (ltb (parent_of e) 17))) tt r)

pub control_below : (r : Register) → parent_of r < 17 → is_control r ≡ false
control_below r h = rw (control_from_17 r, lt-ltb (parent_of r) 17 h)

pub control_above : (r : Register) → 17 ≤ parent_of r → is_control r ≡ true
control_above r h = rw (control_from_17 r, le-ltb (parent_of r) 17 h)

-- ---- by name
-- the variant's number in the enum: another for each register
abbrev place : Register → ℕ
place r = tag_of (declared registers) r

place_one : (q r : Register) → place q ≡ place r → q ≡ r
place_one = number_one registers tt place tt

abbrev place_among : ℕ → List Register → Bool
place_among n [] = false
place_among n (r ∷ rs) = cond (eqb n (place r)) true (place_among n rs)

module _ (r q : Register) (rs : List Register) (later : T (place_among (place r) rs) → Memᴰ r rs) where
  at_first : (b : Bool) → eqb (place r) (place q) ≡ b → T (cond b true (place_among (place r) rs)) → Memᴰ r (q ∷ rs)
  at_first true e t = Memᴰ.head (place_one r q (eqb→eq (place r) (place q) (subst T (sym e) tt)))
  at_first false e t = Memᴰ.tail (later t)

among : (r : Register) (rs : List Register) → T (place_among (place r) rs) → Memᴰ r rs
among r [] t = absurd t
among r (q ∷ rs) t = at_first r q rs (among r rs) (eqb (place r) (place q)) refl t

control_places : (r : Register) → is_control r ≡ place_among (place r) controls
unfolding row is_control
control_places r =
    alike_same (is_control r) (place_among (place r) controls)
    (all registers (λ e. beq (is_control e) (place_among (place e) controls)) tt r)

-- a register that gives an event is one of the five that `controls` names
pub control_named : (r : Register) → is_control r ≡ true → Memᴰ r controls
control_named r h = among r controls (subst T (sym h ∙ control_places r) tt)
