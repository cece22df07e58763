-- The ways out of the decoders that are not one clause of Decoded: a word that is a number plus 1, and a number past the last of a list. By
-- cases. Assumes nothing.
use Rattle.std.specs.Prelude.{Some, None, option_map}
use mathlib.Core.Path.{◌≡◌, sym}
use Prim.Native.Nat.{ℕ, zero, suc, ◌-◌, ◌<◌, ◌≤◌}
use native.Mathlib.Omega.{arith}
use lib.ListN.{get_or-eq_default}
use Rattle.wire_numbers.specs.Numbers.{register_at}
use Rattle.wire_records.specs.Decoded.{base_or_index_at, operand_kinds, operand_at, event_kinds, event_at}
use Rattle.wire_records.specs.declared.OperandWords.{OperandWords}

-- ---- a number plus 1
pub part_some : (n : ℕ) → 0 < n → option_map (λ r. Some r) (register_at (n - 1)) ≡ base_or_index_at n
unfolding base_or_index_at
part_some zero lt = absurd (omega (arith, lt))
part_some (suc n) lt = let e : suc n - 1 ≡ n = omega arith in rw e

-- ---- kinds past the last
pub operand_past : (w : OperandWords) → 4 ≤ w.kind → None ≡ operand_at w
unfolding operand_at
operand_past w le = sym (get_or-eq_default (operand_kinds w) None le)

pub event_past : (w : OperandWords) → 3 ≤ w.kind → None ≡ event_at w
unfolding event_at
event_past w le = sym (get_or-eq_default (event_kinds w) None le)
