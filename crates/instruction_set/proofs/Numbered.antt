-- A flag's number leads back to the flag, by cases, and no flag has a number past 5. Assumes nothing.
use Rattle.std.specs.Prelude.{Some, None}
use mathlib.Core.Path.{◌≡◌, refl}
use Prim.Native.Nat.{ℕ, ◌≤◌}
use Rattle.std.proofs.lemmas.Option.{slice_get_past}
use Rattle.instruction_set.specs.Flags.{flags, flag_number, flag_at}
use Rattle.instruction_set.specs.declared.Flags.{Flags}
use Rattle.instruction_set.specs.declared.Flags.TheVariants.{Carry, Parity, Zero, Sign, Direction, Overflow}

pub flag_back : (f : Flags) → flag_at (flag_number f) ≡ Some f
unfolding flag_at
flag_back Carry = refl
flag_back Parity = refl
flag_back Zero = refl
flag_back Sign = refl
flag_back Direction = refl
flag_back Overflow = refl

pub no_flag : (n : ℕ) → 6 ≤ n → flag_at n ≡ None
unfolding flag_at
no_flag n le = slice_get_past flags n le
