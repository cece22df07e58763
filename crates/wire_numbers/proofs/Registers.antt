-- What stands at a number: one of the list, or nothing past its end. And the lists agree with the numbers: the register at position n has
-- number n, as the numbers of the list are seen to be 0, 1, .. by computation, and each size stands at its number, by cases. Assumes
-- nothing.
use Rattle.std.specs.Prelude.{Some, None}
use Rattle.std.proofs.lemmas.Option.{slice_get-get_or, slice_get_past}
use mathlib.Core.List.{List, [], ◌∷◌, map}
use mathlib.Core.Path.{◌≡◌, refl, sym, ap, ◌∙◌}
use Prim.Native.Nat.{ℕ, zero, suc, ◌+◌, ◌<◌, ◌≤◌}
use native.Mathlib.Nat.{zero-add}
use native.Mathlib.Omega.{arith}
use lib.ListN.{get_or, get_or-map}
use Rattle.instruction_set.specs.declared.ArgumentSize.{ArgumentSize}
use Rattle.instruction_set.specs.declared.ArgumentSize.TheVariants.{Bit64, Bit32, Bit16, Bit8}
use Rattle.instruction_set.specs.declared.Register.TheVariants.{RAX}
use Rattle.arithmetic.specs.declared.Operation.TheVariants.{Add, AddWithCarry, Subtract, SubtractWithBorrow, Compare}
use Rattle.wire_numbers.specs.Numbers.{registers, register_number, register_at, size_number, size_at, operation_at}

-- n numbers from k on
abbrev up_from : ℕ → ℕ → List ℕ
up_from k zero = []
up_from k (suc n) = k ∷ up_from (suc k) n

up_at : (k n i : ℕ) → i < n → get_or (up_from k n) i 0 ≡ k + i
up_at k zero i lt = absurd (omega (arith, lt))
up_at k (suc n) zero lt = omega arith
up_at k (suc n) (suc i) lt = let e = up_at (suc k) n i (omega (arith, lt)) in omega (arith, e)

pub number_at : (n : ℕ) → n < 80 → register_number (get_or registers n RAX) ≡ n
unfolding register_number
number_at n lt =
    let numbers : map register_number registers ≡ up_from 0 80 = refl in
    sym (get_or-map register_number registers n RAX) ∙ ap (λ (l : List ℕ). get_or l n 0) numbers ∙ up_at 0 80 n lt ∙ zero-add n

pub stands : (n : ℕ) → n < 80 → register_at n ≡ Some (get_or registers n RAX)
unfolding register_at
stands n lt = slice_get-get_or registers n RAX lt

pub nothing_past : (n : ℕ) → 80 ≤ n → register_at n ≡ None
unfolding register_at
nothing_past n le = slice_get_past registers n le

pub no_size : (n : ℕ) → 4 ≤ n → size_at n ≡ None
unfolding size_at
no_size n le = slice_get_past (Bit64 ∷ Bit32 ∷ Bit16 ∷ Bit8 ∷ []) n le

pub no_operation : (n : ℕ) → 5 ≤ n → operation_at n ≡ None
unfolding operation_at
no_operation n le = slice_get_past (Add ∷ AddWithCarry ∷ Subtract ∷ SubtractWithBorrow ∷ Compare ∷ []) n le

pub size_stands : (z : ArgumentSize) → size_at (size_number z) ≡ Some z
unfolding size_at
size_stands Bit64 = refl
size_stands Bit32 = refl
size_stands Bit16 = refl
size_stands Bit8 = refl
