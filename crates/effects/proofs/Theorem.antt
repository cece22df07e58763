-- Demand 3: the theorem on forgotten readers for the tabled calls (RULES 8.4), and exposed as the demand says it. The theorem is the
-- generic one with what each call owes. Assumes nothing.
use mathlib.Core.Bool.{true, false}
use mathlib.Core.List.{List, [], ◌∷◌}
use mathlib.Core.Path.{◌≡◌, refl, sym, ◌∙◌}
use Prim.Native.Nat.{ℕ, ◌≤◌}
use native.Mathlib.Omega.{arith}
use Rattle.effects.specs.Exposed.{exposed, rewritten, end, Forgotten, Exposes}
use Rattle.effects.specs.Places.{place, WellTyped, Act, State, does, reads, rewrites, reaches_memory, place_in, store_in, WellTypedState}
use Rattle.effects.specs.Rows.{reads_of, rewrites_of}
use Rattle.effects.proofs.Forgotten.{forgotten, kept, exposes, exposed_if}
use Rattle.effects.proofs.Inside.{reads_inside, rewrites_inside, none_above}
use Rattle.effects.proofs.Owed.{owed}
use Rattle.effects.proofs.Places.{place_rest}

-- two machines start with equal stores and agree on all exposed places
pub forgotten_readers : (acts : List Act) (x y : State) → WellTyped x.machine → WellTyped y.machine → x.store ≡ y.store
    → ((p : ℕ) → exposed reads rewrites acts p ≡ true → place x.machine p ≡ place y.machine p)
    → Forgotten reads rewrites does store_in place_in acts x y
forgotten_readers acts x y gx gy s h = forgotten reads rewrites reaches_memory does store_in place_in WellTypedState owed acts x y gx gy s h

-- a machine of Rattle stays one
pub stays_well_typed : (a : Act) (x : State) → WellTyped x.machine → WellTyped (does a x).after.machine
stays_well_typed a x g = owed.good a x g

pub ends_well_typed : (acts : List Act) (x : State) → WellTyped x.machine → WellTyped (end does acts x).machine
unfolding end
ends_well_typed [] x g = g
ends_well_typed (a ∷ rest) x g = ends_well_typed rest (does a x).after (stays_well_typed a x g)

-- exposed is what the demand says, both ways
pub exposed_says : (acts : List Act) (p : ℕ) → exposed reads rewrites acts p ≡ true → Exposes reads rewrites acts p
exposed_says acts p h = exposes reads rewrites acts p h

pub exposed_where : (acts : List Act) (p : ℕ) → Exposes reads rewrites acts p → exposed reads rewrites acts p ≡ true
exposed_where acts p e = exposed_if reads rewrites acts p e

-- ---- "a place" is one of the 182: no call reads or rewrites the other bits of rflags, gdt or idt
pub none_exposed_above : (acts : List Act) (p : ℕ) → 182 ≤ p → exposed reads rewrites acts p ≡ false
unfolding exposed reads rewrites
none_exposed_above [] p h = refl
none_exposed_above (a ∷ rest) p h =
    simp (
      none_above (reads_of a.call) p (reads_inside a.call) h,
      none_above (rewrites_of a.call) p (rewrites_inside a.call)
          h,
    ) (none_exposed_above rest p h)

pub none_rewritten_above : (acts : List Act) (p : ℕ) → 182 ≤ p → rewritten rewrites acts p ≡ false
unfolding rewritten rewrites
none_rewritten_above [] p h = refl
none_rewritten_above (a ∷ rest) p h =
    simp (none_above (rewrites_of a.call) p (rewrites_inside a.call) h) (none_rewritten_above rest p h)

-- so that whatever the list, the rest of the machine keeps what it had
pub rest_kept : (acts : List Act) (x : State) (p : ℕ) → WellTyped x.machine → 182 ≤ p
    → place (end does acts x).machine p ≡ place x.machine p
rest_kept acts x p g h =
    kept reads rewrites reaches_memory does store_in place_in WellTypedState owed acts x p g (none_rewritten_above acts p h)

pub tables_kept : (acts : List Act) (x : State) → WellTyped x.machine
    → ((end does acts x).machine.gdt ≡ x.machine.gdt) × ((end does acts x).machine.idt ≡ x.machine.idt)
tables_kept acts x g = (
  sym (place_rest (end does acts x).machine 186 (omega arith)) ∙ rest_kept acts x 186 g (omega arith)
      ∙ place_rest x.machine 186 (omega arith),
  sym (place_rest (end does acts x).machine 187 (omega arith)) ∙ rest_kept acts x 187 g (omega arith)
      ∙ place_rest x.machine 187 (omega arith),
)
