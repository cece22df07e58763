-- RULES 8.6 for the calls of the table: neighbours that are not dependent may be exchanged. The generic theorem, with what each call owes
-- and with a machine being its places; and the test by the 182 places says of every place what the theorem wants. Assumes nothing.
use mathlib.Core.Bool.{true, false, ◌&&◌, ◌||◌, and_comm, or_comm, or_assoc}
use mathlib.Core.List.{List}
use mathlib.Core.Logic.{◌⊎◌, inl, inr}
use mathlib.Core.Path.{◌≡◌}
use Prim.Native.Nat.{ℕ, ◌<◌}
use native.Mathlib.Decide.{dec_lt}
use native.Mathlib.Omega.{arith}
use Rattle.std.proofs.lemmas.Bool.{both_ways, cases_Bool, and_parts, and_from, and_left, or_left, or_right, or_parts, true_from_ne_false}
use Rattle.calls.specs.declared.Call.{Call}
use Rattle.effects.specs.Exposed.{end}
use Rattle.effects.specs.Places.{place, WellTyped, Act, State, does, reads, rewrites, reaches_memory, place_in, store_in, WellTypedState}
use Rattle.effects.specs.Rows.{rewrites_of, reaches, in_spans}
use Rattle.effects.proofs.Inside.{rewrites_inside, none_above}
use Rattle.effects.proofs.Owed.{owed}
use Rattle.effects.proofs.Theorem.{ends_well_typed}
use Rattle.effects.proofs.Whole.{whole}
use Rattle.neighbours.specs.Dependent.{common, touches, meets, dependent, Meets, Dependent, forth, back, memory}
use Rattle.neighbours.specs.Swapped.{Swapped, Exchanged}
use Rattle.neighbours.proofs.Common.{some_found, some_none}
use Rattle.neighbours.proofs.Neighbours.{neighbours, exchanged}
use Rattle.neighbours.proofs.Parted.{Independent, nothing_aside}

-- ---- what the test says of every place: past the 182 no call rewrites any
unmet : (c d : Call) → meets c d ≡ false → (p : ℕ) → (in_spans (rewrites_of c) p && touches d p) ≡ false
unfolding meets common
unmet c d h p = go (dec_lt p 182)
  where
    go : Dec (p < 182) → (in_spans (rewrites_of c) p && touches d p) ≡ false
    go (yes l) = some_none 182 (λ q. in_spans (rewrites_of c) q && touches d q) p h l
    go (no l) = and_left _ (touches d p) (none_above (rewrites_of c) p (rewrites_inside c) (omega (arith, l)))

independent : (a b : Act) → dependent a.call b.call ≡ false → Independent reads rewrites reaches_memory a b
unfolding dependent reads rewrites
independent a b h =
    let c = a.call in
    let d = b.call in
    let rest = (or_parts (meets c d) (meets d c || reaches c && reaches d) h).1 in
    record {
      forth = unmet c d (or_parts (meets c d) (meets d c || reaches c && reaches d) h).0;
      back = unmet d c (or_parts (meets d c) (reaches c && reaches d) rest).0;
      one_only = (or_parts (meets d c) (reaches c && reaches d) rest).1;
    }

-- ---- a state is its store, what is aside (today nothing) and its places
whole_state : (x y : State) → WellTyped x.machine → WellTyped y.machine → x.store ≡ y.store → ◌≡◌ {A = Unit {0}} tt tt
    → ((p : ℕ) → place x.machine p ≡ place y.machine p) → x ≡ y
whole_state x y gx gy s aside same =
    let m : x.machine ≡ y.machine = whole x.machine y.machine gx gy same in
    λ i. record { machine = m i; store = s i }

-- lane 0 of CR3, which every call that walks reads
abbrev cr3_place : ℕ
cr3_place = 152

pub neighbours_swap : (a b : Act) (x : State) → WellTyped x.machine → dependent a.call b.call ≡ false → Swapped does a b x
neighbours_swap a b x g h =
    neighbours reads rewrites reaches_memory does store_in (λ y. tt) place_in WellTypedState cr3_place tt (λ c y. false)
    (nothing_aside reads rewrites reaches_memory does store_in place_in WellTypedState cr3_place owed) whole_state a b x g
    (independent a b h)

-- wherever in a list the two stand
pub neighbours_exchange : (before : List Act) (a b : Act) (after : List Act) (x : State) → WellTyped x.machine
    → dependent a.call b.call ≡ false
    → Exchanged does before a b after x
neighbours_exchange before a b after x g h =
    exchanged does before a b after x (neighbours_swap a b (end does before x) (ends_well_typed before x g) h)

-- it does not matter which of the two comes first
pub dependent_either_way : (c d : Call) → dependent c d ≡ dependent d c
unfolding dependent
dependent_either_way c d =
    rw (and_comm (reaches c) (reaches d), ← or_assoc (meets c d) (meets d c), or_comm (meets c d) (meets d c), or_assoc (meets d c))

-- ---- the test in the rule's words (RULES 8.6), both ways
met : (c d : Call) → meets c d ≡ true → Meets c d
unfolding meets common
met c d h =
    let w = some_found 182 (λ p. in_spans (rewrites_of c) p && touches d p) h in
    record {
      at = w.at;
      rewrites = (and_parts (in_spans (rewrites_of c) w.at) (touches d w.at) w.has).0;
      touched = (and_parts (in_spans (rewrites_of c) w.at) (touches d w.at) w.has).1;
    }

meets_if : (c d : Call) → Meets c d → meets c d ≡ true
meets_if c d m =
    true_from_ne_false (meets c d)
    (λ f. both_ways (in_spans (rewrites_of c) m.at && touches d m.at) (unmet c d f m.at) (and_from _ _ m.rewrites m.touched))

pub dependent_says : (c d : Call) → dependent c d ≡ true → Dependent c d
unfolding dependent
dependent_says c d h = go (cases_Bool (meets c d)) (cases_Bool (meets d c))
  where
    go : (meets c d ≡ true) ⊎ (meets c d ≡ false) → (meets d c ≡ true) ⊎ (meets d c ≡ false) → Dependent c d
    go (inl t) u = forth (met c d t)
    go (inr f) (inl t) = back (met d c t)
    go (inr f) (inr e) =
        let m : (reaches c && reaches d) ≡ true = rw (f, e) at h in
        memory (and_parts (reaches c) (reaches d) m).0 (and_parts (reaches c) (reaches d) m).1

pub dependent_where : (c d : Call) → Dependent c d → dependent c d ≡ true
unfolding dependent
dependent_where c d (forth m) = or_left (meets c d) (meets d c || reaches c && reaches d) (meets_if c d m)
dependent_where c d (back m) =
    or_right (meets c d) (meets d c || reaches c && reaches d) (or_left (meets d c) (reaches c && reaches d) (meets_if d c m))
dependent_where c d (memory r s) =
    or_right (meets c d) (meets d c || reaches c && reaches d) (or_right (meets d c) (reaches c && reaches d) (and_from _ _ r s))
