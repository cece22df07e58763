-- The code's tables agree with the list of beginnings. The node with one letter more is sought in the whole list; at a node that is known
-- the checker computes what is left of the search, a choice among the node's own letters, which is the code's. Assumes nothing.
use Rattle.std.proofs.lemmas.Bool.{cases_lt}
use Rattle.std.specs.Prelude.{Option, Some, None, position, ◌==◌}
use Rattle.std.specs.List.{position_from, position_or_len}
use Rattle.std.proofs.lemmas.Iterator.Adapters.{position_from-zero}
use Rattle.std.proofs.lemmas.List.{get_or-map}
use Rattle.std.proofs.Math.Bool.{and-true, and-false, and_assoc}
use Rattle.std.proofs.lemmas.Bool.Decides.{nat_tests}
use mathlib.Core.Bool.{Bool, true, false, cond, not, ◌&&◌, ◌||◌}
use mathlib.Core.List.{List, [], ◌∷◌, ◌++◌, map}
use mathlib.Core.Logic.{⊎_elim}
use mathlib.Core.Path.{◌≡◌, refl, sym, ap, ◌∙◌}
use Prim.Native.Nat.{ℕ, suc, ◌+◌, ◌≤◌, ◌<◌}
use native.Mathlib.Omega.{arith}
use borrow.Author.Tests.{le-ltb, ne_eqb}
use lib.Dec.{T, eqb, ltb, ltb→lt, lt→ltb}
use lib.ListN.{length, get_or}
use Rattle.text_names.specs.Names.{name_of}
use Rattle.reading_names.specs.Nodes.{beginnings, spelt, same, index_in, next_node, register_names, register_of}
use Rattle.instruction_set.specs.declared.Register.{Register}
use Rattle.wire_numbers.specs.Numbers.{register_at}
use Rattle.reading_names.specs.declared.TheConstants.{REGISTERS}
use Rattle.reading_names.proofs.Search.{every_below, at_each}
use Rattle.reading_names.proofs.Spelling.{last_of, beginnings_long, next_inside, next_outside}

-- ---- a text with one letter more
abbrev pub one_more : List ℕ → List ℕ → Bool
one_more [] [] = false
one_more [] (y ∷ []) = true
one_more [] (y ∷ z ∷ t) = false
one_more (x ∷ s) [] = false
one_more (x ∷ s) (y ∷ t) = eqb x y && one_more s t

either_way : (a b : ℕ) → eqb a b ≡ eqb b a
either_way a b = grind (arith, nat_tests)

one_more_lem : (d : ℕ) (s : List ℕ) (b : ℕ) (t : List ℕ) → same (s ++ (b ∷ [])) t ≡ one_more s t && eqb (last_of d t) b
one_more_lem d [] b [] = refl
one_more_lem d [] b (y ∷ []) = and-true (eqb b y) ∙ either_way b y
one_more_lem d [] b (y ∷ z ∷ t) = and-false (eqb b y)
one_more_lem d (x ∷ s) b [] = refl
one_more_lem d (x ∷ s) b (y ∷ t) =
    ap (λ (q : Bool). eqb x y && q) (one_more_lem y s b t) ∙ sym (and_assoc (eqb x y) (one_more s t) (eqb (last_of y t) b))

-- ---- the position of a text and one letter more, past k others
abbrev pub child_in : List ℕ → ℕ → List (List ℕ) → ℕ → Option ℕ
child_in s b [] k = None
child_in s b (t ∷ ts) k = cond (one_more s t) (cond (eqb (last_of 0 t) b) (Some k) (child_in s b ts (k + 1))) (child_in s b ts (k + 1))

child_in_lem : (s : List ℕ) (b : ℕ) (ts : List (List ℕ)) (k : ℕ) → position_from (same (s ++ (b ∷ []))) k ts ≡ child_in s b ts k
child_in_lem s b [] k = refl
child_in_lem s b (t ∷ ts) k = rw (one_more_lem 0 s b t) (go (one_more s t) (eqb (last_of 0 t) b) (child_in_lem s b ts (k + 1)))
  where
    go : (p q : Bool) → position_from (same (s ++ (b ∷ []))) (k + 1) ts ≡ child_in s b ts (k + 1) →
        cond (p && q) (Some k) (position_from (same (s ++ (b ∷ []))) (k + 1) ts)
        ≡ cond p (cond q (Some k) (child_in s b ts (k + 1))) (child_in s b ts (k + 1))
    go true true h = refl
    go true false h = h
    go false q h = h

pub next_in : (n b : ℕ) → T (ltb n 102) → next_node n b ≡ child_in (spelt n) b beginnings 0
next_in n b h =
    next_inside n b (ltb→lt n 102 h)
    ∙ position_from-zero (same (spelt n ++ (b ∷ []))) beginnings
    ∙ child_in_lem (spelt n) b beginnings 0

-- ---- what a match's last arm knows: the node is none of the keys, which stand from the last
abbrev pub is_in : ℕ → List ℕ → Bool
is_in n [] = false
is_in n (k ∷ l) = eqb n k || is_in n l

abbrev pub NoneOf : ℕ → List ℕ → Type 0
NoneOf n [] = Unit {0}
NoneOf n (k ∷ l) = NoneOf n l × (n ≡ k → ⊥)

none_in : (n : ℕ) (l : List ℕ) → NoneOf n l → is_in n l ≡ false
none_in n [] h = refl
none_in n (k ∷ l) h = rw (ne_eqb n k h.1, none_in n l h.0)

-- it is past those below a bound, where these are all among the keys
abbrev pub in_so : List ℕ → ℕ → Bool
in_so keys n = is_in n keys

pub past : (high : ℕ) (keys : List ℕ) (n : ℕ) → T (every_below high (in_so keys)) → NoneOf n keys → high ≤ n
past high keys n t none =
    ⊎_elim
    (λ (l : n < high). absurd (rw (none_in n keys none) at (at_each high (in_so keys) t n l)))
    (λ (g : high ≤ n). g)
    (cases_lt n high)

-- ---- the nodes from `low` on that are none of the keys have no letter more
abbrev no_child : Option ℕ → Bool
no_child None = true
no_child (Some m) = false

none_there : (x : Option ℕ) → T (no_child x) → x ≡ None
none_there None h = refl
none_there (Some m) h = absurd h

abbrev pub leaf_so : ℕ → List ℕ → ℕ → ℕ → Bool
leaf_so low keys b n = ltb n low || (is_in n keys || no_child (child_in (spelt n) b beginnings 0))

pub leaf : (low : ℕ) (keys : List ℕ) (n b : ℕ) → T (every_below 102 (leaf_so low keys b)) → low ≤ n → NoneOf n keys → next_node n b ≡ None
leaf low keys n b t g none =
    ⊎_elim
    (λ (l : n < 102).
    let u = rw (le-ltb n low g, none_in n keys none) at (at_each 102 (leaf_so low keys b) t n l) in
    next_in n b (lt→ltb n 102 l) ∙ none_there (child_in (spelt n) b beginnings 0) u)
    (λ (h : 102 ≤ n). next_outside n b h)
    (cases_lt n 102)

-- ---- the code's table has the register of each beginning
named_by : List ℕ → Option Register
named_by s = register_at (index_in s register_names)

registers_are : REGISTERS ≡ map named_by beginnings
unfolding named_by register_at index_in name_of beginnings
registers_are = refl

pub node_register : (n : ℕ) → n < 102 → get_or REGISTERS n None ≡ register_of n
unfolding named_by spelt register_of
node_register n h =
    ap (λ (l : List (Option Register)). get_or l n None) registers_are
    ∙ get_or-map named_by beginnings n [] None (omega (arith, beginnings_long, h))

-- ---- a node by the place of its letter among the letters
place_from : (p : ℕ → Bool) (s : List ℕ) (n : ℕ) →
    position_from p n s ≡ cond (ltb (position_or_len p s) (length s)) (Some (n + position_or_len p s)) None
place_from p [] n = refl
place_from p (x ∷ s) n = go (p x) (place_from p s (n + 1))
  where
    go : (t : Bool) →
        position_from p (n + 1) s ≡ cond (ltb (position_or_len p s) (length s)) (Some (n + 1 + position_or_len p s)) None →
        cond t (Some n) (position_from p (n + 1) s)
        ≡ cond (ltb (cond (not t) (1 + position_or_len p s) 0) (suc (length s))) (Some (n + cond (not t) (1 + position_or_len p s) 0)) None
    go true rest = grind (arith, nat_tests)
    go false rest = grind (arith, nat_tests, rest)

pub child_place : (n b : ℕ) (s : List ℕ) (i : ℕ) → position (λ x. x == b) s ≡ Some i → position_from (λ x. x == b) n s ≡ Some (n + i)
child_place n b s i e = grind (arith, nat_tests, place_from (λ x. x == b) s n)

pub child_nowhere : (n b : ℕ) (s : List ℕ) → position (λ x. x == b) s ≡ None → position_from (λ x. x == b) n s ≡ None
child_nowhere n b s e = grind (arith, nat_tests, place_from (λ x. x == b) s n)
