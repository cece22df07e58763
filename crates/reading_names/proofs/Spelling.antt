-- What the nodes spell, for the crates above: each step adds its letter, which is no comma and no parenthesis; the walk over a register's
-- name stays among the beginnings and ends at the node that names it; and each beginning goes on to some name. So the list has the
-- beginnings of the names, and no other text. What is so at every node or register is a test that the checker computes. Assumes nothing.
use Rattle.std.proofs.lemmas.Bool.{cases_lt}
use Rattle.std.specs.Prelude.{Option, Some, None, position}
use mathlib.Core.Bool.{Bool, true, false, cond, not, ◌&&◌}
use mathlib.Core.List.{List, [], ◌∷◌, ◌++◌, append-nil, append_assoc}
use mathlib.Core.Logic.{⊎_elim}
use mathlib.Core.Path.{◌≡◌, refl, sym, ap, subst, ◌∙◌}
use Prim.Native.Nat.{ℕ, ◌≤◌, ◌<◌}
use native.Mathlib.Omega.{arith}
use borrow.Author.Tests.{lt-ltb, le-ltb, eq-eqb}
use lib.Dec.{T, eqb, eqb→eq, ltb, ltb→lt}
use lib.ListN.{length, get_or, drop, get_or-eq_default}
use mir.Facts.{and_yes}
use Rattle.std.specs.Option.{option_and_then}
use Rattle.std.proofs.lemmas.Option.{none-some, same_Some}
use Rattle.std.proofs.lemmas.List.{get_or-map}
use Rattle.std.proofs.lemmas.List.Quantifiers.{position-Some}
use Rattle.instruction_set.proofs.Arms.{all}
use Rattle.instruction_set.specs.contracts.Register.{enum}
use Rattle.instruction_set.specs.declared.Register.{Register}
use Rattle.instruction_set.specs.declared.Register.TheVariants.{RAX}
use Rattle.wire_numbers.proofs.Registers.{stands, nothing_past}
use Rattle.wire_numbers.specs.Numbers.{registers, register_at}
use Rattle.text_names.proofs.OneName.{name_one}
use Rattle.text_names.specs.Names.{name_of}
use Rattle.reading_names.specs.Nodes.{beginnings, spelt, same, index_in, next_node, register_names, register_of}
use Rattle.reading_names.proofs.Search.{every_below, at_each, place_holds, same_eq}

pub beginnings_long : length beginnings ≡ 102
unfolding beginnings
beginnings_long = refl

-- ---- one letter more
pub next_inside : (n b : ℕ) → n < 102 → next_node n b ≡ position (same (spelt n ++ (b ∷ []))) beginnings
unfolding next_node
next_inside n b h = rw (lt-ltb n 102 h)

pub next_outside : (n b : ℕ) → 102 ≤ n → next_node n b ≡ None
unfolding next_node
next_outside n b h = rw (le-ltb n 102 h)

pub from_inside : (n b m : ℕ) → next_node n b ≡ Some m → n < 102
from_inside n b m e =
    ⊎_elim (λ (l : n < 102). l) (λ (g : 102 ≤ n). absurd (none-some m (sym (next_outside n b g) ∙ e))) (cases_lt n 102)

-- what is found is a node, with the letters
module _ (n b m : ℕ) (e : next_node n b ≡ Some m) where
  found : (m < length beginnings) × (same (spelt n ++ (b ∷ [])) (spelt m) ≡ true)
  unfolding spelt
  found =
      let at = position-Some (same (spelt n ++ (b ∷ []))) beginnings m [] (sym (next_inside n b (from_inside n b m e)) ∙ e) in
      (at.0, at.1)

  pub next_below : m < 102
  next_below = omega (arith, found.0, beginnings_long)

  pub one_letter_more : spelt m ≡ spelt n ++ (b ∷ [])
  one_letter_more = sym (same_eq (spelt n ++ (b ∷ [])) (spelt m) (subst T (sym found.1) tt))

pub next_none : (n b : ℕ) → ((m : ℕ) → next_node n b ≡ Some m → ⊥) → next_node n b ≡ None
next_none n b f = go (next_node n b) refl
  where
    go : (x : Option ℕ) → next_node n b ≡ x → x ≡ None
    go None e = refl
    go (Some m) e = absurd (f m e)

pub nothing_spelt : spelt 0 ≡ []
unfolding spelt beginnings
nothing_spelt = refl

-- ---- the last letter
abbrev pub last_of : ℕ → List ℕ → ℕ
last_of d [] = d
last_of d (x ∷ s) = last_of x s

last_letter : (d : ℕ) (s : List ℕ) (b : ℕ) → last_of d (s ++ (b ∷ [])) ≡ b
last_letter d [] b = refl
last_letter d (x ∷ s) b = last_letter x s b

pub next_letter : (n b m : ℕ) → next_node n b ≡ Some m → last_of 0 (spelt m) ≡ b
next_letter n b m e = ap (last_of 0) (one_letter_more n b m e) ∙ last_letter 0 (spelt n) b

-- no name goes on with what is the last letter of no beginning
abbrev pub unlike : ℕ → ℕ → Bool
unlike b n = not (eqb (last_of 0 (spelt n)) b)

pub stops : (b : ℕ) → T (every_below 102 (unlike b)) → (n : ℕ) → next_node n b ≡ None
stops b t n =
    next_none n b
    (λ m e. rw (next_letter n b m e, eq-eqb b b refl) at (at_each 102 (unlike b) t m (next_below n b m e)))

pub no_comma : (n : ℕ) → next_node n 44 ≡ None
unfolding spelt beginnings
no_comma n = stops 44 tt n

pub no_close : (n : ℕ) → next_node n 41 ≡ None
unfolding spelt beginnings
no_close n = stops 41 tt n

-- ---- the register of a node
-- the register at a text's position among the names has that name
named_at : (s : List ℕ) (k : ℕ) → k < 80 → get_or register_names k [] ≡ s → s ≡ name_of (get_or registers k RAX)
named_at s k l e = sym e ∙ get_or-map name_of registers k RAX [] l

named_so : (s : List ℕ) (r : Register) → register_at (index_in s register_names) ≡ Some r → s ≡ name_of r
named_so s r e =
    let k = index_in s register_names in
    ⊎_elim
    (λ (l : k < 80).
    named_at s k l (place_holds s register_names l) ∙ ap name_of (same_Some (get_or registers k RAX) r (sym (stands k l) ∙ e)))
    (λ (g : 80 ≤ k). absurd (none-some r (sym (nothing_past k g) ∙ e)))
    (cases_lt k 80)

pub spells_name : (n : ℕ) (r : Register) → register_of n ≡ Some r → spelt n ≡ name_of r
unfolding register_of
spells_name n r e = named_so (spelt n) r e

pub none_outside : (n : ℕ) → 102 ≤ n → register_of n ≡ None
unfolding register_of spelt index_in name_of register_at
none_outside n h =
    ap (λ (s : List ℕ). register_at (index_in s register_names)) (get_or-eq_default beginnings [] (omega (arith, beginnings_long, h)))

abbrev pub present : Option Register → Bool
present None = false
present (Some r) = true

is_there : (x : Option Register) → T (present x) → (r : Register) × (x ≡ Some r)
is_there None h = absurd h
is_there (Some r) h = (r, refl)

-- the node of its name
unfoldable pub node_of : Register → ℕ
node_of r = index_in (name_of r) beginnings

node_so : Register → Bool
unfolding node_of index_in name_of beginnings register_at
node_so r = ltb (node_of r) 102 && present (register_at (index_in (name_of r) register_names))

all_nodes : (r : Register) → T (node_so r)
unfolding node_so node_of index_in name_of beginnings register_at
all_nodes r = all enum node_so tt r

pub node_below : (r : Register) → node_of r < 102
unfolding node_so
node_below r =
    let named = present (register_at (index_in (name_of r) register_names)) in
    ltb→lt (node_of r) 102 (and_yes (ltb (node_of r) 102) named (all_nodes r)).0

pub node_spelt : (r : Register) → spelt (node_of r) ≡ name_of r
unfolding node_of spelt
node_spelt r = place_holds (name_of r) beginnings (omega (arith, node_below r, beginnings_long))

pub register_at_node : (r : Register) → register_of (node_of r) ≡ Some r
unfolding register_of node_so
register_at_node r =
    let x = register_at (index_in (name_of r) register_names) in
    let there = is_there x (and_yes (ltb (node_of r) 102) (present x) (all_nodes r)).1 in
    let e = named_so (name_of r) there.0 there.1 in
    ap (λ (s : List ℕ). register_at (index_in s register_names)) (node_spelt r) ∙ there.1 ∙ ap Some (sym (name_one r there.0 e))

-- ---- walks over letters: the node that is reached, if some name begins so after each letter
abbrev pub walked : List ℕ → ℕ → Option ℕ
walked [] n = Some n
walked (b ∷ t) n = option_and_then (walked t) (next_node n b)

abbrev at_node : Option ℕ → ℕ → Bool
at_node None k = false
at_node (Some n) k = eqb n k

is_at : (x : Option ℕ) (k : ℕ) → T (at_node x k) → x ≡ Some k
is_at None k h = absurd h
is_at (Some n) k h = ap Some (eqb→eq n k h)

name_so : Register → Bool
unfolding next_node spelt beginnings name_of node_of index_in
name_so r = at_node (walked (name_of r) 0) (node_of r)

all_names : (r : Register) → T (name_so r)
unfolding name_so next_node spelt beginnings name_of node_of index_in
all_names r = all enum name_so tt r

pub name_walked : (r : Register) → walked (name_of r) 0 ≡ Some (node_of r)
unfolding name_so
name_walked r = is_at (walked (name_of r) 0) (node_of r) (all_names r)

-- ---- what completes a beginning: the rest of the first register's name that begins so, and nothing where it is a name
abbrev pub begins : List ℕ → List ℕ → Bool
begins [] t = true
begins (x ∷ s) [] = false
begins (x ∷ s) (y ∷ t) = eqb x y && begins s t

abbrev pub completion : List ℕ → List Register → List ℕ
completion s [] = []
completion s (r ∷ rs) = cond (begins s (name_of r)) (drop (length s) (name_of r)) (completion s rs)

unfoldable pub rest_of : ℕ → List ℕ
rest_of n = cond (present (register_of n)) [] (completion (spelt n) registers)

abbrev names_one : Option ℕ → Bool
names_one None = false
names_one (Some m) = present (register_of m)

completes_so : ℕ → Bool
unfolding rest_of register_of register_at next_node index_in spelt beginnings name_of
completes_so n = names_one (walked (rest_of n) n)

all_complete : T (every_below 102 completes_so)
unfolding completes_so rest_of register_of register_at next_node index_in spelt beginnings name_of
all_complete = tt

-- a node at which a name is whole
pub record Whole (x : Option ℕ) : Type 0 where
  pub node : ℕ
  pub register : Register
  pub reached : x ≡ Some node
  pub named : register_of node ≡ Some register

whole : (x : Option ℕ) → T (names_one x) → Whole x
whole None h = absurd h
whole (Some m) h = let r = is_there (register_of m) h in record { node = m; register = r.0; reached = refl; named = r.1 }

pub rest_named : (n : ℕ) → n < 102 → Whole (walked (rest_of n) n)
unfolding completes_so
rest_named n h = whole (walked (rest_of n) n) (at_each 102 completes_so all_complete n h)

-- ---- the list is the beginnings of the names: each is there, and each that is there goes on to a name
walk_spelt : (t : List ℕ) (n m : ℕ) → walked t n ≡ Some m → spelt m ≡ spelt n ++ t
walk_spelt [] n m e = ap spelt (sym (same_Some n m e)) ∙ sym (append-nil (spelt n))
walk_spelt (b ∷ t) n m e = go (next_node n b) refl (λ (k : ℕ). walk_spelt t k m) e
  where
    go : (x : Option ℕ) → next_node n b ≡ x → ((k : ℕ) → walked t k ≡ Some m → spelt m ≡ spelt k ++ t) →
        option_and_then (walked t) x ≡ Some m → spelt m ≡ spelt n ++ (b ∷ t)
    go None f rec g = absurd (none-some m g)
    go (Some k) f rec g =
        rec k g ∙ ap (λ (s : List ℕ). s ++ t) (one_letter_more n b k f) ∙ append_assoc (spelt n) (b ∷ []) t

walked_front : (a c : List ℕ) (n m : ℕ) → walked (a ++ c) n ≡ Some m → (k : ℕ) × (walked a n ≡ Some k)
walked_front [] c n m e = (n, refl)
walked_front (b ∷ a) c n m e = go (next_node n b) (λ (k : ℕ). walked_front a c k m) e
  where
    go : (x : Option ℕ) → ((k : ℕ) → walked (a ++ c) k ≡ Some m → (j : ℕ) × (walked a k ≡ Some j)) →
        option_and_then (walked (a ++ c)) x ≡ Some m → (j : ℕ) × (option_and_then (walked a) x ≡ Some j)
    go None rec g = absurd (none-some m g)
    go (Some k) rec g = rec k g

pub beginning : (r : Register) (a c : List ℕ) → name_of r ≡ a ++ c → (n : ℕ) × (walked a 0 ≡ Some n) × (spelt n ≡ a)
beginning r a c e =
    let front = walked_front a c 0 (node_of r) (rw e at (name_walked r)) in
    (front.0, front.1, walk_spelt a 0 front.0 front.1 ∙ ap (λ (s : List ℕ). s ++ a) nothing_spelt)

pub begins_name : (n : ℕ) → n < 102 → (r : Register) × (spelt n ++ rest_of n ≡ name_of r)
begins_name n h =
    let whole = rest_named n h in (
      whole.register,
      sym (walk_spelt (rest_of n) n whole.node whole.reached) ∙ spells_name whole.node whole.register whole.named,
    )
