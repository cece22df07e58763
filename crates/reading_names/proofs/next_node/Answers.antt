-- `next_node` meets its contract: the nodes that are in no arm have no letter more. Assumes nothing.
use mathlib.Core.List.{List, [], ◌∷◌}
use mathlib.Core.Path.{sym, ◌∙◌}
use native.Mathlib.Omega.{arith}
use borrow.Author.Rules.{rules}
use Prim.Native.Nat.{ℕ}
use Rattle.reading_names.specs.Nodes.{beginnings, spelt}
use Rattle.reading_names.proofs.Tables.{next_in, leaf}
use Rattle.reading_names.proofs.next_node.Goals as goal

-- the arms' nodes, from the last
abbrev keys : List ℕ
keys =
    66 ∷ 65 ∷ 64 ∷ 63 ∷ 62 ∷ 61 ∷ 44 ∷ 43 ∷ 42 ∷ 41 ∷ 40 ∷ 39 ∷ 38 ∷ 37 ∷ 36 ∷ 35 ∷ 34 ∷ 31
    ∷ 30 ∷ 29 ∷ 28 ∷ 27 ∷ 23 ∷ 19 ∷ 15 ∷ 9 ∷ 8 ∷ 7 ∷ 6 ∷ 5 ∷ 4 ∷ 3 ∷ 2 ∷ 1 ∷ 0 ∷ []

pub returns-in_default : goal.returns-in_default
unfolding spelt beginnings
returns-in_default c = sym (leaf 0 keys c.args.node c.args.b tt (omega arith) (search rules))

pub returns-in-0 : goal.returns-in-0
unfolding spelt beginnings
returns-in-0 c = rw c.in-0.is (c.child.ensures ∙ sym (next_in 0 c.args.b tt))

pub returns-in-8 : goal.returns-in-8
unfolding spelt beginnings
returns-in-8 c = rw c.in-8.is (c.child-in-8.ensures ∙ sym (next_in 8 c.args.b tt))
