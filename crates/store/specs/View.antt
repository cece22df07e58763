-- The view of one page (RULES 3.15).
use Rattle.std.specs.Prelude.{Option, Some, None, Bool, cond, ◌&&◌, List, [], ◌∷◌, ℕ, ◌*◌, ◌==◌, eqb, length, take, drop}
use Rattle.std.specs.List.{list_all}
use Rattle.utils.specs.Outcome.{Outcome, gives, refuses}
use Rattle.store.specs.Store.{page_size, Store, is_store, pages_in_use, found_in}

-- a lent page of zeros is 4,096 zeros; where this is false, the view is refused with 4 (RULES 7.1)
abbrev pub all_zero : List ℕ → Bool
all_zero z = list_all (λ x. x == 0) z

unfoldable pub zero_page : List ℕ → Bool
zero_page z = eqb (length z) page_size && all_zero z

-- the bytes of the page's slot, or the lent page of zeros if it is absent
abbrev pub view_in : List ℕ → List ℕ → Option ℕ → List ℕ
view_in b z (Some i) = take page_size (drop (page_size * i) b)
view_in b z None = z

-- a refused view is an empty part, and no other is (RULES 7.4)
unfoldable pub view_of : Store → List ℕ → ℕ → List ℕ
view_of s z g = cond (is_store s && zero_page z) (view_in s.bytes z (found_in (pages_in_use s) g)) []

-- its number and values (RULES 9.3): the empty part is refusal 4 (RULES 7.4)
abbrev pub view_outcome : List ℕ → Outcome ℕ
view_outcome [] = refuses 4
view_outcome (b ∷ bs) = gives (b ∷ bs)
