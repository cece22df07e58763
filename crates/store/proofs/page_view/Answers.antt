-- `page_view` gives `view_of`: a slot found lies within the bytes, so that its part can be lent.
use Rattle.store.proofs.View.{view_at}
use Rattle.store.proofs.Read.{sound_facts, slot_held}
use Rattle.std.proofs.Common.{◌≡◌, ℕ, ◌+◌, ◌*◌, ◌≤◌, Bool, true, Some, length}
use Rattle.store.specs.Store.{Store, is_store, pages_in_use, found_in}
use native.Mathlib.Omega.{arith}
use mathlib.Core.Path.{sym, ◌∙◌}
use Rattle.store.proofs.page_view.Goals as goal

-- a slot found lies within the bytes
held : (s : Store) (g i : ℕ) (b : Bool) → b ≡ is_store s → b ≡ true → Some i ≡ found_in (pages_in_use s) g
    → 4096 * i + 4096 ≤ length s.bytes
held s g i b e t q = slot_held s (sound_facts s (sym e ∙ t)) g i (sym q)

pub overflow_mul-result : goal.overflow_mul-result
overflow_mul-result c = let h = held _ _ _ _ c.is_store.ensures c.if-not-is_store.false c.in-Some.ensures in omega arith

pub overflow_mul-result-in-Some : goal.overflow_mul-result-in-Some
overflow_mul-result-in-Some c = let h = held _ _ _ _ c.is_store.ensures c.if-not-is_store.false c.in-Some.ensures in omega arith

pub overflow_add-result : goal.overflow_add-result
overflow_add-result c = let h = held _ _ _ _ c.is_store.ensures c.if-not-is_store.false c.in-Some.ensures in omega arith

pub slice_bounds-result-end-in-Some : goal.slice_bounds-result-end-in-Some
slice_bounds-result-end-in-Some c = let h = held _ _ _ _ c.is_store.ensures c.if-not-is_store.false c.in-Some.ensures in omega arith

pub returns-in-Some : goal.returns-in-Some
returns-in-Some c =
    view_at _ _ _ _ _ (sym c.is_store.ensures ∙ c.if-not-is_store.false) (sym c.is_zero_page.ensures ∙ c.if-not-is_zero_page.false)
    c.find_page.ensures c.in-Some.is
