-- What only the contracts of private methods cite: a reader of the public contract needs none of it.
use Rattle.std.specs.Prelude.{◌≡◌}
use Rattle.store.specs.Store.{Store, store_of}
use Rattle.writes.specs.declared.pages.Slots.{Slots}

-- the store that the lent slices are
abbrev pub store_in : Slots → Store
store_in slots = store_of slots.dir.now slots.bytes.now slots.used

-- the slices are those that were lent, so that what is written in them shows
pub record SameSlices (a b : Slots) : Type 0 where
  pub dir : b.dir.ghost_name ≡ a.dir.ghost_name
  pub bytes : b.bytes.ghost_name ≡ a.bytes.ghost_name
