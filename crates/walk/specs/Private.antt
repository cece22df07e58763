-- What only the contracts of private functions cite: a reader of the public contracts needs none of it.
use Rattle.store.specs.Store.{Store, store_of}
use Rattle.walk.specs.declared.read.Pages.{Pages}

-- the store that the tested slices are
abbrev pub store_in : Pages → Store
store_in pages = store_of pages.dir.now pages.bytes.now pages.used
