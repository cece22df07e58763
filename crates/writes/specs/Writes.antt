-- What a write at a physical address leaves: all bytes written (RULES 3.9), or nothing, and then how many slots lack (RULES 7.5).
use Rattle.std.specs.Prelude.{Result, Ok, Err, is_ok, ◌≡◌, Bool, true, false, cond, ◌&&◌, List, ℕ, length, get_or}
use Rattle.store.specs.Store.{Store, is_store, slots_suffice, slots_lacking, written}
use Rattle.writes.specs.declared.NotWritten.{NotWritten}
use Rattle.writes.specs.declared.NotWritten.TheVariants.{NoStore, Lacking}

abbrev pub byte_of : List ℕ → ℕ → ℕ
byte_of d k = get_or d k 0

-- n bytes at physical p can be written: into a store (RULES 3.5), whose slots suffice (RULES 3.9)
unfoldable pub has_room : Store → ℕ → ℕ → Bool
has_room s p n = is_store s && slots_suffice s p n

-- how many slots lack for them (RULES 7.5); what is no store is not counted
unfoldable pub slots_short : Store → ℕ → ℕ → ℕ
slots_short s p n = cond (is_store s) (slots_lacking s p n) 0

-- whether an answer says that the lent slices are a store (RULES 3.5)
abbrev pub found_store : Result ℕ NotWritten → Bool
found_store (Ok used) = true
found_store (Err NoStore) = false
found_store (Err (Lacking k)) = true

-- how many slots an answer says to lack: an accepted one says none, nor does one that there is no store
abbrev pub lacking_of : Result ℕ NotWritten → ℕ
lacking_of (Ok used) = 0
lacking_of (Err NoStore) = 0
lacking_of (Err (Lacking k)) = k

-- the bytes d are written at physical p where they can be, and t is the store afterwards; where not, the answer says why
pub record Stored (s t : Store) (p : ℕ) (d : List ℕ) (r : Result ℕ NotWritten) : Type 0 where
  pub told : is_ok r ≡ has_room s p (length d)
  pub sound : found_store r ≡ is_store s
  pub short : lacking_of r ≡ slots_short s p (length d)
  pub store : t ≡ cond (has_room s p (length d)) (written s p (byte_of d) (length d)) s
