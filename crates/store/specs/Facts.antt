-- What only laws, loops and the contracts of private functions cite, here and above: a reader of the public contracts needs none of it.
use Rattle.std.specs.Prelude.{◌≡◌, ℕ, ◌+◌, ◌*◌, ◌≤◌, ◌<◌, length}
use Rattle.store.specs.Store.{page_size, Store, pages_in_use, found_in, slots_needed}

-- `is_store` as facts (RULES 3.5)
pub record IsStore (s : Store) : Type 0 where
  pub small : length s.dir ≤ 65536
  pub fits : s.used ≤ length s.dir
  pub sized : length s.bytes ≡ page_size * length s.dir

-- page g has a slot, or there is one for it
abbrev pub Room : Store → ℕ → Type 0
Room s g = s.used + slots_needed (found_in (pages_in_use s) g) ≤ length s.dir

-- what a cleared slot is `filled` from
abbrev pub no_bytes : ℕ → ℕ
no_bytes k = 0

-- n bytes are the part of an access that lies in a page: from off to the page's end, or all that are left
pub record PagePart (off left n : ℕ) : Type 0 where
  pub some : 1 ≤ n
  pub inside : off + n ≤ page_size
  pub within : n ≤ left
  pub full : n < left → off + n ≡ page_size

-- where an access of len bytes from physical p on stands when done of them are moved: at byte off of page g, if any are left
pub record Reached (p len g off done : ℕ) : Type 0 where
  pub within : done ≤ len
  pub inside : off < page_size
  pub address : done < len → page_size * g + off ≡ p + done
