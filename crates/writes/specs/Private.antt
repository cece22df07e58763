-- What only laws and the contracts of private functions cite: a reader of the public contract needs none of it.
use Rattle.std.specs.Prelude.{ℕ, ◌+◌, ◌≤◌, length}
use Rattle.store.specs.Store.{page_size, Store, pages_in_use, touched, absent_of}
use Rattle.store.specs.Facts.{IsStore, Room}

-- what one page's part of a write starts from: n bytes, at least one, within the page and within the len given
pub record Ready (s : Store) (g off n from len : ℕ) : Type 0 where
  pub sound : IsStore s
  pub room : Room s g
  pub some : 1 ≤ n
  pub inside : off + n ≤ page_size
  pub given : from + n ≤ len

-- what a whole write starts from
pub record Fits (s : Store) (p n : ℕ) : Type 0 where
  pub sound : IsStore s
  pub room : s.used + absent_of (pages_in_use s) (touched p n) ≤ length s.dir
