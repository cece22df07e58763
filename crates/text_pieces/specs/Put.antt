-- What a writer of one piece of text leaves: the contract of every writer. `d'` is `d` with the text `t` stored from `at` on (stores past
-- the end do nothing), `r` is the offset after it, and the text has at most `n` bytes.
use Rattle.std.specs.Prelude.{List, ◌≡◌, ℕ, ◌+◌, ◌-◌, ◌^◌, ◌≤◌, ◌<◌, min, length}
use Rattle.std.proofs.lemmas.List.Edits.{sets}

-- the offset n bytes after `at`, or the last one that a word can name, 2^64 - 1, where that comes first
unfoldable pub offset_after : ℕ → ℕ → ℕ
offset_after at n = at + min n (18446744073709551615 - at)

-- a slice is shorter than 2^64, so the last offset lies past its end: nothing is stored there
pub record TextPut (n : ℕ) (d : List ℕ) (at : ℕ) (t d' : List ℕ) (r : ℕ) : Type 0 where
  pub bytes : d' ≡ sets d at t
  pub next : r ≡ offset_after at (length t)
  pub most : length t ≤ n
  pub short : length d < 2 ^ 64
