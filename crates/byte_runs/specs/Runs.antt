-- Runs of bytes and words within lists: what stands where after one, and the words among bytes, low byte first (RULES 1.3).
use Rattle.std.specs.Prelude.{Bool, cond, List, [], ◌∷◌, ◌++◌, ◌≡◌, ℕ, zero, suc, ◌+◌, ◌/◌, ◌%◌, leb, length, get_or, set}
use Rattle.utils.specs.Bytes.{from_bytes}
use Rattle.utils.specs.Word.{lane}

-- f 0, f 1, ..: n of them
unfoldable pub tabulate : (ℕ → ℕ) → ℕ → List ℕ
tabulate f zero = []
tabulate f (suc n) = tabulate f n ++ (f n ∷ [])

-- l with f 0, f 1, .. in the n spots from at on
unfoldable pub filled : List ℕ → ℕ → (ℕ → ℕ) → ℕ → List ℕ
filled l at f zero = l
filled l at f (suc n) = set (filled l at f n) (at + n) (f n)

-- what `filled` takes its bytes from: a list from an offset on; words laid end to end, each low byte first
abbrev pub copied_from : List ℕ → ℕ → ℕ → ℕ
copied_from l from k = get_or l (from + k) 0

unfoldable pub lane_in : List ℕ → ℕ → ℕ
lane_in ws k = lane (k % 8) (get_or ws (k / 8) 0)

-- whether n elements from at on lie within len
unfoldable pub room : ℕ → ℕ → ℕ → Bool
room len at n = leb (at + n) len

-- l with f 0, f 1, .. in the n spots from at on, where that is done
abbrev pub filled_if : Bool → List ℕ → ℕ → (ℕ → ℕ) → ℕ → List ℕ
filled_if ok l at f n = cond ok (filled l at f n) l

-- it says whether it was done, and this is the list afterwards
pub record FilledIf (ok : Bool) (l : List ℕ) (at : ℕ) (f : ℕ → ℕ) (n : ℕ) (l' : List ℕ) (r : Bool) : Type 0 where
  pub done : r ≡ ok
  pub bytes : l' ≡ filled_if ok l at f n

-- the word whose low byte stands at an offset; past the last whole word there are zeros
unfoldable pub word_from : List ℕ → ℕ → ℕ
word_from b at =
    from_bytes
    (get_or b at 0 ∷ get_or b (at + 1) 0 ∷ get_or b (at + 2) 0 ∷ get_or b (at + 3) 0
    ∷ get_or b (at + 4) 0 ∷ get_or b (at + 5) 0 ∷ get_or b (at + 6) 0 ∷ get_or b (at + 7) 0 ∷ [])

unfoldable pub word_in : List ℕ → ℕ → ℕ
word_in b at = cond (room (length b) at 8) (word_from b at) 0
