-- The store as a value (RULES 3.4 to 3.10): its bytes by physical address, and what writing bytes makes of it.
use Rattle.std.specs.Prelude.{Option, Some, None, Bool, true, false, cond, ◌&&◌, List, [], ◌∷◌, ◌++◌}
use Rattle.std.specs.Prelude.{ℕ, zero, suc, ◌+◌, ◌*◌, ◌-◌, ◌/◌, ◌%◌, ltb, leb, eqb, length, get_or, set, take}
use Rattle.byte_runs.specs.Runs.{tabulate, filled}

-- the bytes of a page (RULES 3.6)
abbrev pub page_size : ℕ
page_size = 4096

-- what is lent: the directory of page numbers, one to a slot, the bytes of the slots, and how many slots are in use (RULES 3.4)
pub record Store : Type 0 where
  pub dir : List ℕ
  pub bytes : List ℕ
  pub used : ℕ

abbrev pub store_of : List ℕ → List ℕ → ℕ → Store
store_of d b u = record { dir = d; bytes = b; used = u }

-- whether it is a store (RULES 3.5); where this is false, refusal 4 is given
unfoldable pub is_store : Store → Bool
is_store s = leb (length s.dir) 65536 && (leb s.used (length s.dir) && eqb (length s.bytes) (page_size * length s.dir))

-- the page numbers of the slots in use, which are the first ones (RULES 3.4), and how many slots are not in use
abbrev pub pages_in_use : Store → List ℕ
pages_in_use s = take s.used s.dir

abbrev pub unused : Store → ℕ
unused s = length s.dir - s.used

-- a store with more slots behind those of s, which hold the numbers ds and the bytes bs and are not in use
abbrev pub with_slots : Store → List ℕ → List ℕ → Store
with_slots s ds bs = store_of (s.dir ++ ds) (s.bytes ++ bs) s.used

-- the search (RULES 3.7): the position of the first g in l, or l's length if there is none
unfoldable pub seek : List ℕ → ℕ → ℕ
seek [] g = 0
seek (x ∷ xs) g = cond (eqb x g) 0 (suc (seek xs g))

abbrev pub pick_found : Bool → ℕ → Option ℕ
pick_found true i = Some i
pick_found false i = None

-- the slot that holds page g, or none; l has the numbers of the slots in use
unfoldable pub found_in : List ℕ → ℕ → Option ℕ
found_in l g = pick_found (ltb (seek l g) (length l)) (seek l g)

-- byte o of a page whose slot is found, or not: an absent page reads as zeros (RULES 3.8)
abbrev pub byte_in : List ℕ → Option ℕ → ℕ → ℕ
byte_in b (Some i) o = get_or b (page_size * i + o) 0
byte_in b None o = 0

-- the byte at physical q, which is byte q % page_size of page q / page_size (RULES 3.6)
unfoldable pub byte_at : Store → ℕ → ℕ
byte_at s q = byte_in s.bytes (found_in (pages_in_use s) (q / page_size)) (q % page_size)

-- n bytes from p on: byte k is at p + k, and this sum does not wrap (RULES 3.10)
abbrev pub bytes_from : Store → ℕ → ℕ → ℕ
bytes_from s p k = byte_at s (p + k)

unfoldable pub read_at : Store → ℕ → ℕ → List ℕ
read_at s p n = tabulate (bytes_from s p) n

-- page g takes the slot after those in use, cleared (RULES 3.9)
abbrev pub slot_taken : Store → ℕ → Store
slot_taken s g = record {
  dir = set s.dir s.used g;
  bytes = filled s.bytes (page_size * s.used) (λ (k : ℕ). 0) page_size;
  used = suc s.used;
}

abbrev pub slot_taken_if : Store → ℕ → Option ℕ → Store
slot_taken_if s g (Some i) = s
slot_taken_if s g None = slot_taken s g

unfoldable pub with_page : Store → ℕ → Store
with_page s g = slot_taken_if s g (found_in (pages_in_use s) g)

-- byte b goes to physical q, whose page has a slot
unfoldable pub stored : Store → ℕ → ℕ → Store
stored s q b = record {
  dir = s.dir;
  bytes = set s.bytes (page_size * seek (pages_in_use s) (q / page_size) + q % page_size) b;
  used = s.used;
}

unfoldable pub put_byte : Store → ℕ → ℕ → Store
put_byte s q b = stored (with_page s (q / page_size)) q b

-- f 0, f 1, .. go to the n bytes from physical p on, one after the other: so the lowest page takes its slot first (RULES 3.9)
unfoldable pub written : Store → ℕ → (ℕ → ℕ) → ℕ → Store
written s p f zero = s
written s p f (suc n) = put_byte (written s p f n) (p + n) (f n)

-- the slot in which n bytes from physical p on lie, if it is one; l has the numbers of the slots in use
unfoldable pub slot_of : List ℕ → ℕ → ℕ → Option ℕ
slot_of l p n = cond (leb (p % page_size + n) page_size) (found_in l (p / page_size)) None

-- k pages from page g on
unfoldable pub pages_from : ℕ → ℕ → List ℕ
pages_from g zero = []
pages_from g (suc k) = g ∷ pages_from (g + 1) k

-- the pages that n bytes from p on touch (RULES 3.6, 3.10), for any n: from that of the first byte to that of the last
unfoldable pub touched : ℕ → ℕ → List ℕ
touched p zero = []
touched p (suc m) = pages_from (p / page_size) (suc ((p + m) / page_size - p / page_size))

-- how many of the pages gs are absent; l has the numbers of the slots in use
abbrev pub slots_needed : Option ℕ → ℕ
slots_needed (Some i) = 0
slots_needed None = 1

unfoldable pub absent_of : List ℕ → List ℕ → ℕ
absent_of l [] = 0
absent_of l (g ∷ gs) = slots_needed (found_in l g) + absent_of l gs

-- n bytes from physical p on find an unused slot for each absent page that they touch: where not, refusal 6 is given (RULES 7.1)
abbrev pub slots_suffice : Store → ℕ → ℕ → Bool
slots_suffice s p n = leb (absent_of (pages_in_use s) (touched p n)) (unused s)

-- how many slots lack for them, which refusal 6 says (RULES 7.5); 0 where the slots suffice
abbrev pub slots_lacking : Store → ℕ → ℕ → ℕ
slots_lacking s p n = absent_of (pages_in_use s) (touched p n) - unused s

-- how many of the bytes that are left of an access lie in the page it has reached, from byte off on: to the page's end, or all of them
unfoldable pub part_length : ℕ → ℕ → ℕ
part_length off left = cond (ltb left (page_size - off)) left (page_size - off)
