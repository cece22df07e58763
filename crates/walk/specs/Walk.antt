-- The walk (RULES 3.11 to 3.13), and what is read at a physical address.
use Rattle.std.specs.Prelude.{◌≡◌, ℕ, zero, suc, ◌+◌, ◌-◌, ◌*◌, ◌%◌, ◌^◌, ◌<◌, cond, List, [], ◌∷◌, length, ◌==◌, slice_index}
use Rattle.utils.specs.Word.{cut}
use Rattle.utils.specs.Bytes.{from_bytes}
use Rattle.store.specs.Store.{Store, is_store, byte_at, read_at}

-- the address of the entry of level l in table t: the nine bits of a from bit 12 + 9 l on are its index (RULES 3.12)
unfoldable pub entry_address : ℕ → ℕ → ℕ → ℕ
entry_address l t a = (t + 8 * cut a (12 + 9 * l) 9) % 2 ^ 64

-- the eight bytes at physical q, low byte first (RULES 1.3)
unfoldable pub word_at : Store → ℕ → ℕ
word_at s q = from_bytes (read_at s q 8)

-- the entry with its low 12 bits cleared (RULES 3.12)
unfoldable pub next_table : Store → ℕ → ℕ → ℕ → ℕ
next_table s l t a = let w = word_at s (entry_address l t a) in w - w % 2 ^ 12

-- the same step at each level, down to 0; there the result is the last table plus the low 21 bits (RULES 3.13)
unfoldable pub walked : Store → ℕ → ℕ → ℕ → ℕ
walked s zero t a = (t + a % 2 ^ 21) % 2 ^ 64
walked s (suc l) t a = walked s l (next_table s (suc l) t a) a

-- an address is physical where cr3 is 0 (RULES 3.11); otherwise the walk goes down from level 3, with cr3 as its first table (RULES 3.13)
unfoldable pub physical : Store → ℕ → ℕ → ℕ
physical s cr3 a = cond (cr3 == 0) a (walked s 3 cr3 a)

-- what the two public functions give, of every input: of what is no store the address is 0, and nothing is read
unfoldable pub translated : Store → ℕ → ℕ → ℕ
translated s cr3 a = cond (is_store s) (physical s cr3 a) 0

unfoldable pub read_into : Store → ℕ → List ℕ → List ℕ
read_into s p out = cond (is_store s) (read_at s p (length out)) out

-- For the law that a walk depends on its three entries alone; no contract cites the rest of this file.
-- the addresses of the entries that a walk from level l down reads, in its order
unfoldable pub entries_read : Store → ℕ → ℕ → ℕ → List ℕ
entries_read s zero t a = []
entries_read s (suc l) t a = entry_address (suc l) t a ∷ entries_read s l (next_table s (suc l) t a) a

-- two stores have the same eight bytes at each of the addresses
abbrev pub SameEntries : Store → Store → List ℕ → Type 0
SameEntries s t places = (j : ℕ) → j < length places → (k : ℕ) → k < 8 → byte_at s (slice_index places j + k) ≡ byte_at t (slice_index places j + k)
