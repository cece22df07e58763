-- What the public calls owe: each answer's number, the lent bytes afterwards, the store, and what is shown on the screen (RULES 4.1, 4.5
-- to 4.7, 7.1, 7.2). Every contract is an equation with one of these, or a record of such equations (`Wrote`), so that no two outcomes
-- satisfy it (RULES 9.2).
use Rattle.std.specs.Prelude.{Option, Some, None, Result, Ok, Err, ◌≡◌, Bool, cond, ◌&&◌, List, [], ◌∷◌, ℕ, ◌%◌, leb, eqb, length}
use Rattle.utils.specs.Outcome.{Outcome, gives, refuses, refuses_with, accepted}
use Rattle.store.specs.Store.{page_size, Store, is_store, slots_suffice, slots_lacking, read_at, written}
use Rattle.walk.specs.Walk.{physical}
use Rattle.writes.specs.Writes.{byte_of}
use Rattle.mmu.specs.declared.Refusal.{Refusal}
use Rattle.mmu.specs.declared.Refusal.TheVariants.{BadStore, TooLong, NoRoom}

-- the number of each refusal (RULES 7.1); what it says besides: 6, how many slots lack (RULES 7.5); and of each answer its number and
-- values (RULES 9.3)
abbrev pub memory_number : Refusal → ℕ
memory_number BadStore = 4
memory_number TooLong = 5
memory_number (NoRoom k) = 6

abbrev pub said_by_memory : Refusal → List ℕ
said_by_memory BadStore = []
said_by_memory TooLong = []
said_by_memory (NoRoom k) = k ∷ []

abbrev pub memory_outcome : Result (Unit {0}) Refusal → Outcome ℕ
memory_outcome (Ok done) = gives []
memory_outcome (Err r) = refuses_with (memory_number r) (said_by_memory r)

-- a read of n bytes: 4, then 5 (RULES 7.2)
unfoldable pub read_outcome : Store → ℕ → Outcome ℕ
read_outcome s n = cond (is_store s) (cond (leb n page_size) (gives []) (refuses 5)) (refuses 4)

-- an accepted read fills the whole lent buffer (RULES 4.1); a refused one leaves it
unfoldable pub read_out : Store → ℕ → ℕ → List ℕ → List ℕ
read_out s cr3 a out = cond (accepted (read_outcome s (length out))) (read_at s (physical s cr3 a) (length out)) out

-- a write of n bytes at physical p: 4, then 5, then 6, which says how many slots lack (RULES 7.2, 7.5).
-- A write of length 0 touches no page, so it is given 4 or nothing (RULES 4.6); that no walk is done shows in no outcome
unfoldable pub write_outcome : Store → ℕ → ℕ → Outcome ℕ
write_outcome s p n =
    cond (is_store s)
    (cond (leb n page_size) (cond (slots_suffice s p n) (gives []) (refuses_with 6 (slots_lacking s p n ∷ []))) (refuses 5))
    (refuses 4)

-- the store after the bytes d are written at physical p (RULES 3.9, 4.1); a refused write leaves it
unfoldable pub write_store : Store → ℕ → List ℕ → Store
write_store s p d = cond (accepted (write_outcome s p (length d))) (written s p (byte_of d) (length d)) s

-- the addresses at which a write shows its first byte: the even ones from 0xB8000 to 0xB8FA0, both ends included (RULES 4.5)
unfoldable pub cell : ℕ → Bool
cell p = leb 0xB8000 p && (leb p 0xB8FA0 && eqb (p % 2) 0)

-- what an accepted write shows: its first byte, if it goes to such an address (RULES 4.5)
unfoldable pub shown_at : ℕ → List ℕ → Option ℕ
shown_at p [] = None
shown_at p (b ∷ bs) = cond (cell p) (Some b) None

-- a refused write shows nothing (RULES 4.7)
unfoldable pub shown_of : Store → ℕ → List ℕ → Option ℕ
shown_of s p d = cond (accepted (write_outcome s p (length d))) (shown_at p d) None

-- all that a write at physical p owes: the address of its first byte alone is translated, and p is what it leads to (RULES 3.14)
pub record Wrote (s t : Store) (p : ℕ) (d : List ℕ) (r : Result (Unit {0}) Refusal) (e : Option ℕ) : Type 0 where
  pub answer : memory_outcome r ≡ write_outcome s p (length d)
  pub shown : e ≡ shown_of s p d
  pub store : t ≡ write_store s p d
