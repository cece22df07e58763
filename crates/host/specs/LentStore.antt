-- A write of memory on a machine that is lent as its words and a store that is lent beside it, for a host that is not written in Rattle
-- (RULES 9.8). What the write does is mmu's (`write_outcome`, `write_store`, `shown_of`); here is how its answer reads in words.
use Rattle.std.specs.Prelude.{List, ◌≡◌, ℕ, length, get_or, Option, Some, None}
use Rattle.utils.specs.Outcome.{Outcome}
use Rattle.store.specs.Store.{Store}
use Rattle.walk.specs.Walk.{physical}
use Rattle.mmu.specs.Calls.{write_outcome, write_store, shown_of}
use Rattle.host.specs.declared.WriteAnswer.{WriteAnswer}

-- the number, 0 where it is accepted; how many slots lack where it is 6 (RULES 7.5), else 0
abbrev pub says_first : Outcome ℕ → ℕ
says_first o = get_or o.values 0 0

-- whether the screen shows a byte, and which
abbrev pub shows_byte : Option ℕ → ℕ
shows_byte None = 0
shows_byte (Some b) = 1

abbrev pub byte_shown : Option ℕ → ℕ
byte_shown None = 0
byte_shown (Some b) = b

abbrev pub write_answer : Outcome ℕ → ℕ → Option ℕ → WriteAnswer
write_answer o u e = record { refusal = o.number; lacking = says_first o; used = u; shows = shows_byte e; byte = byte_shown e }

-- CR3 is word 19 of the machine; no word changes
pub record WroteLent (w : List ℕ) (s t : Store) (a : ℕ) (d : List ℕ) (r : WriteAnswer) : Type 0 where
  pub answer : (let p = physical s (get_or w 19 0) a in
      r ≡ write_answer (write_outcome s p (length d)) (write_store s p d).used (shown_of s p d))
  pub store : t ≡ write_store s (physical s (get_or w 19 0) a) d
