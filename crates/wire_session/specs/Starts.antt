-- Kind 24 (docs/FORMAT.md), a reset: a slots, b bytes of the store, size: the count in use, any number; c: the byte that fills the store.
-- The block is 25 words (22 parents in their order, RULES 2.2, rflags, gdt, idt), then the directory.
use Rattle.std.specs.Prelude.{Bool, cond, ◌&&◌, List, ◌≡◌, ℕ, ◌+◌, ◌*◌, ◌%◌, eqb, length, replicate, Option, Some, None}
use Rattle.byte_runs.specs.Runs.{filled}
use Rattle.machine_state.specs.declared.MachineState.{MachineState}
use Rattle.byte_runs.specs.Runs.{room, filled_if, word_in}
use Rattle.wire_records.specs.Blocks.{reset_length}
use Rattle.wire_records.specs.declared.Header.{Header}
use Rattle.wire_session.specs.declared.Start.{Start}

abbrev pub machine_in : List ℕ → MachineState
machine_in b = record {
  regs = filled (replicate 22 0) 0 (λ (k : ℕ). word_in b (8 * k)) 22;
  rflags = word_in b 176;
  gdt = word_in b 184;
  idt = word_in b 192;
}

-- what a reset gives
abbrev pub start_in : Header → List ℕ → Start
start_in h b = record { machine = machine_in b; slots = h.a; length = h.b; used = h.size }

-- the slices have room for so much, and the block is just so long
abbrev pub fitting : Header → List ℕ → List ℕ → List ℕ → Bool
fitting h b dir bytes = room (length bytes) 0 h.b && (eqb (length b) (reset_length h.a) && room (length dir) 0 h.a)

-- where they have none, or it is not, there is no reset, and nothing changes
pub record Starts (h : Header) (b dir bytes : List ℕ) (r : Option Start) (dir' bytes' : List ℕ) : Type 0 where
  pub start : r ≡ cond (fitting h b dir bytes) (Some (start_in h b)) None
  pub directory : dir' ≡ filled_if (fitting h b dir bytes) dir 0 (λ (k : ℕ). word_in b (200 + 8 * k)) h.a
  pub fill : bytes' ≡ filled_if (fitting h b dir bytes) bytes 0 (λ (k : ℕ). h.c % 256) h.b
