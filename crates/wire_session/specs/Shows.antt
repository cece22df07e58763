-- Kinds 20 and 25 to 28 (docs/FORMAT.md): the page view, the load and the shows.
use Rattle.std.specs.Prelude.{cond, ◌&&◌, List, [], ◌∷◌, ◌≡◌, ℕ, ◌-◌, ◌%◌, ltb, length, set, replicate, Option, Some}
use Rattle.utils.specs.Outcome.{refuses}
use Rattle.store.specs.View.{view_of}
use Rattle.store.specs.Store.{Store}
use Rattle.machine_state.specs.declared.MachineState.{MachineState}
use Rattle.byte_runs.specs.Runs.{room, lane_in, copied_from}
use Rattle.wire_records.specs.declared.Header.{Header}
use Rattle.wire_records.specs.declared.Reply.{Reply}
use Rattle.wire_session.specs.Replies.{reply_of, NoRecord, GivenIf}

-- "The lent page of zeros has as many bytes as word 7 says; its last is word 10, the others 0"
abbrev pub zeros_of : ℕ → ℕ → List ℕ
zeros_of z v = set (replicate z 0) (z - 1) (v % 256)

-- n of some bytes from an offset on
abbrev pub BytesGiven : List ℕ → ℕ → ℕ → List ℕ → Option Reply → List ℕ → Type 0
BytesGiven b from n l r l' = GivenIf (room (length b) from n && room (length l) 0 n) n l 0 (copied_from b from) n r l'

-- a part of a view; an empty view is refusal 4
abbrev pub ViewGiven : List ℕ → ℕ → ℕ → List ℕ → Option Reply → List ℕ → Type 0
ViewGiven [] from n l r l' = (r ≡ Some (reply_of (refuses 4) 0)) × (l' ≡ l)
ViewGiven (b ∷ bs) from n l r l' = BytesGiven (b ∷ bs) from n l r l'

-- the machine's 25 words: the 22 parents in their order (RULES 2.2), rflags, gdt, idt
abbrev pub machine_byte : MachineState → ℕ → ℕ
machine_byte m k = cond (ltb k 176) (lane_in m.regs k) (lane_in (m.rflags ∷ m.gdt ∷ m.idt ∷ []) (k - 176))

abbrev pub MachineGiven : MachineState → List ℕ → Option Reply → List ℕ → Type 0
MachineGiven m l r l' = GivenIf (room (length l) 0 200) 200 l 0 (machine_byte m) 200 r l'

-- "the block goes into the store's bytes from a on", where they have room for it
abbrev pub Loaded : ℕ → List ℕ → List ℕ → Option Reply → List ℕ → Type 0
Loaded at l b r b' = GivenIf (room (length l) 0 (length l) && room (length b) at (length l)) 0 b at (copied_from l 0) (length l) r b'

-- "The lent page of zeros has as many bytes as word 7 says (at most 4,097)"
abbrev pub PageGiven : Header → Store → List ℕ → Option Reply → List ℕ → Type 0
PageGiven h s l r l' =
    cond (ltb 4097 h.first.base) (NoRecord l r l')
    (ViewGiven (view_of s (zeros_of h.first.base h.first.value) h.a) h.b h.c l r l')
