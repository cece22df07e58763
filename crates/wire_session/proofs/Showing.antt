-- The shows: the machine's words, a part of a view, and the lent page of zeros. By the laws of `filled`. Assumes nothing.
use Rattle.std.specs.Prelude.{Option, Some}
use mathlib.Core.Bool.{Bool, true}
use mathlib.Core.List.{List, [], ◌∷◌}
use mathlib.Core.Path.{◌≡◌, refl, ap, ◌∙◌}
use Prim.Native.Nat.{ℕ, zero, suc, ◌+◌, ◌*◌, ◌-◌, ◌≤◌, ◌<◌}
use native.Mathlib.Nat.{not-suc-le-zero}
use native.Mathlib.Omega.{arith}
use borrow.Author.Tests.{lt-ltb, le-ltb}
use lib.ListN.{length, set, take}
use Rattle.utils.specs.Outcome.{gives}
use Rattle.byte_runs.specs.Runs.{filled}
use Rattle.byte_runs.proofs.Filled.{length_filled, filled_add, filled_ext}
use Rattle.machine_state.specs.declared.MachineState.{MachineState}
use Rattle.byte_runs.specs.Runs.{room, lane_in, FilledIf}
use Rattle.byte_runs.proofs.Puts.{room_yes, put_was}
use Rattle.wire_records.specs.declared.Reply.{Reply}
use Rattle.wire_session.specs.Replies.{reply_of}
use Rattle.wire_session.specs.Shows.{machine_byte, MachineGiven}

-- the parents first, then the three others
pub machine_given : (m : MachineState) {l d l' : List ℕ} {r : Option Reply} {a b : Bool} → length m.regs ≡ 22 → 200 ≤ length l
    → FilledIf (room (length l) 0 (8 * length m.regs)) l 0 (lane_in m.regs) (8 * length m.regs) d a
    → FilledIf (room (length d) 176 24) d 176 (lane_in (m.rflags ∷ m.gdt ∷ m.idt ∷ [])) 24 l' b
    → r ≡ Some (reply_of (gives []) 200) → MachineGiven m l r l'
machine_given m {l} {d} {l'} n h p q e = record { reply = rw yes e; bytes = rw yes all }
  where
    others : List ℕ
    others = m.rflags ∷ m.gdt ∷ m.idt ∷ []

    yes : room (length l) 0 200 ≡ true
    yes = room_yes (length l) 0 200 (omega (arith, h))

    first : d ≡ filled l 0 (lane_in m.regs) 176
    first = let p' = rw n at p in put_was p' (room_yes (length l) 0 176 (omega (arith, h)))

    long : length d ≡ length l
    long = ap length first ∙ length_filled l 0 (lane_in m.regs) 176

    second : l' ≡ filled d 176 (lane_in others) 24
    second = put_was q (room_yes (length d) 176 24 (omega (arith, h, long)))

    low : (k : ℕ) → k < 176 → lane_in m.regs k ≡ machine_byte m k
    low k lt = rw (lt-ltb k 176 lt)

    high : (k : ℕ) → k < 24 → lane_in others k ≡ machine_byte m (176 + k)
    high k lt = let e : 176 + k - 176 ≡ k = omega arith in rw (le-ltb (176 + k) 176 (omega arith), e)

    all : l' ≡ filled l 0 (machine_byte m) 200
    all =
        second
        ∙ filled_ext d 176 (lane_in others) (λ (k : ℕ). machine_byte m (176 + k)) 24 high
        ∙ ap (λ (x : List ℕ). filled x 176 (λ (k : ℕ). machine_byte m (176 + k)) 24)
        (first ∙ filled_ext l 0 (lane_in m.regs) (machine_byte m) 176 low)
        ∙ filled_add l 0 (machine_byte m) 176 24

pub none_set : (p : List ℕ) (z v : ℕ) → z ≤ 0 → take z p ≡ set (take z p) (z - 1) v
none_set p zero v h = refl
none_set p (suc z) v h = absurd (not-suc-le-zero h)
