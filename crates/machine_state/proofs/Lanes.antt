-- Which lanes of a machine a register's read looks at and which its write rewrites: exactly those of its part (RULES 2.4). From the laws
-- of parts, once over the register. Assumes nothing.
use Rattle.std.proofs.Common.{◌≡◌, ℕ, ◌+◌, ◌*◌, ◌%◌, ◌^◌, ◌<◌, ◌≤◌, length, refl, ap, ◌∙◌, arith, get_or-set_other, get_or-set_same}
use native.Mathlib.Decide.{ℕ_discrete}
use Rattle.utils.specs.Word.{lane, extend}
use Rattle.instruction_set.specs.Registers.{parent_of, part_of, first_lane, lanes_read, lanes_rewritten}
use Rattle.instruction_set.specs.declared.Register.{Register}
use Rattle.instruction_set.proofs.Bounds.{parent_below}
use Rattle.fields.specs.Parts.{read_of, write_of}
use Rattle.fields.proofs.PartLaws.{read_part_same, write_part_in, write_part_out, write_part_read}
use Rattle.machine_state.specs.Machine.{parent_at, read_reg, write_reg}
use Rattle.machine_state.specs.declared.MachineState.{MachineState}

-- lane j of parent i
abbrev pub lane_at : MachineState → ℕ → ℕ → ℕ
lane_at m i j = lane j (parent_at m i)

-- machines that agree on the lanes that r reads give the same value
pub read_same : (m n : MachineState) (r : Register)
    → ((k : ℕ) → k < lanes_read (part_of r)
    → lane_at m (parent_of r) (first_lane (part_of r) + k) ≡ lane_at n (parent_of r) (first_lane (part_of r) + k))
    → read_reg m r ≡ read_reg n r
unfolding read_reg
read_same m n r h = read_part_same (part_of r) (parent_at m (parent_of r)) (parent_at n (parent_of r)) h

module _ (m : MachineState) (r : Register) (v : ℕ) (whole : length m.regs ≡ 22) where
  parent_after : parent_at (write_reg m r v) (parent_of r) ≡ write_of (part_of r) (parent_at m (parent_of r)) v
  unfolding write_reg
  parent_after =
      get_or-set_same m.regs (parent_of r) (write_of (part_of r) (parent_at m (parent_of r)) v) 0 (omega (arith, parent_below r, whole))

  -- a lane of the row takes the value's lane of that position, of as many as the row reads, and 0 above those
  pub write_in : (k : ℕ) → k < lanes_rewritten (part_of r)
      → lane_at (write_reg m r v) (parent_of r) (first_lane (part_of r) + k) ≡ lane k (v % 2 ^ (8 * lanes_read (part_of r)))
  write_in k h = ap (lane (first_lane (part_of r) + k)) parent_after ∙ write_part_in (part_of r) (parent_at m (parent_of r)) v k h

  out_by : (i j : ℕ) → Dec (i ≡ parent_of r)
      → (i ≡ parent_of r → first_lane (part_of r) ≤ j → first_lane (part_of r) + lanes_rewritten (part_of r) ≤ j)
      → lane_at (write_reg m r v) i j ≡ lane_at m i j
  unfolding write_reg
  out_by i j (yes e) h = rw e (ap (lane j) parent_after ∙ write_part_out (part_of r) (parent_at m (parent_of r)) v j (h e))
  out_by i j (no n) h = ap (lane j) (get_or-set_other m.regs (parent_of r) i (write_of (part_of r) (parent_at m (parent_of r)) v) 0 n)

  -- every other lane of every parent keeps its byte
  pub write_out : (i j : ℕ) → (i ≡ parent_of r → first_lane (part_of r) ≤ j → first_lane (part_of r) + lanes_rewritten (part_of r) ≤ j)
      → lane_at (write_reg m r v) i j ≡ lane_at m i j
  write_out i j h = out_by i j (ℕ_discrete i (parent_of r)) h

  -- what is written reads back, sign-extended from the register's size
  pub write_read : read_reg (write_reg m r v) r ≡ extend (8 * lanes_read (part_of r)) v
  unfolding read_reg
  write_read = ap (read_of (part_of r)) parent_after ∙ write_part_read (part_of r) (parent_at m (parent_of r)) v

-- and flags, gdt and idt stay
pub write_keeps : (m : MachineState) (r : Register) (v : ℕ)
    → ((write_reg m r v).rflags ≡ m.rflags) × ((write_reg m r v).gdt ≡ m.gdt) × ((write_reg m r v).idt ≡ m.idt)
unfolding write_reg
write_keeps m r v = (refl, refl, refl)
