-- A machine of Rattle is its places: two that agree on the 182 places, on the other bits of rflags, on gdt and on idt are one machine. A
-- word is its eight lanes, and rflags its ten fields. So "every other place is as it was" (RULES 8.4) is of the whole machine. Assumes
-- nothing.
use mathlib.Core.Path.{◌≡◌, sym, ap₂, ◌∙◌}
use Prim.Native.Nat.{ℕ, ◌+◌, ◌-◌, ◌*◌, ◌^◌, ◌≤◌, ◌<◌}
use native.Mathlib.Omega.{arith}
use lib.Seq.{ext_get_or}
use Rattle.utils.specs.Word.{cut}
use Rattle.utils.proofs.Field.{cut_add, cut_all}
use Rattle.machine_state.specs.declared.MachineState.{MachineState}
use Rattle.effects.specs.Places.{bit_at, bits_at, place, WellTyped}
use Rattle.effects.proofs.Places.{place_bits, place_rest, parent_same}

-- two fields side by side make one
join : (w v f a b : ℕ) → cut w f a ≡ cut v f a → cut w (f + a) b ≡ cut v (f + a) b → cut w f (b + a) ≡ cut v f (b + a)
join w v f a b x y = cut_add w f a b ∙ ap₂ (λ (u t : ℕ). u * 2 ^ a + t) y x ∙ sym (cut_add v f a b)

module _ (m n : MachineState) (gm : WellTyped m) (gn : WellTyped n) (same : (p : ℕ) → place m p ≡ place n p) where
  field : (p : ℕ) → 176 ≤ p → p < 186
      → cut m.rflags (bit_at (p - 176)) (bits_at (p - 176)) ≡ cut n.rflags (bit_at (p - 176)) (bits_at (p - 176))
  field p a b = sym (place_bits m p a b) ∙ same p ∙ place_bits n p a b

  -- from bit 0 up: Carry, bit 1, Parity, bits 3 to 5, Zero, Sign, bits 8 and 9, Direction, Overflow, bits 12 to 63
  flags_whole : m.rflags ≡ n.rflags
  unfolding bit_at bits_at
  flags_whole =
      let w = m.rflags in
      let v = n.rflags in
      let e1 = join w v 0 1 1 (field 176 (omega arith) (omega arith)) (field 182 (omega arith) (omega arith)) in
      let e2 = join w v 0 2 1 e1 (field 177 (omega arith) (omega arith)) in
      let e3 = join w v 0 3 3 e2 (field 183 (omega arith) (omega arith)) in
      let e4 = join w v 0 6 1 e3 (field 178 (omega arith) (omega arith)) in
      let e5 = join w v 0 7 1 e4 (field 179 (omega arith) (omega arith)) in
      let e6 = join w v 0 8 2 e5 (field 184 (omega arith) (omega arith)) in
      let e7 = join w v 0 10 1 e6 (field 180 (omega arith) (omega arith)) in
      let e8 = join w v 0 11 1 e7 (field 181 (omega arith) (omega arith)) in
      let e9 = join w v 0 12 52 e8 (field 185 (omega arith) (omega arith)) in
      sym (cut_all w 64 gm.flags) ∙ e9 ∙ cut_all v 64 gn.flags

  registers_whole : m.regs ≡ n.regs
  registers_whole =
      ext_get_or 0 m.regs n.regs (gm.parents ∙ sym gn.parents)
      (λ i l. parent_same m n i (omega (arith, gm.parents)) gm gn (λ p h. same p))

  pub whole : m ≡ n
  whole =
      let r = registers_whole in
      let f = flags_whole in
      let a : m.gdt ≡ n.gdt = sym (place_rest m 186 (omega arith)) ∙ same 186 ∙ place_rest n 186 (omega arith) in
      let b : m.idt ≡ n.idt = sym (place_rest m 187 (omega arith)) ∙ same 187 ∙ place_rest n 187 (omega arith) in
      λ i. record { regs = r i; rflags = f i; gdt = a i; idt = b i }
