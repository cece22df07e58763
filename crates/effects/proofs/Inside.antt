-- Every row stands within the 182 places, so that no other place is read or rewritten: by the bounds of parents, lanes and flags, one
-- clause for each call. Assumes nothing.
use Rattle.std.specs.Prelude.{Option, Some, None}
use mathlib.Core.Bool.{false}
use mathlib.Core.Logic.{inr}
use mathlib.Core.Path.{◌≡◌}
use Prim.Native.Nat.{ℕ, ◌+◌, ◌≤◌}
use native.Mathlib.Omega.{arith}
use Rattle.instruction_set.specs.Registers.{part_of}
use Rattle.instruction_set.specs.declared.InstructionArgument.TheVariants as arg
use Rattle.instruction_set.specs.declared.Register.{Register}
use Rattle.instruction_set.proofs.Bounds.{parent_below, reads_within, rewrites_within}
use Rattle.arithmetic.specs.declared.Operation.{Operation}
use Rattle.arithmetic.specs.declared.Operation.TheVariants.{Add, AddWithCarry, Subtract, SubtractWithBorrow, Compare}
use Rattle.calls.specs.declared.Call.{Call}
use Rattle.calls.specs.declared.Call.TheVariants.{ReadOperand, WriteOperand, EffectiveAddress, Push, Pop, ReadMemory, WriteMemory}
use Rattle.calls.specs.declared.Call.TheVariants.{TestFlag, SetFlag, ComputeFlags, ComputeSizedFlags, Arithmetic}
use Rattle.effects.specs.Rows.{spans, none, rsp_places, cr3_places, nothing, read_span, rewrite_span, part_span, flag_span, reads_of}
use Rattle.effects.specs.Rows.{rewrites_of, in_spans}
use Rattle.effects.specs.Rows.{operation_reads, three_flags, Inside}
use Rattle.effects.specs.declared.Span.{Span}
use Rattle.effects.specs.declared.Spans.{Spans}
use Rattle.effects.proofs.Within.{in_out, flag_below}

abbrev Ends : Span → Type 0
Ends s = s.start + s.count ≤ 182

read_ends : (r : Register) → Ends (read_span r)
read_ends r = omega (arith, parent_below r, reads_within (part_of r))

-- by either column of the register's row: that a rewrite span has the right one is for Places to say
rewrite_ends : (r : Register) → Ends (rewrite_span r)
rewrite_ends r = omega (arith, parent_below r, reads_within (part_of r), rewrites_within (part_of r))

part_ends : (b : Option Register) → Ends (part_span b)
part_ends None = omega arith
part_ends (Some r) = read_ends r

no_inside : Inside nothing
no_inside = record { one = omega arith; two = omega arith; three = omega arith; four = omega arith }

one_inside : (s : Span) → Ends s → Inside (spans s none none none)
one_inside s h = record { one = h; two = omega arith; three = omega arith; four = omega arith }

three_inside : Inside three_flags
three_inside = record { one = omega arith; two = omega arith; three = omega arith; four = omega arith }

operation_inside : (o : Operation) → Inside (operation_reads o)
operation_inside Add = no_inside
operation_inside AddWithCarry = one_inside _ (omega arith)
operation_inside Subtract = no_inside
operation_inside SubtractWithBorrow = one_inside _ (omega arith)
operation_inside Compare = no_inside

pub reads_inside : (c : Call) → Inside (reads_of c)
unfolding reads_of
reads_inside (ReadOperand (arg.Register r) z) = one_inside (read_span r) (read_ends r)
reads_inside (ReadOperand (arg.Immediate v) z) = no_inside
reads_inside (ReadOperand (arg.EffectiveAddress b i k d) z) =
    record { one = search part_ends; two = search part_ends; three = omega arith; four = omega arith }
reads_inside (WriteOperand (arg.Register r) z v) = no_inside
reads_inside (WriteOperand (arg.Immediate x) z v) = no_inside
reads_inside (WriteOperand (arg.EffectiveAddress b i k d) z v) =
    record { one = search part_ends; two = search part_ends; three = omega arith; four = omega arith }
reads_inside (EffectiveAddress (arg.Register r)) = no_inside
reads_inside (EffectiveAddress (arg.Immediate v)) = no_inside
reads_inside (EffectiveAddress (arg.EffectiveAddress b i k d)) =
    record { one = search part_ends; two = search part_ends; three = omega arith; four = omega arith }
reads_inside Push = record { one = omega arith; two = omega arith; three = omega arith; four = omega arith }
reads_inside Pop = record { one = omega arith; two = omega arith; three = omega arith; four = omega arith }
reads_inside (ReadMemory a) = one_inside cr3_places (omega arith)
reads_inside (WriteMemory a) = one_inside cr3_places (omega arith)
reads_inside (TestFlag f) = one_inside (flag_span f) (omega (arith, flag_below f))
reads_inside (SetFlag f b) = no_inside
reads_inside (ComputeFlags x z) = no_inside
reads_inside (ComputeSizedFlags x z) = no_inside
reads_inside (Arithmetic o z a b) = operation_inside o

pub rewrites_inside : (c : Call) → Inside (rewrites_of c)
unfolding rewrites_of
rewrites_inside (ReadOperand a z) = no_inside
rewrites_inside (WriteOperand (arg.Register r) z v) = one_inside (rewrite_span r) (rewrite_ends r)
rewrites_inside (WriteOperand (arg.Immediate x) z v) = no_inside
rewrites_inside (WriteOperand (arg.EffectiveAddress b i k d) z v) = no_inside
rewrites_inside (EffectiveAddress a) = no_inside
rewrites_inside Push = one_inside rsp_places (omega arith)
rewrites_inside Pop = one_inside rsp_places (omega arith)
rewrites_inside (ReadMemory a) = no_inside
rewrites_inside (WriteMemory a) = no_inside
rewrites_inside (TestFlag f) = no_inside
rewrites_inside (SetFlag f b) = one_inside (flag_span f) (omega (arith, flag_below f))
rewrites_inside (ComputeFlags x z) = three_inside
rewrites_inside (ComputeSizedFlags x z) = three_inside
rewrites_inside (Arithmetic o z a b) = record { one = omega arith; two = omega arith; three = omega arith; four = omega arith }

-- so that no other place is in a row
pub none_above : (s : Spans) (p : ℕ) → Inside s → 182 ≤ p → in_spans s p ≡ false
unfolding in_spans
none_above s p i h =
    simp (
      in_out s.one p (inr (omega (arith, i.one))),
      in_out s.two p (inr (omega (arith, i.two))),
      in_out s.three p (inr (omega (arith, i.three))),
      in_out s.four p (inr (omega (arith, i.four))),
    )
