-- The table of calls (RULES 8.2): which places each call reads and rewrites, and whether it reaches memory, refused or not (RULES 8.3).
-- What a call does (`step` of the crate calls) knows nothing of this; the rows are proved of it in proofs/Owed.antt.
use Rattle.std.specs.Prelude.{Bool, true, false, ◌&&◌, ◌||◌, ℕ, ◌+◌, ◌*◌, ◌≤◌, ltb, leb, Option, Some, None}
use Rattle.instruction_set.specs.Registers.{parent_of, part_of, first_lane, lanes_read, lanes_rewritten}
use Rattle.instruction_set.specs.Flags.{flag_number}
use Rattle.instruction_set.specs.declared.Flags.{Flags}
use Rattle.instruction_set.specs.declared.Flags.TheVariants.{Carry, Parity, Zero, Sign, Overflow}
use Rattle.instruction_set.specs.declared.InstructionArgument.{InstructionArgument}
use Rattle.instruction_set.specs.declared.InstructionArgument.TheVariants as arg
use Rattle.instruction_set.specs.declared.Register.{Register}
use Rattle.arithmetic.specs.declared.Operation.{Operation}
use Rattle.arithmetic.specs.declared.Operation.TheVariants.{Add, AddWithCarry, Subtract, SubtractWithBorrow, Compare}
use Rattle.calls.specs.declared.Call.{Call}
use Rattle.calls.specs.declared.Call.TheVariants.{ReadOperand, WriteOperand, EffectiveAddress, Push, Pop, ReadMemory, WriteMemory}
use Rattle.calls.specs.declared.Call.TheVariants.{TestFlag, SetFlag, ComputeFlags, ComputeSizedFlags, Arithmetic}
use Rattle.effects.specs.declared.Span.{Span}
use Rattle.effects.specs.declared.Spans.{Spans}

abbrev pub span : ℕ → ℕ → Span
span a n = record { start = a; count = n }

abbrev pub spans : Span → Span → Span → Span → Spans
spans a b c d = record { one = a; two = b; three = c; four = d }

abbrev pub none : Span
none = span 0 0

-- the eight lanes of parent i (RULES 8.1)
abbrev pub parent_places : ℕ → Span
parent_places i = span (8 * i) 8

abbrev pub rsp_places : Span
rsp_places = parent_places 4

abbrev pub cr3_places : Span
cr3_places = parent_places 19

-- the lanes that a register reads, and those that it rewrites (RULES 2.4); a segment has none
abbrev pub read_span : Register → Span
read_span r = span (8 * parent_of r + first_lane (part_of r)) (lanes_read (part_of r))

abbrev pub rewrite_span : Register → Span
rewrite_span r = span (8 * parent_of r + first_lane (part_of r)) (lanes_rewritten (part_of r))

-- base or index
abbrev pub part_span : Option Register → Span
part_span None = none
part_span (Some r) = read_span r

-- the flags' places follow those of the 22 parents (RULES 8.1)
abbrev pub flag_place : Flags → ℕ
flag_place f = 176 + flag_number f

abbrev pub flag_span : Flags → Span
flag_span f = span (flag_place f) 1

-- an immediate reads and rewrites nothing
abbrev pub nothing : Spans
nothing = spans none none none none

-- the lanes read of base and of index; the call on a memory operand reads one span besides
abbrev pub address_reads : InstructionArgument → Span → Spans
address_reads (arg.Register r) besides = nothing
address_reads (arg.Immediate v) besides = nothing
address_reads (arg.EffectiveAddress b i k d) besides = spans (part_span b) (part_span i) besides none

-- an operand read: a register by its own row; at an address the lanes read of base and index, and CR3 (RULES 8.2)
abbrev pub operand_reads : InstructionArgument → Spans
operand_reads (arg.Register r) = spans (read_span r) none none none
operand_reads (arg.Immediate v) = nothing
operand_reads (arg.EffectiveAddress b i k d) = address_reads (arg.EffectiveAddress b i k d) cr3_places

abbrev pub operand_rewrites : InstructionArgument → Spans
operand_rewrites (arg.Register r) = spans (rewrite_span r) none none none
operand_rewrites (arg.Immediate v) = nothing
operand_rewrites (arg.EffectiveAddress b i k d) = nothing

-- those with carry or borrow read Carry
abbrev pub operation_reads : Operation → Spans
operation_reads Add = nothing
operation_reads AddWithCarry = spans (flag_span Carry) none none none
operation_reads Subtract = nothing
operation_reads SubtractWithBorrow = spans (flag_span Carry) none none none
operation_reads Compare = nothing

-- Parity, Zero and Sign: either form of the flag call rewrites them
abbrev pub three_flags : Spans
three_flags = spans (flag_span Parity) (flag_span Zero) (flag_span Sign) none

-- every operation rewrites Carry, Parity, Zero and Sign, four places from Carry's on, and Overflow
abbrev pub five_flags : Spans
five_flags = spans (span (flag_place Carry) 4) (flag_span Overflow) none none

-- the rows, call by call (RULES 8.2)
unfoldable pub reads_of : Call → Spans
reads_of (ReadOperand a z) = operand_reads a
reads_of (WriteOperand a z v) = address_reads a cr3_places
reads_of (EffectiveAddress a) = address_reads a none
reads_of Push = spans rsp_places cr3_places none none
reads_of Pop = spans rsp_places cr3_places none none
reads_of (ReadMemory a) = spans cr3_places none none none
reads_of (WriteMemory a) = spans cr3_places none none none
reads_of (TestFlag f) = spans (flag_span f) none none none
reads_of (SetFlag f b) = nothing
reads_of (ComputeFlags x z) = nothing
reads_of (ComputeSizedFlags x z) = nothing
reads_of (Arithmetic o z a b) = operation_reads o

unfoldable pub rewrites_of : Call → Spans
rewrites_of (ReadOperand a z) = nothing
rewrites_of (WriteOperand a z v) = operand_rewrites a
rewrites_of (EffectiveAddress a) = nothing
rewrites_of Push = spans rsp_places none none none
rewrites_of Pop = spans rsp_places none none none
rewrites_of (ReadMemory a) = nothing
rewrites_of (WriteMemory a) = nothing
rewrites_of (TestFlag f) = nothing
rewrites_of (SetFlag f b) = spans (flag_span f) none none none
rewrites_of (ComputeFlags x z) = three_flags
rewrites_of (ComputeSizedFlags x z) = three_flags
rewrites_of (Arithmetic o z a b) = five_flags

-- what reaches memory (RULES 8.2): a memory operand, push and pop, read and write memory
abbrev pub operand_reaches : InstructionArgument → Bool
operand_reaches (arg.Register r) = false
operand_reaches (arg.Immediate v) = false
operand_reaches (arg.EffectiveAddress b i k d) = true

unfoldable pub reaches : Call → Bool
reaches (ReadOperand a z) = operand_reaches a
reaches (WriteOperand a z v) = operand_reaches a
reaches (EffectiveAddress a) = false
reaches Push = true
reaches Pop = true
reaches (ReadMemory a) = true
reaches (WriteMemory a) = true
reaches (TestFlag f) = false
reaches (SetFlag f b) = false
reaches (ComputeFlags x z) = false
reaches (ComputeSizedFlags x z) = false
reaches (Arithmetic o z a b) = false

-- place p stands in the span, or in one of the four
unfoldable pub in_span : Span → ℕ → Bool
in_span s p = leb s.start p && ltb p (s.start + s.count)

unfoldable pub in_spans : Spans → ℕ → Bool
in_spans s p = in_span s.one p || (in_span s.two p || (in_span s.three p || in_span s.four p))

-- the spans hold no place but the 182
pub record Inside (s : Spans) : Type 0 where
  pub one : s.one.start + s.one.count ≤ 182
  pub two : s.two.start + s.two.count ≤ 182
  pub three : s.three.start + s.three.count ≤ 182
  pub four : s.four.start + s.four.count ≤ 182
