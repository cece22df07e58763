-- Which records have a block, and how long it must be (docs/FORMAT.md). The report's is of any length here: that it is whole headers, and
-- how many, is session's (`whole`, wire_session/specs/Reports.antt).
use Rattle.std.specs.Prelude.{Bool, true, ℕ, ◌+◌, ◌*◌, eqb}
use Rattle.wire_records.specs.declared.Header.{Header}
use Rattle.wire_records.specs.declared.blocks.Block.{Block}
use Rattle.wire_records.specs.declared.blocks.Block.TheVariants.{Nothing, Bytes, Machine, TwoHeaders}
use Rattle.wire_records.specs.declared.kinds.CallKind.{CallKind}
use Rattle.wire_records.specs.declared.kinds.CallKind.TheVariants as call
use Rattle.wire_records.specs.declared.kinds.Kind.{Kind}
use Rattle.wire_records.specs.declared.kinds.Kind.TheVariants as kind
use Rattle.wire_records.specs.declared.kinds.ShowKind.{ShowKind}
use Rattle.wire_records.specs.declared.kinds.ShowKind.TheVariants as show

abbrev pub call_block : CallKind → Block
call_block call.ReadOperand = Nothing
call_block call.WriteOperand = Nothing
call_block call.EffectiveAddress = Nothing
call_block call.Push = Bytes
call_block call.Pop = Nothing
call_block call.ReadMemory = Nothing
call_block call.WriteMemory = Bytes
call_block call.TestFlag = Nothing
call_block call.SetFlag = Nothing
call_block call.ComputeFlags = Nothing
call_block call.Arithmetic = Nothing
call_block call.ComputeSizedFlags = Nothing

abbrev pub show_block : ShowKind → Block
show_block show.PageView = Nothing
show_block show.Load = Bytes
show_block show.ShowMachine = Nothing
show_block show.ShowDirectory = Nothing
show_block show.ShowBytes = Nothing
show_block show.Report = Bytes

abbrev pub block_of : Kind → Block
block_of kind.Unknown = Nothing
block_of (kind.Call c) = call_block c
block_of kind.ReadByte = Nothing
block_of (kind.Access x) = Nothing
block_of (kind.Show x) = show_block x
block_of (kind.Text t) = Nothing
block_of kind.Reset = Machine
block_of kind.ReadBack = Bytes
block_of kind.Depends = TwoHeaders

-- the machine's 25 words, then the directory's
abbrev pub reset_length : ℕ → ℕ
reset_length slots = 200 + 8 * slots

-- whether a block may have n bytes; a reset's, with so many slots
abbrev pub fits_for : Block → ℕ → ℕ → Bool
fits_for Nothing n slots = eqb n 0
fits_for Bytes n slots = true
fits_for Machine n slots = eqb n (reset_length slots)
fits_for TwoHeaders n slots = eqb n 256

unfoldable pub block_fits : Header → Bool
block_fits h = fits_for (block_of h.kind) h.length h.a
