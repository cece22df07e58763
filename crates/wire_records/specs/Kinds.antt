-- The kinds of records by their numbers (docs/FORMAT.md).
use Rattle.std.specs.Prelude.{List, [], ◌∷◌, ℕ, get_or}
use Rattle.wire_records.specs.declared.kinds.AccessKind.TheVariants.{SelectSize, OneArgument, TwoArguments}
use Rattle.wire_records.specs.declared.kinds.CallKind.TheVariants as call
use Rattle.wire_records.specs.declared.kinds.Kind.{Kind}
use Rattle.wire_records.specs.declared.kinds.Kind.TheVariants as kind
use Rattle.wire_records.specs.declared.kinds.ShowKind.TheVariants as show
use Rattle.wire_records.specs.declared.kinds.TextKind.TheVariants as text

-- from number 0 on, as KINDS of src/kinds.rt has them, line by line
abbrev pub kinds : List Kind
kinds =
    kind.Unknown ∷  -- 0
    kind.Call call.ReadOperand ∷  -- 1
    kind.Call call.WriteOperand ∷  -- 2
    kind.Call call.EffectiveAddress ∷  -- 3
    kind.Call call.Push ∷  -- 4
    kind.Call call.Pop ∷  -- 5
    kind.Call call.ReadMemory ∷  -- 6
    kind.Call call.WriteMemory ∷  -- 7
    kind.Call call.TestFlag ∷  -- 8
    kind.Call call.SetFlag ∷  -- 9
    kind.Call call.ComputeFlags ∷  -- 10
    kind.ReadByte ∷  -- 11
    kind.Call call.Arithmetic ∷  -- 12
    kind.Call call.ComputeSizedFlags ∷  -- 13
    kind.Unknown ∷  -- 14
    kind.Unknown ∷  -- 15
    kind.Access SelectSize ∷  -- 16
    kind.Access OneArgument ∷  -- 17
    kind.Access TwoArguments ∷  -- 18
    kind.Unknown ∷  -- 19
    kind.Show show.PageView ∷  -- 20
    kind.Unknown ∷  -- 21
    kind.Unknown ∷  -- 22
    kind.Unknown ∷  -- 23
    kind.Reset ∷  -- 24
    kind.Show show.Load ∷  -- 25
    kind.Show show.ShowMachine ∷  -- 26
    kind.Show show.ShowDirectory ∷  -- 27
    kind.Show show.ShowBytes ∷  -- 28
    kind.Unknown ∷  -- 29
    kind.Unknown ∷  -- 30
    kind.Unknown ∷  -- 31
    kind.Text text.OperandText ∷  -- 32
    kind.Text text.ArgumentsText ∷  -- 33
    kind.Text text.StateText ∷  -- 34
    kind.Text text.EventText ∷  -- 35
    kind.Text text.PlainText ∷  -- 36
    kind.Text text.RegisterText ∷  -- 37
    kind.ReadBack ∷  -- 38
    kind.Unknown ∷  -- 39
    kind.Show show.Report ∷  -- 40
    kind.Depends ∷  -- 41
    []

-- what stands at a number; all past the last are unknown
unfoldable pub kind_at : ℕ → Kind
kind_at n = get_or kinds n kind.Unknown
