-- `machine_state::MachineState::load` meets its contract: the bytes read, with zeros above them, make a word, and the
-- value is that word at the size (Steps, `load_left`). Assumes nothing.
use Rattle.fields.specs.Parts.{memory_value}
use Rattle.std.proofs.Common.{replicate, sym, ap, ◌∙◌, arith, length-take-le}
use Rattle.machine_state.proofs.Steps.{load_left}
use Rattle.instruction_set.proofs.Bounds.{bytes_within}
use Rattle.machine_state.proofs.MachineState.load.Goals as goal

pub slice_bounds-word-end : goal.slice_bounds-word-end
slice_bounds-word-end c =
    omega (arith, bytes_within c.args.size, c.size_bytes-n.ensures)

pub slice_bounds-mem_read-end : goal.slice_bounds-mem_read-end
slice_bounds-mem_read-end c =
    sym (length-take-le c.size_bytes-n.result (replicate 8 0)
    (omega (arith, bytes_within c.args.size, c.size_bytes-n.ensures)))

pub returns : goal.returns
returns c =
    let n = c.size_bytes-n.result in
    let h = bytes_within c.args.size in
    let v =
    c.memory_value-value.ensures ∙ ap (memory_value c.args.size) c.bytes_to_word.ensures in
    rw c.with_value.ensures
    (load_left c.args.self _ c.args.address n c.args.size c.mem_read-read.result _ _ _ _
    c.size_bytes-n.ensures (omega (arith, h, c.size_bytes-n.ensures)) c.mem_read-read.ensures
    v)
