-- `machine_state::MachineState::store` meets its contract: the low bytes of the value are written (Steps, `store_left`). Assumes nothing.
use Rattle.machine_state.proofs.Steps.{store_left}
use Rattle.utils.specs.Bytes.{to_bytes}
use Rattle.utils.proofs.Bytes.{length_to_bytes}
use Rattle.std.proofs.Common.{sym, arith, length-take-le}
use Rattle.instruction_set.proofs.Bounds.{bytes_within}
use Rattle.machine_state.proofs.MachineState.store.Goals as goal

pub slice_bounds-word-end : goal.slice_bounds-word-end
slice_bounds-word-end c =
    omega (arith, bytes_within c.args.size, c.size_bytes-n.ensures)

pub slice_bounds-mem_write-end : goal.slice_bounds-mem_write-end
slice_bounds-mem_write-end c =
    rw c.word_to_bytes-word.ensures
    (sym (length-take-le c.size_bytes-n.result (to_bytes 8 c.args.value)
    (omega (
      arith,
      length_to_bytes 8 c.args.value,
      bytes_within c.args.size,
      c.size_bytes-n.ensures,
    ))))

pub returns : goal.returns
returns c =
    let h = bytes_within c.args.size in
    store_left c.args.self _ c.args.address c.size_bytes-n.result c.args.value
    c.args.size c.mem_write.result _ _ c.size_bytes-n.ensures
    (omega (arith, h, c.size_bytes-n.ensures))
    (rw c.word_to_bytes-word.ensures at c.mem_write.ensures)
