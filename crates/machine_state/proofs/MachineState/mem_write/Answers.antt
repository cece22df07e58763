-- `machine_state::MachineState::mem_write` meets its contract: what mmu's write ensures, put into the machine's answer
-- (Steps, `write_left`). Assumes nothing.
use Rattle.machine_state.proofs.Steps.{write_left}
use Rattle.machine_state.proofs.MachineState.mem_write.Goals as goal

pub returns : goal.returns
returns c =
    rw (c.from_memory-answer.ensures, c.event_shown-event.ensures)
    (write_left c.args.self _ _ _ _ c.args.address c.args.«data».now _ _
    c.mem_write-written.ensures)
