-- `machine_state::MachineState::mem_read` meets its contract: what mmu's read ensures, put into the machine's answer
-- (Steps, `read_left`). Assumes nothing.
use Rattle.machine_state.proofs.Steps.{read_left}
use Rattle.machine_state.proofs.MachineState.mem_read.Goals as goal

pub returns : goal.returns
returns c =
    rw (c.quietly.ensures, c.from_memory.ensures)
    (read_left c.args.self c.args.dir.now c.args.bytes.now c.args.used
    c.args.address c.args.out.now _ c.mem_read-answer.result c.mem_read-answer.ensures.0
    c.mem_read-answer.ensures.1)
