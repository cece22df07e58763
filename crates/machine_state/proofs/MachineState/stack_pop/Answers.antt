-- `machine_state::MachineState::stack_pop` meets its contract: the load's contract, then rsp moved (Steps, `rsp_after`). Assumes nothing.
use Rattle.std.proofs.Common.{◌+◌, ◌%◌, ◌^◌, [], get_or, ap, ◌∙◌}
use Rattle.machine_state.specs.Memory.{rsp_if_accepted, popped}
use Rattle.machine_state.proofs.Steps.{rsp_after}
use Rattle.machine_state.proofs.MachineState.stack_pop.Goals as goal

pub returns : goal.returns
unfolding popped
returns c =
    let x = (get_or c.args.self.regs 4 0 + 8) % 2 ^ 64 in
    rw c.with_rsp.ensures
    (rsp_after c.load-read.result _ _ [] x ∙ ap (λ r. rsp_if_accepted r x) c.load-read.ensures)
