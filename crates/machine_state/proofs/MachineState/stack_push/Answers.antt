-- `machine_state::MachineState::stack_push` meets its contract: the write's contract, then rsp moved (Steps,
-- `rsp_after`); the address is rsp less the length. Assumes nothing.
use Rattle.store.specs.Store.{store_of}
use Rattle.std.proofs.Common.{◌+◌, ◌-◌, ◌%◌, ◌^◌, ◌≡◌, ℕ, length, get_or, ap, ◌∙◌, arith}
use Rattle.machine_state.specs.Memory.{rsp_if_accepted, write_memory, minus64, pushed}
use Rattle.machine_state.proofs.Steps.{rsp_after}
use Rattle.machine_state.proofs.MachineState.stack_push.Goals as goal

pub returns : goal.returns
unfolding pushed
returns c =
    let m = c.args.self in
    let s = store_of c.args.dir.now c.args.bytes.now c.args.used in
    let l = c.args.«data».now in
    let rsp = get_or m.regs 4 0 in
    let to : ℕ = (rsp + (2 ^ 64 - length l)) % 2 ^ 64 in
    let small : length l % 2 ^ 64 ≡ length l = omega arith in
    let e : to ≡ minus64 rsp (length l) = rw small in
    rw c.with_rsp.ensures
    (rsp_after c.mem_write-written.result _ _ l to
    ∙ ap (λ r. rsp_if_accepted r to) c.mem_write-written.ensures
    ∙ ap (λ x. rsp_if_accepted (write_memory m s x l) x) e)
