-- The effective address: base plus index times scale plus displacement, modulo 2^64 (RULES 3.1).
use Rattle.instruction_set.specs.declared.Register.{Register}
use Rattle.std.specs.Prelude.{ℕ, ◌+◌, ◌*◌, ◌%◌, ◌^◌, [], ◌∷◌, ℤ, Option, Some, None}
use Rattle.std.specs.Int.{w64}
use Rattle.std.proofs.Common.{of_z}
use Rattle.utils.specs.Outcome.{Outcome, gives, refuses}
use Rattle.instruction_set.specs.declared.InstructionArgument.{InstructionArgument}
use Rattle.instruction_set.specs.declared.InstructionArgument.TheVariants as arg
use Rattle.machine_state.specs.Machine.{read_reg}
use Rattle.machine_state.specs.declared.MachineState.{MachineState}

-- a base or an index is read as its register is, and counts 0 where it is absent (RULES 3.2)
abbrev pub base_of : MachineState → Option Register → ℕ
base_of m None = 0
base_of m (Some r) = read_reg m r

-- the scale is any byte and is not looked at without an index; 3: an index has no scale (RULES 3.3)
abbrev pub sum_of : MachineState → Option Register → Option Register → Option ℕ → ℤ → Outcome ℕ
sum_of m b None s d = gives ((base_of m b + of_z w64 d) % 2 ^ 64 ∷ [])
sum_of m b (Some r) None d = refuses 3
sum_of m b (Some r) (Some n) d = gives ((base_of m b + read_reg m r * n + of_z w64 d) % 2 ^ 64 ∷ [])

-- 1: a register or an immediate has no address (RULES 5.4)
unfoldable pub address_of : MachineState → InstructionArgument → Outcome ℕ
address_of m (arg.Register r) = refuses 1
address_of m (arg.Immediate v) = refuses 1
address_of m (arg.EffectiveAddress b i s d) = sum_of m b i s d
