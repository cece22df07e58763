-- `machine_state::calculate_effective_address` meets its contract: each case of the operand's parts is one of the
-- definition's, and a sum that is cut at each step is the sum that is cut once. Assumes nothing.
use Rattle.std.proofs.Common.{ℤ, SFits, to_z, ◌≡◌, ℕ, ◌+◌, ◌%◌, ◌^◌, [], ◌∷◌, refl, ap, ◌∙◌, ⊎_elim, arith, w32, w64, of_z}
use denote.Enum.Declared.{tag_of}
use types.Run.{OneOf}
use Rattle.utils.specs.Outcome.{gives, refuses}
use Rattle.utils.proofs.TwosComplement.{through}
use Rattle.instruction_set.specs.contracts.InstructionArgument.{the_type}
use Rattle.instruction_set.specs.declared.InstructionArgument.{InstructionArgument}
use Rattle.instruction_set.specs.declared.InstructionArgument.TheVariants as arg
use Rattle.machine_state.specs.Address.{address_of}
use Rattle.machine_state.specs.declared.MachineState.{MachineState}
use borrow.Enum.Refused.{opened}
use Rattle.machine_state.proofs.MachineState.calculate_effective_address.Goals as goal

-- the displacement's 64 bits
offset_is : (f d : ℤ) (w : ℕ) → w ≡ of_z w64 (to_z w64 (of_z w64 f)) → f ≡ to_z w32 (of_z w32 d) → SFits w32 d → w ≡ of_z w64 d
offset_is f d w e g s = e ∙ ap (of_z w64) (ap (λ (z : ℤ). to_z w64 (of_z w64 z)) g ∙ through w32 d s tt)

-- each step of the code cuts to 64 bits; the definition cuts the whole sum
cut_once : (x w q : ℕ) → ((x + w) % 2 ^ 64 + q % 2 ^ 64) % 2 ^ 64 ≡ (x + q + w) % 2 ^ 64
cut_once x w q = omega arith

-- the operands that are no address, by the tags of the match's other arm
not_address : (m : MachineState) (a : InstructionArgument) → OneOf (0 ∷ 1 ∷ []) (tag_of the_type a) → refuses 1 ≡ address_of m a
unfolding address_of
not_address m (arg.Immediate v) h = refl
not_address m (arg.Register r) h = refl
not_address m (arg.EffectiveAddress b i s d) h = absurd (⊎_elim (λ e. omega arith) (λ e. omega arith) h)

-- no address
pub returns-in_default : goal.returns-in_default
returns-in_default c = not_address c.args.self c.args.arg (opened c.in_default.in_default-own.keys2)

-- no index
pub returns-in_default-index : goal.returns-in_default-index
unfolding address_of
returns-in_default-index c =
    let d = c.in-EffectiveAddress.displacement in
    let w = offset_is _ d _ c.word_of-offset.ensures c.from.ensures
    (record { sfits = c.in-EffectiveAddress.known_told-1-own.given.1.1.1.0.1 }) in
    rw (c.in-EffectiveAddress.is, c.in_default-index.is) (rw (c.base_value.ensures, w))

-- an index without a scale
pub returns-in_default-scale : goal.returns-in_default-scale
unfolding address_of
returns-in_default-scale c = rw (c.in-EffectiveAddress.is, c.in-Some.is, c.in_default-scale.is)

-- an index times a scale
pub returns : goal.returns
unfolding address_of
returns c =
    let d = c.in-EffectiveAddress.displacement in
    let w = offset_is _ d _ c.word_of-offset.ensures c.from.ensures
    (record { sfits = c.in-EffectiveAddress.known_told-1-own.given.1.1.1.0.1 }) in
    rw (c.in-EffectiveAddress.is, c.in-Some.is, c.in-Some-scale.is)
    (rw (c.wrapping_mul-scaled.ensures, c.from-2.ensures, c.get_register_value.ensures, c.base_value.ensures, w)
    (ap (λ (a : ℕ). gives (a ∷ [])) (cut_once _ _ _)))
