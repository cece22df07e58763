-- `with_flags` gives `flags_of`, which sets Parity before Zero and Sign, and `fields::computed_flags` after: flags of different bits may be
-- set in either order. Assumes nothing.
use Rattle.std.specs.Prelude.{◌==◌}
use Rattle.std.proofs.Common.{◌≡◌, ◌∙◌, ap, Bool, ℕ, arith, inl}
use Rattle.instruction_set.specs.declared.Flags.TheVariants.{Carry, Zero, Sign, Parity}
use Rattle.fields.specs.FlagBits.{put_flag, sign_in, even_ones}
use Rattle.fields.proofs.FlagLaws.{flag_swap}
use Rattle.arithmetic.specs.Sums.{flags_of}
use Rattle.arithmetic.proofs.with_flags.Goals as goal

parity_first : (x : ℕ) (z s p : Bool)
    → put_flag (put_flag (put_flag x Zero z) Sign s) Parity p ≡ put_flag (put_flag (put_flag x Parity p) Zero z) Sign s
parity_first x z s p =
    flag_swap (put_flag x Zero z) Sign Parity s p (inl (omega arith))
    ∙ ap (λ (y : ℕ). put_flag y Sign s) (flag_swap x Zero Parity z p (inl (omega arith)))

pub returns : goal.returns
unfolding flags_of
returns c =
    let v = c.args.sum.value in
    let p = parity_first (put_flag c.args.rflags Carry c.args.sum.carry) (v == 0) (sign_in c.args.size v) (even_ones v) in
    rw (c.with_flag.ensures, c.computed_flags-computed.ensures, c.with_flag-carry.ensures, p)
