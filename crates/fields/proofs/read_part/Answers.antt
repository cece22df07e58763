-- `fields::read_part` meets its contract: each arm extends the low bits of the part's first lane on, which is to extend
-- its field. Assumes nothing.
use Rattle.fields.specs.Parts.{read_of}
use Rattle.utils.proofs.Field.{cut_all}
use Rattle.utils.proofs.Extend.{extend_whole, extend_cut, extend_low, extend_none}
use native.Mathlib.Omega.{arith}
use mathlib.Core.Path.{sym, ◌∙◌}
use Rattle.fields.proofs.read_part.Goals as goal

pub returns-in-Whole : goal.returns-in-Whole
unfolding read_of
returns-in-Whole c =
    rw (c.in-Whole.is, cut_all c.args.x 64 c.ranges.x.fits)
    (sym (extend_whole 64 c.args.x (omega arith) c.ranges.x.fits))

pub returns-in-Low32 : goal.returns-in-Low32
unfolding read_of
returns-in-Low32 c =
    rw c.in-Low32.is (c.sign_extend.ensures ∙ extend_low 32 c.args.x)

pub returns-in-Low16 : goal.returns-in-Low16
unfolding read_of
returns-in-Low16 c =
    rw c.in-Low16.is (c.sign_extend-in-Low16.ensures ∙ extend_low 16 c.args.x)

pub returns-in-Low8 : goal.returns-in-Low8
unfolding read_of
returns-in-Low8 c =
    rw c.in-Low8.is (c.sign_extend-in-Low8.ensures ∙ extend_low 8 c.args.x)

pub returns-in-High8 : goal.returns-in-High8
unfolding read_of
returns-in-High8 c =
    rw c.in-High8.is (c.sign_extend-in-High8.ensures ∙ sym (extend_cut 8 8 c.args.x))

pub returns-in-Nothing : goal.returns-in-Nothing
unfolding read_of
returns-in-Nothing c = rw c.in-Nothing.is (sym (extend_none _))
