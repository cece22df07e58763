-- `plus` gives `added`: its steps are those of the law `plus_is`. Assumes nothing.
use Rattle.std.proofs.Common.{◌≡◌, Bool, true, false, refl}
use Rattle.std.specs.Int.{from_bool}
use Rattle.fields.specs.FlagBits.{bool_bit}
use Rattle.arithmetic.proofs.Adding.{plus_is}
use Rattle.arithmetic.proofs.plus.Goals as goal

-- a flag as a number is std's
flag_is : (b : Bool) → from_bool b ≡ bool_bit b
flag_is true = refl
flag_is false = refl

pub returns : goal.returns
returns c =
    rw (
      c.overflows.ensures,
      c.sign_bit-3.ensures,
      c.sign_bit-2.ensures,
      c.sign_bit.ensures,
      c.passes.ensures,
      c.cut_to-value.ensures,
      c.from.ensures,
      flag_is c.args.carry,
      c.cut_to-partial.ensures,
      c.cut_to-y.ensures,
      c.cut_to-x.ensures,
    )
    (plus_is c.args.size c.args.a c.args.b c.args.carry)
