-- `fields::even_parity` meets its contract: it counts the ones of the low byte, as the definition does. Assumes nothing.
use mathlib.Core.Path.{refl}
use Rattle.fields.specs.FlagBits.{even_ones}
use Rattle.fields.proofs.even_parity.Goals as goal

pub returns : goal.returns
unfolding even_ones
returns c = refl
