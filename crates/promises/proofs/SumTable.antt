-- The sums and differences worked out by hand, all in one claim, which the checker computes. Assumes nothing.
use mathlib.Core.Path.{◌≡◌, refl}
use lib.Count.{ones, ones_in}
use Rattle.utils.specs.Word.{cut, put, extend}
use Rattle.fields.specs.FlagBits.{bit_set, put_flag, even_ones}
use Rattle.arithmetic.specs.Sums.{signed, outside, added, subtracted, worked_of, flags_of, computed_of}
use Rattle.machine_state.specs.Operating.{operated}
use Rattle.calls.specs.Step.{step}
use Rattle.promises.specs.SumTable.{sum_table}
use Rattle.promises.specs.Table.{all_computed, all_stated}

pub sums_hold : all_computed sum_table ≡ all_stated sum_table
unfolding step operated computed_of worked_of flags_of added subtracted signed outside bit_set put_flag even_ones ones ones_in cut put
    extend
sums_hold = refl
