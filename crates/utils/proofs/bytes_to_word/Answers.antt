-- `utils::bytes_to_word` meets its contract: std's sum of eight is the bytes' number (Bytes, `from_eight`). Assumes nothing.
use Rattle.std.proofs.Common.{◌∙◌}
use Rattle.utils.proofs.Bytes.{from_eight}
use Rattle.utils.proofs.bytes_to_word.Goals as goal

pub returns : goal.returns
returns c = c.from_le_bytes.ensures ∙ from_eight c.args.bytes c.well_formed.0.1.0.1
