-- `utils::word_to_bytes` meets its contract: std's eight quotients, of what is the word, are the bytes (Bytes, `to_eight`). Assumes
-- nothing.
use Rattle.std.proofs.Common.{◌≡◌, ◌∙◌, ℕ, List, ap, arith}
use Rattle.utils.specs.Bytes.{to_bytes}
use Rattle.utils.proofs.Bytes.{to_eight}
use Rattle.utils.proofs.word_to_bytes.Goals as goal

-- the same where the code gives the word as another sum
bytes_of : (x w : ℕ) {l : List ℕ} → x ≡ w → l ≡ to_bytes 8 x → l ≡ to_bytes 8 w
bytes_of x w e h = h ∙ ap (λ (n : ℕ). to_bytes 8 n) e

pub returns : goal.returns
returns c = bytes_of _ c.args.word (omega arith) (c.to_le_bytes.ensures ∙ to_eight _)
