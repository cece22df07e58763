-- The words of a record (docs/FORMAT.md): "Every number is a 64-bit word, low byte first".
use Rattle.std.specs.Prelude.{cond, List, ℕ, ◌+◌, ◌*◌, ◌/◌, ltb, length}
use Rattle.byte_runs.specs.Runs.{word_in}
use Rattle.wire_records.specs.Kinds.{kind_at}
use Rattle.wire_records.specs.declared.Header.{Header}
use Rattle.wire_records.specs.declared.OperandWords.{OperandWords}
use Rattle.wire_records.specs.declared.kinds.Kind.TheVariants.{Unknown}

-- a record's sixteen words: the number of its kind, length, size, a, b, c, and five of each operand
abbrev pub operand_words_at : List ℕ → ℕ → OperandWords
operand_words_at b at = record {
  kind = word_in b at;
  base = word_in b (at + 8);
  index = word_in b (at + 16);
  scale = word_in b (at + 24);
  value = word_in b (at + 32);
}

abbrev pub header_at : List ℕ → ℕ → Header
header_at b at = record {
  kind = kind_at (word_in b at);
  length = word_in b (at + 8);
  size = word_in b (at + 16);
  a = word_in b (at + 24);
  b = word_in b (at + 32);
  c = word_in b (at + 40);
  first = operand_words_at b (at + 48);
  second = operand_words_at b (at + 88);
}

-- words that are all 0, of which a header is of an unknown kind, and the k-th header of those that stand end to end in a block
abbrev pub no_operand : OperandWords
no_operand = record { kind = 0; base = 0; index = 0; scale = 0; value = 0 }

abbrev pub no_header : Header
no_header = record { kind = Unknown; length = 0; size = 0; a = 0; b = 0; c = 0; first = no_operand; second = no_operand }

unfoldable pub header_in : List ℕ → ℕ → Header
header_in b k = cond (ltb k (length b / 128)) (header_at b (128 * k)) no_header
