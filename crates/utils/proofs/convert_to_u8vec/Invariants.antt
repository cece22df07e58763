-- So far each byte is the value's lane of its index, and the rest is what stands above them.
use Rattle.std.proofs.Common.{◌≡◌, ◌*◌, ◌^◌, ◌/◌, ◌<◌, ℕ, length, get_or, of_z}
use Rattle.std.specs.Int.{w64}
use Rattle.utils.specs.Word.{lane}
use Rattle.utils.proofs.convert_to_u8vec.Given as goal

abbrev pub invariant-loop-byte : goal.invariant-loop-byte
invariant-loop-byte g l = record {
  whole : length l.byte-items ≡ g.row.N;
  left : l.rest ≡ of_z w64 l.value / 2 ^ (8 * l.byte-index);
  lanes : (k : ℕ) → k < l.byte-index → get_or l.byte-items k 0 ≡ lane k (of_z w64 l.value);
}
