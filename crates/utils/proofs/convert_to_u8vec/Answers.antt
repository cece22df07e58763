-- `utils::convert_to_u8vec` meets its contract: each turn takes the rest's lowest byte, which is the value's lane of that index, and in the
-- end two lists of N bytes are alike at each index. Assumes nothing.
use Rattle.std.proofs.Common.{◌≡◌, ◌≢◌, ℕ, ◌+◌, ◌*◌, ◌/◌, ◌%◌, ◌^◌, ◌<◌, length, get_or, set, List, sym, ap, ◌∙◌, arith, of_z, shr-shr}
use Rattle.std.proofs.Common.{below_more, get_or-set_other, get_or-set_same}
use Rattle.std.proofs.Math.ListN.{length-set}
use Rattle.std.proofs.lemmas.Grind.{same_number_lists}
use Rattle.std.specs.Int.{w64}
use mir.ValLaws.{to_z-of_z}
use Rattle.utils.specs.Bytes.{to_bytes}
use Rattle.utils.specs.Word.{cut, lane}
use Rattle.utils.proofs.Bytes.{byte_lane, length_to_bytes}
use Rattle.utils.proofs.convert_to_u8vec.Goals as goal

further : (w r i : ℕ) → r ≡ w / 2 ^ (8 * i) → r / 2 ^ 8 ≡ w / 2 ^ (8 * (i + 1))
further w r i e = ap (λ (x : ℕ). x / 2 ^ 8) e ∙ shr-shr w (8 * i) 8 ∙ ap (λ (n : ℕ). w / 2 ^ n) (omega arith)

lowest : (w r i : ℕ) → r ≡ w / 2 ^ (8 * i) → r % 2 ^ 8 ≡ lane i w
unfolding cut
lowest w r i e = ap (λ (x : ℕ). x % 2 ^ 8) e

written : (w : ℕ) (l : List ℕ) (i b : ℕ) → i < length l → b ≡ lane i w → ((k : ℕ) → k < i → get_or l k 0 ≡ lane k w)
    → (k : ℕ) → k < i + 1 → get_or (set l i b) k 0 ≡ lane k w
written w l i b lt e h =
    below_more (λ (k : ℕ). get_or (set l i b) k 0 ≡ lane k w) i
    (λ k s. let ne : k ≢ i = omega arith in get_or-set_other l i k b 0 ne ∙ h k s)
    (get_or-set_same l i b 0 lt ∙ e)

pub loop-byte-preserved : goal.loop-byte-preserved
loop-byte-preserved g c =
    let e = to_z-of_z w64 c.args.value c.ranges.value in
    let inv = c.loop-byte.invariant in
    let w : ℕ = of_z w64 c.args.value in
    let i = c.loop-byte.byte-index in
    let left : c.loop-byte.rest ≡ w / 2 ^ (8 * i) = rw e at inv.left in
    let lt : c.loop-byte.byte-index < length c.loop-byte.byte-items = omega (arith, inv.whole) in
    record {
      whole = simp length-set inv.whole;
      left = rw e (further w c.loop-byte.rest i left);
      lanes =
          rw e (written w c.loop-byte.byte-items i (c.loop-byte.rest % 2 ^ 8) lt (lowest w c.loop-byte.rest i left) (rw e at inv.lanes));
    }

pub returns : goal.returns
returns g c =
    let inv = c.loop-byte.invariant in
    let w : ℕ = of_z w64 c.args.value in
    let lanes = rw (to_z-of_z w64 c.args.value c.ranges.value) at inv.lanes in
    same_number_lists c.loop-byte.byte-items (to_bytes g.row.N w) (inv.whole ∙ sym (length_to_bytes g.row.N w))
    (λ k s. lanes k (omega (arith, inv.whole)) ∙ sym (byte_lane g.row.N w k (omega (arith, inv.whole))))
