-- The row of a part: a read looks at the lanes of its row alone, a write rewrites exactly those of its row, and what is written reads back.
-- From the law of fields, once over the part. Assumes nothing.
use mathlib.Core.Logic.{◌⊎◌, inl, inr}
use mathlib.Core.Path.{◌≡◌, sym, ◌∙◌, ap}
use Prim.Native.Nat.{ℕ, ◌+◌, ◌*◌, ◌%◌, ◌^◌, ◌<◌, ◌≤◌}
use native.Mathlib.Decide.{dec_lt}
use native.Mathlib.Omega.{arith}
use lib.Dec.{leb, leb→le}
use Rattle.utils.specs.Word.{cut, put, lane, extend}
use Rattle.utils.proofs.Field.{cells_fix, put_inside, put_outside, put_lt, cut_mod}
use Rattle.utils.proofs.Extend.{extend_low}
use Rattle.instruction_set.specs.Registers.{first_lane, lanes_read, lanes_rewritten}
use Rattle.instruction_set.specs.declared.Part.{Part}
use Rattle.instruction_set.proofs.Arms.{all}
use Rattle.instruction_set.proofs.Bounds.{rewrites_within}
use Rattle.instruction_set.specs.contracts.Part.{enum}
use Rattle.fields.specs.Parts.{read_of, write_of}

-- words that agree on the lanes of the row read alike
pub read_part_same : (p : Part) (x y : ℕ) → ((k : ℕ) → k < lanes_read p → lane (first_lane p + k) x ≡ lane (first_lane p + k) y)
    → read_of p x ≡ read_of p y
unfolding read_of
read_part_same p x y h =
    ap (extend (8 * lanes_read p))
    (cells_fix 8 x y (8 * first_lane p) (lanes_read p)
    (λ k l. let e : 8 * first_lane p + 8 * k ≡ 8 * (first_lane p + k) = omega arith in rw e (h k l)))

module _ (p : Part) (x v : ℕ) where
  -- a lane of the row takes the value's lane of that position, of as many as the row reads, and 0 above those
  pub write_part_in : (k : ℕ) → k < lanes_rewritten p → lane (first_lane p + k) (write_of p x v) ≡ lane k (v % 2 ^ (8 * lanes_read p))
  unfolding write_of
  write_part_in k h =
      let e : 8 * (first_lane p + k) ≡ 8 * first_lane p + 8 * k = omega arith in
      rw e (put_inside x (8 * first_lane p) (8 * lanes_rewritten p) (v % 2 ^ (8 * lanes_read p)) (8 * k) 8 (omega arith))

  -- every other lane keeps its byte
  pub write_part_out : (j : ℕ) → (first_lane p ≤ j → first_lane p + lanes_rewritten p ≤ j) → lane j (write_of p x v) ≡ lane j x
  unfolding write_of
  write_part_out j h =
      put_outside x (8 * first_lane p) (8 * lanes_rewritten p) (v % 2 ^ (8 * lanes_read p)) (8 * j) 8 (side (dec_lt j (first_lane p)))
    where
      side : Dec (j < first_lane p) → (8 * j + 8 ≤ 8 * first_lane p) ⊎ (8 * first_lane p + 8 * lanes_rewritten p ≤ 8 * j)
      side (yes l) = inl (omega arith)
      side (no n) = inr (let g : first_lane p + lanes_rewritten p ≤ j = h (omega (arith, n)) in omega arith)

  pub write_part_word : x < 2 ^ 64 → write_of p x v < 2 ^ 64
  unfolding write_of
  write_part_word h =
      put_lt x (8 * first_lane p) (8 * lanes_rewritten p) (v % 2 ^ (8 * lanes_read p)) 64 (omega (arith, rewrites_within p)) h

  -- what is written reads back, sign-extended from the part's size
  pub write_part_read : read_of p (write_of p x v) ≡ extend (8 * lanes_read p) v
  unfolding read_of write_of
  write_part_read =
      let r : lanes_read p ≤ lanes_rewritten p =
      leb→le (lanes_read p) (lanes_rewritten p) (all enum (λ q. leb (lanes_read q) (lanes_rewritten q)) tt p) in
      let n = 8 * lanes_read p in
      let e : 8 * first_lane p ≡ 8 * first_lane p + 0 = omega arith in
      ap (extend (8 * lanes_read p))
      (ap (λ (f : ℕ). cut (put x (8 * first_lane p) (8 * lanes_rewritten p) (v % 2 ^ (8 * lanes_read p))) f (8 * lanes_read p)) e
      ∙ put_inside x (8 * first_lane p) (8 * lanes_rewritten p) (v % 2 ^ (8 * lanes_read p)) 0 (8 * lanes_read p) (omega arith)
      ∙ cut_mod v (8 * lanes_read p) 0 (8 * lanes_read p) (omega arith)) ∙ sym
      (extend_low (8 * lanes_read p) v)
