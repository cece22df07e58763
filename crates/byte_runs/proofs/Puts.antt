-- Runs of bytes and words: what a test of room says, when `FilledIf` holds, and the bytes of words end to end. By cases and by the laws of
-- `filled`. Assumes nothing.
use mathlib.Core.Bool.{Bool, true, false, not, ◌&&◌}
use mathlib.Core.List.{List}
use mathlib.Core.Path.{◌≡◌, refl, sym, ap, ◌∙◌}
use Prim.Native.Nat.{ℕ, ◌+◌, ◌*◌, ◌/◌, ◌%◌, ◌-◌, ◌<◌, ◌≤◌}
use native.Mathlib.Omega.{arith}
use native.Mathlib.Nat.{zero-add, add-zero}
use borrow.Author.Tests.{not-true, not-false, leb-true, leb-false, le-leb, lt-leb}
use lib.Dec.{leb}
use lib.ListN.{length, get_or, take, drop, replicate, length-drop}
use Rattle.std.proofs.lemmas.List.{length-take-le, get_or-take, get_or-drop, length-replicate, get_or-replicate}
use borrow.Rule.Slice.PartMut.{put_mid}
use Rattle.utils.specs.Bytes.{to_bytes, from_bytes}
use Rattle.utils.proofs.Bytes.{byte_lane}
use Rattle.byte_runs.proofs.Filled.{is_tab, filled_add, filled_ext, part_filled}
use Rattle.byte_runs.specs.Runs.{tabulate, filled, room, word_from, word_in, lane_in, copied_from, FilledIf}

pub room_yes : (len at n : ℕ) → at + n ≤ len → room len at n ≡ true
unfolding room
room_yes len at n h = le-leb (at + n) len h

pub room_no : (len at n : ℕ) → len < at + n → room len at n ≡ false
unfolding room
room_no len at n h = lt-leb (at + n) len h

pub room_le : (len at n : ℕ) → room len at n ≡ true → at + n ≤ len
unfolding room
room_le len at n e = leb-true (at + n) len e

-- the answer of `has_room`, where the code goes on and where it does not
pub has : (len at n : ℕ) (r : Bool) → r ≡ room len at n → not r ≡ false → at + n ≤ len
unfolding room
has len at n r e h = room_le len at n (sym e ∙ not-false r h)

pub lacks : (len at n : ℕ) (r : Bool) → r ≡ room len at n → not r ≡ true → room len at n ≡ false
lacks len at n r e h = sym e ∙ not-true r h

-- a test without the sum
pub room_by : (len at n : ℕ) → at ≤ len → leb n (len - at) ≡ room len at n
unfolding room
room_by len at n h = go (leb n (len - at)) refl
  where
    go : (t : Bool) → leb n (len - at) ≡ t → t ≡ room len at n
    go true e = sym (room_yes len at n (omega (arith, h, leb-true n (len - at) e)))
    go false e = sym (room_no len at n (omega (arith, h, leb-false n (len - at) e)))

pub put_none : {ok : Bool} {d : List ℕ} {at : ℕ} {f : ℕ → ℕ} {n : ℕ} → ok ≡ false → FilledIf ok d at f n d false
put_none e = record { done = sym e; bytes = rw e }

pub put_done : {ok : Bool} {d d' : List ℕ} {at : ℕ} {f : ℕ → ℕ} {n : ℕ} → ok ≡ true → d' ≡ filled d at f n
    → FilledIf ok d at f n d' true
put_done e h = record { done = sym e; bytes = rw e h }

pub put_was : {ok : Bool} {d d' : List ℕ} {at : ℕ} {f : ℕ → ℕ} {n : ℕ} {r : Bool}
    → FilledIf ok d at f n d' r → ok ≡ true → d' ≡ filled d at f n
put_was p e = rw e at p.bytes

-- a copy, where both have room
pub put_copied : {d d' : List ℕ} {at n : ℕ} {r : Bool} (src : List ℕ) (from : ℕ)
    → FilledIf (room (length src) from n && room (length d) at n) d at (copied_from src from) n d' r
    → from + n ≤ length src → at + n ≤ length d → d' ≡ filled d at (copied_from src from) n
put_copied {d} {d'} {at} {n} src from p s t = put_was p (rw (room_yes (length src) from n s, room_yes (length d) at n t))

-- byte j of word k, among the bytes of words end to end
pub byte_of_word : (ws : List ℕ) (k j : ℕ) → j < 8 → copied_from (to_bytes 8 (get_or ws k 0)) 0 j ≡ lane_in ws (8 * k + j)
unfolding lane_in
byte_of_word ws k j lt =
    let q : (8 * k + j) / 8 ≡ k = omega arith in
    let r : (8 * k + j) % 8 ≡ j = omega arith in
    rw (zero-add j, q, r) (byte_lane 8 (get_or ws k 0) j lt)

-- one word more
pub word_more : (d : List ℕ) (at : ℕ) (ws : List ℕ) (k : ℕ)
    → filled (filled d at (lane_in ws) (8 * k)) (at + 8 * k) (copied_from (to_bytes 8 (get_or ws k 0)) 0) 8
    ≡ filled d at (lane_in ws) (8 * (k + 1))
word_more d at ws k =
    filled_ext (filled d at (lane_in ws) (8 * k)) (at + 8 * k) (copied_from (to_bytes 8 (get_or ws k 0)) 0)
    (λ (j : ℕ). lane_in ws (8 * k + j)) 8 (byte_of_word ws k)
    ∙ filled_add d at (lane_in ws) (8 * k) 8
    ∙ ap (λ (n : ℕ). filled d at (lane_in ws) n) (omega arith)

-- no two answers, and no two lists, meet one contract
pub put_one : {ok r q : Bool} {l l' l'' : List ℕ} {at n : ℕ} {f : ℕ → ℕ}
    → FilledIf ok l at f n l' r → FilledIf ok l at f n l'' q → (r ≡ q) × (l' ≡ l'')
put_one a b = (a.done ∙ sym b.done, a.bytes ∙ sym b.bytes)

-- what a copy of a part, and a fill of one, leave: k is how the code gives the part's length
pub put_copy : (dst src ys : List ℕ) (at from n k : ℕ) → k ≡ n → at + n ≤ length dst → length ys ≡ n
    → ((j : ℕ) → j < n → get_or ys j 0 ≡ copied_from src from j) → put_mid at k dst ys ≡ filled dst at (copied_from src from) n
put_copy dst src ys at from n k q r size same = rw q (part_filled dst at (copied_from src from) n ys r size same)

pub put_fill : (dst ys : List ℕ) (at n k m v : ℕ) → k ≡ n → m ≡ n → at + n ≤ length dst → ys ≡ replicate m v
    → put_mid at k dst ys ≡ filled dst at (λ (j : ℕ). v) n
put_fill dst ys at n k m v q p r e =
    rw (q, e, p) (part_filled dst at (λ (j : ℕ). v) n (replicate n v) r (length-replicate n v) (λ j lt. get_or-replicate n j v 0 lt))

-- the eight bytes that a slice begins with, as the word that stands there
pub word_there : (b w : List ℕ) (at x : ℕ) → at + 8 ≤ length b → w ≡ take 8 (drop at b) → x ≡ from_bytes w → x ≡ word_in b at
unfolding word_in word_from tabulate
word_there b w at x h e q =
    let size : length (take 8 (drop at b)) ≡ 8 = length-take-le 8 (drop at b) (omega (arith, length-drop at b)) in
    let bytes : take 8 (drop at b) ≡ tabulate (λ k. get_or b (at + k) 0) 8 =
    is_tab (take 8 (drop at b)) (λ k. get_or b (at + k) 0) 8 size (λ k lt. get_or-take 8 (drop at b) k 0 lt ∙ get_or-drop at b k 0) in
    q ∙ rw (e, bytes, room_yes (length b) at 8 h, add-zero)
