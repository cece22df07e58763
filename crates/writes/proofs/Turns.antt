-- One turn of the loop that writes page by page: how a part joins those before it, and that there is room for it; and a write within one
-- page that has a slot, which is one part. The idea: a part is `written` from the function "byte k of the access", so that parts end to end
-- are one (store: Slot.written-add).
use Rattle.std.specs.Prelude.{Some, None}
use mathlib.Core.Path.{◌≡◌, refl, sym, ap, ◌∙◌}
use mathlib.Core.List.{List}
use Prim.Native.Nat.{ℕ, zero, suc, ◌+◌, ◌-◌, ◌*◌, ◌/◌, ◌%◌, ◌<◌, ◌≤◌}
use native.Mathlib.Nat.{zero-add}
use native.Mathlib.Omega.{arith}
use lib.ListN.{length, take, drop}
use Rattle.std.proofs.lemmas.List.{length-take-le, length-drop, get_or-take, get_or-drop}
use Rattle.byte_runs.specs.Runs.{filled, copied_from}
use Rattle.store.specs.Store.{Store, store_of, pages_in_use, found_in, slot_taken, with_page, written, touched, absent_of}
use Rattle.store.specs.Facts.{IsStore, Room, PagePart, Reached}
use Rattle.writes.specs.Writes.{byte_of}
use Rattle.writes.specs.Private.{Fits, Ready}
use Rattle.byte_runs.proofs.Filled.{filled_ext}
use Rattle.store.proofs.Slot.{room_missing, written_here, written_with, written_missing, written_add}
use Rattle.store.proofs.Growth.{written_count, absent_upto, room_at, still}

-- ---- a write within one page that has a slot is one run of bytes
pub part_whole : (s : Store) (p i n : ℕ) (d b : List ℕ) → found_in (pages_in_use s) (p / 4096) ≡ Some i → p % 4096 + n ≤ 4096
    → b ≡ filled s.bytes (4096 * i + p % 4096) (copied_from d 0) n → store_of s.dir b s.used ≡ written s p (byte_of d) n
part_whole s p i n d b e h eb =
    let q : 4096 * (p / 4096) + p % 4096 ≡ p = omega arith in
    let same = filled_ext s.bytes (4096 * i + p % 4096) (copied_from d 0) (byte_of d) n (λ k lt. rw (zero-add k)) in
    ap (λ (l : List ℕ). store_of s.dir l s.used) (eb ∙ same)
    ∙ sym (written_here s (p / 4096) i (p % 4096) (byte_of d) n e h)
    ∙ ap (λ (x : ℕ). written s x (byte_of d) n) q

-- ---- what `write_part` asks and gives
module _ (s : Store) (g off n from len : ℕ) (r : Ready s g off n from len) where
  pub part_at : (i : ℕ) (u : ℕ → ℕ) (b : List ℕ) → found_in (pages_in_use s) g ≡ Some i → b ≡ filled s.bytes (4096 * i + off) u n
      → store_of s.dir b s.used ≡ written s (4096 * g + off) u n
  part_at i u b e eb = ap (λ (l : List ℕ). store_of s.dir l s.used) eb ∙ sym (written_here s g i off u n e r.inside)

  pub part_new : (u : ℕ → ℕ) (t : Store) (b : List ℕ) → found_in (pages_in_use s) g ≡ None → t ≡ slot_taken s g
      → b ≡ filled t.bytes (4096 * s.used + off) u n
      → store_of t.dir b t.used ≡ written s (4096 * g + off) u n
  part_new u t b e et eb =
      ap (λ (l : List ℕ). store_of t.dir l t.used) eb
      ∙ ap (λ (x : Store). store_of x.dir (filled x.bytes (4096 * s.used + off) u n) x.used) et
      ∙ sym (written_missing s r.sound g off u n e (room_missing s r.sound g r.room e) r.some r.inside)

-- ---- a write, part by part
-- there is room for the part of the page that the write has reached
pub ready_part : (s : Store) (p : ℕ) (f : ℕ → ℕ) (len g off done n : ℕ) → Fits s p len → Reached p len g off done → done < len
    → PagePart off (len - done) n
    → Ready (written s p f done) g off n done len
ready_part s p f len g off done n h r lt q =
    let e = r.address lt in
    let up = absent_upto s h.sound p f (suc done) (len - suc done) in
    let le : suc done + (len - suc done) ≡ len = omega arith in
    let more : s.used + absent_of (pages_in_use s) (touched p (suc done)) ≤ length s.dir = omega (arith, h.room, rw le at up) in
    let now : (written s p f (suc done)).used ≤ length s.dir = omega (arith, written_count s h.sound p f (suc done) more) in
    let before = absent_upto s h.sound p f done 1 in
    let one : done + 1 ≡ suc done = omega arith in
    let less : s.used + absent_of (pages_in_use s) (touched p done) ≤ length s.dir = omega (arith, rw one at before) in
    let t = still s h.sound p f done (omega (arith, written_count s h.sound p f done less)) in
    let d : (p + done) / 4096 ≡ g = omega (arith, r.inside) in
    record {
      sound = t.sound;
      room = rw d at (room_at s h.sound p f done now t);
      some = q.some;
      inside = q.inside;
      given = omega (arith, q.within);
    }

pub write_step : (s t u : Store) (p : ℕ) (d : List ℕ) (g off done n : ℕ) → 4096 * g + off ≡ p + done → t ≡ written s p (byte_of d) done
    → u ≡ written t (4096 * g + off) (copied_from d done) n → u ≡ written s p (byte_of d) (done + n)
write_step s t u p d g off done n e et eu = eu ∙ rw (e, et) (written_add s p (byte_of d) done n)

-- ---- a part as the code gives it: a slice of its own
written_ext : (s : Store) (p : ℕ) (f g : ℕ → ℕ) (n : ℕ) → ((k : ℕ) → k < n → f k ≡ g k) → written s p f n ≡ written s p g n
unfolding written
written_ext s p f g zero h = refl
written_ext s p f g (suc n) h = rw (written_ext s p f g n (λ k lt. h k (omega arith)), h n (omega arith))

written_after : (s : Store) → IsStore s → (g off : ℕ) (f : ℕ → ℕ) (n : ℕ) → Room s g → 1 ≤ n → off + n ≤ 4096
    → written (with_page s g) (4096 * g + off) f n ≡ written s (4096 * g + off) f n
written_after s h g off f zero r o b = absurd (omega arith)
written_after s h g off f (suc n) r o b = sym (written_with s h g off f n r b)

-- the bytes d go to the slot of their page, which the page has or took
pub part_put : (s t : Store) (g slot off : ℕ) (d b : List ℕ) → IsStore s → Room s g → 1 ≤ length d → off + length d ≤ 4096
    → t ≡ with_page s g → found_in (pages_in_use t) g ≡ Some slot → b ≡ filled t.bytes (4096 * slot + off) (copied_from d 0) (length d)
    → store_of t.dir b t.used ≡ written s (4096 * g + off) (byte_of d) (length d)
part_put s t g slot off d b h r o i et ef eb =
    let same = filled_ext t.bytes (4096 * slot + off) (copied_from d 0) (byte_of d) (length d) (λ k lt. rw (zero-add k)) in
    ap (λ (l : List ℕ). store_of t.dir l t.used) (eb ∙ same)
    ∙ sym (written_here t g slot off (byte_of d) (length d) ef i)
    ∙ ap (λ (x : Store). written x (4096 * g + off) (byte_of d) (length d)) et
    ∙ written_after s h g off (byte_of d) (length d) r o i

-- one part more; k is how the code gives its length
pub write_more : (s t u : Store) (p : ℕ) (d : List ℕ) (g off done n k : ℕ) → k ≡ n → done + n ≤ length d → 4096 * g + off ≡ p + done
    → t ≡ written s p (byte_of d) done
    → u ≡ written t (4096 * g + off) (byte_of (take k (drop done d))) (length (take k (drop done d)))
    → u ≡ written s p (byte_of d) (done + n)
write_more s t u p d g off done n k q r e et eu =
    let size : length (take n (drop done d)) ≡ n = length-take-le n (drop done d) (omega (arith, length-drop done d)) in
    let part = rw (q, size) at eu in
    write_step s t u p d g off done n e et
    (part ∙ written_ext t (4096 * g + off) (byte_of (take n (drop done d))) (copied_from d done) n
    (λ j lt. get_or-take n (drop done d) j 0 lt ∙ get_or-drop done d j 0))
