-- What writing n bytes does, for any n that the store has room for: it stays a store, its count grows by the absent pages touched, the
-- bytes written read as given, every other byte and every slot not touched stay. By induction on the bytes: one byte takes a slot exactly
-- if its page is absent, and the next bytes find it there.
use Rattle.std.specs.Prelude.{Option, Some, None}
use mathlib.Core.Path.{◌≡◌, refl, sym, ap, ◌∙◌}
use mathlib.Core.Logic.{◌⊎◌, inl, inr, ⊎_elim}
use mathlib.Core.List.{List, [], ◌∷◌, ◌++◌}
use Prim.Native.Nat.{ℕ, zero, suc, ◌+◌, ◌-◌, ◌*◌, ◌/◌, ◌%◌, ◌<◌, ◌≤◌}
use native.Mathlib.Nat.{add-zero, zero-add, add-suc, eq-or-lt_of_le}
use native.Mathlib.Omega.{arith}
use native.Mathlib.Decide.{ℕ_discrete}
use lib.ListN.{length, get_or, set, length-set}
use lib.Seq.{get_or-set_same, get_or-set_other, get_or-take}
use Rattle.store.specs.Store.{Store, store_of, pages_in_use, found_in, byte_at, slot_taken_if, with_page, stored, put_byte, written}
use Rattle.store.specs.Store.{slots_needed, pages_from}
use Rattle.store.specs.Store.{touched, absent_of}
use Rattle.store.specs.Facts.{IsStore, Room, no_bytes}
use Rattle.store.proofs.Seek.{seek_at, found_seek}
use Rattle.byte_runs.proofs.Filled.{get_or_filled_other}
use Rattle.store.proofs.Read.{live_len, Place, here, missing, place, byte_here, byte_missing}
use Rattle.store.proofs.Slot.{with_here, with_missing, found_taken, room_missing, sound_with, found_with, other_with, byte_with}

-- ---- one byte, in a page that has a slot
stored_at : (s : Store) (p i b : ℕ) → found_in (pages_in_use s) (p / 4096) ≡ Some i
    → stored s p b ≡ store_of s.dir (set s.bytes (4096 * i + p % 4096) b) s.used
unfolding stored
stored_at s p i b e = rw (found_seek (pages_in_use s) (p / 4096) i e).0

-- two pages in one slot are one page
same_page : (s : Store) (g k i : ℕ) → found_in (pages_in_use s) g ≡ Some i → found_in (pages_in_use s) k ≡ Some i → g ≡ k
same_page s g k i e e' =
    let a = found_seek (pages_in_use s) g i e in
    let b = found_seek (pages_in_use s) k i e' in
    sym (seek_at (pages_in_use s) g (omega arith)) ∙ ap (λ (j : ℕ). get_or (pages_in_use s) j 0) (a.0 ∙ sym b.0)
    ∙ seek_at (pages_in_use s) k (omega arith)

-- a slot found holds the page's number
slot_number : (s : Store) → IsStore s → (g i : ℕ) → found_in (pages_in_use s) g ≡ Some i → get_or s.dir i 0 ≡ g
slot_number s h g i e =
    let a = found_seek (pages_in_use s) g i e in
    let n = live_len s h in
    sym (get_or-take s.used s.dir i 0 (omega arith)) ∙ ap (λ (j : ℕ). get_or (pages_in_use s) j 0) (sym a.0)
    ∙ seek_at (pages_in_use s) g (omega arith)

module _ (s : Store) (h : IsStore s) (p i b : ℕ) (e : found_in (pages_in_use s) (p / 4096) ≡ Some i) where
  stored_same : byte_at (stored s p b) p ≡ b
  stored_same =
      let w = found_seek (pages_in_use s) (p / 4096) i e in
      let n = live_len s h in
      rw (stored_at s p i b e)
      (byte_here (store_of s.dir (set s.bytes (4096 * i + p % 4096) b) s.used) p i e
      ∙ get_or-set_same s.bytes (4096 * i + p % 4096) b 0 (omega (arith, h.fits, h.sized)))

  stored_other : (q : ℕ) → (q ≡ p → ⊥) → byte_at (stored s p b) q ≡ byte_at s q
  stored_other q ne = rw (stored_at s p i b e) (go (place s h (q / 4096)))
    where
      go : Place s (q / 4096) → byte_at (store_of s.dir (set s.bytes (4096 * i + p % 4096) b) s.used) q ≡ byte_at s q
      go (here j lt w f) =
          byte_here (store_of s.dir (set s.bytes (4096 * i + p % 4096) b) s.used) q j f
          ∙ get_or-set_other s.bytes (4096 * i + p % 4096) (4096 * j + q % 4096) b 0
          (λ c. let ij : j ≡ i = omega arith in
          ne (let d : q / 4096 ≡ p / 4096 = same_page s (q / 4096) (p / 4096) i (rw ij at f) e in omega arith))
          ∙ sym (byte_here s q j f)
      go (missing w f) = byte_missing (store_of s.dir (set s.bytes (4096 * i + p % 4096) b) s.used) q f ∙ sym (byte_missing s q f)

  sound_stored : IsStore (stored s p b)
  sound_stored =
      rw (stored_at s p i b e)
      (record { small = h.small; fits = h.fits; sized = length-set s.bytes (4096 * i + p % 4096) b ∙ h.sized })

-- ---- one byte, in a page that has a slot or room for one
module _ (s : Store) (h : IsStore s) (p b : ℕ) (r : Room s (p / 4096)) where
  put_same : byte_at (put_byte s p b) p ≡ b
  unfolding put_byte
  put_same = let w = found_with s h (p / 4096) r in stored_same (with_page s (p / 4096)) (sound_with s h (p / 4096) r) p w.0 b w.1

  put_other : (q : ℕ) → (q ≡ p → ⊥) → byte_at (put_byte s p b) q ≡ byte_at s q
  unfolding put_byte
  put_other q ne = let w = found_with s h (p / 4096) r in
      stored_other (with_page s (p / 4096)) (sound_with s h (p / 4096) r) p w.0 b w.1 q ne ∙ byte_with s h (p / 4096) r q

  put_sound : IsStore (put_byte s p b)
  unfolding put_byte
  put_sound = let w = found_with s h (p / 4096) r in sound_stored (with_page s (p / 4096)) (sound_with s h (p / 4096) r) p w.0 b w.1

  -- its page is there then, and every other page is where it was
  put_found : slots_needed (found_in (pages_in_use (put_byte s p b)) (p / 4096)) ≡ 0
  unfolding put_byte stored
  put_found = ap slots_needed (found_with s h (p / 4096) r).1

  put_others : (k : ℕ) → (p / 4096 ≡ k → ⊥) → found_in (pages_in_use (put_byte s p b)) k ≡ found_in (pages_in_use s) k
  unfolding put_byte stored
  put_others k ne = other_with s h (p / 4096) r k ne

  -- a slot in use whose page is another keeps its bytes
  put_keeps : (i o : ℕ) → i < s.used → o < 4096 → (p / 4096 ≡ get_or s.dir i 0 → ⊥)
      → get_or (put_byte s p b).bytes (4096 * i + o) 0 ≡ get_or s.bytes (4096 * i + o) 0
  unfolding put_byte
  put_keeps i o lt lo ne = go (place s h (p / 4096))
    where
      go : Place s (p / 4096) → get_or (stored (with_page s (p / 4096)) p b).bytes (4096 * i + o) 0 ≡ get_or s.bytes (4096 * i + o) 0
      go (here j lj w f) =
          rw (with_here s (p / 4096) j f) (rw (stored_at s p j b f)
          (get_or-set_other s.bytes (4096 * j + p % 4096) (4096 * i + o) b 0
          (λ c. let ij : j ≡ i = omega arith in ne (sym (rw ij at (slot_number s h (p / 4096) j f))))))
      go (missing w f) =
          let t = with_page s (p / 4096) in
          let e = found_taken s h (p / 4096) (room_missing s h (p / 4096) r f) f w in
          rw (stored_at t p s.used b e)
          (get_or-set_other t.bytes (4096 * s.used + p % 4096) (4096 * i + o) b 0 (λ c. omega arith)
          ∙ ap (λ (x : Store). get_or x.bytes (4096 * i + o) 0) (with_missing s (p / 4096) f)
          ∙ get_or_filled_other s.bytes (4096 * s.used) no_bytes 4096 (4096 * i + o) (inl (omega arith)))

-- the count and the slots after one byte
if_count : (s : Store) (g : ℕ) (f : Option ℕ)
    → ((slot_taken_if s g f).used ≡ s.used + slots_needed f) × (length (slot_taken_if s g f).dir ≡ length s.dir)
if_count s g (Some i) = (omega arith, refl)
if_count s g None = (omega arith, length-set s.dir s.used g)

put_count : (s : Store) (p b : ℕ)
    → ((put_byte s p b).used ≡ s.used + slots_needed (found_in (pages_in_use s) (p / 4096))) × (length (put_byte s p b).dir ≡ length s.dir)
unfolding put_byte stored with_page
put_count s p b = if_count s (p / 4096) (found_in (pages_in_use s) (p / 4096))

-- a slot in use keeps its number
if_number : (s : Store) (g i : ℕ) (f : Option ℕ) → i < s.used → get_or (slot_taken_if s g f).dir i 0 ≡ get_or s.dir i 0
if_number s g i (Some j) lt = refl
if_number s g i None lt = get_or-set_other s.dir s.used i g 0 (λ e. omega arith)

put_number : (s : Store) (p b i : ℕ) → i < s.used → get_or (put_byte s p b).dir i 0 ≡ get_or s.dir i 0
unfolding put_byte stored with_page
put_number s p b i lt = if_number s (p / 4096) i (found_in (pages_in_use s) (p / 4096)) lt

-- ---- the pages touched, one byte more
pages_more : (g k : ℕ) → pages_from g (suc k) ≡ pages_from g k ++ ((g + k) ∷ [])
unfolding pages_from
pages_more g zero = rw (add-zero g)
pages_more g (suc k) =
    let e : g + 1 + k ≡ g + suc k = omega arith in
    ap (λ (l : List ℕ). g ∷ l) (pages_more (g + 1) k ∙ ap (λ (x : ℕ). pages_from (g + 1) k ++ (x ∷ [])) e)

absent_both : (l a b : List ℕ) → absent_of l (a ++ b) ≡ absent_of l a + absent_of l b
unfolding absent_of
absent_both l [] b = sym (zero-add (absent_of l b))
absent_both l (g ∷ a) b = omega (arith, absent_both l a b)

absent_one : (l : List ℕ) (g : ℕ) → absent_of l (g ∷ []) ≡ slots_needed (found_in l g)
unfolding absent_of
absent_one l g = add-zero (slots_needed (found_in l g))

touched_first : (p : ℕ) → touched p 1 ≡ ((p + 0) / 4096) ∷ []
unfolding touched pages_from
touched_first p =
    let e : (p + 0) / 4096 - p / 4096 ≡ 0 = omega arith in
    let d : (p + 0) / 4096 ≡ p / 4096 = omega arith in
    rw (e, d)

touched_same : (p m : ℕ) → (p + suc m) / 4096 ≡ (p + m) / 4096 → touched p (suc (suc m)) ≡ touched p (suc m)
unfolding touched
touched_same p m e = rw e

touched_next : (p m : ℕ) → ((p + suc m) / 4096 ≡ (p + m) / 4096 → ⊥)
    → touched p (suc (suc m)) ≡ touched p (suc m) ++ (((p + suc m) / 4096) ∷ [])
unfolding touched
touched_next p m ne =
    let j = (p + m) / 4096 - p / 4096 in
    let n : (p + suc m) / 4096 ≡ (p + m) / 4096 + 1 = next_page (ℕ_discrete ((p + suc m) / 4096) ((p + m) / 4096)) in
    let e : (p + suc m) / 4096 - p / 4096 ≡ suc j = omega arith in
    let g : p / 4096 + suc j ≡ (p + suc m) / 4096 = omega arith in
    rw e (pages_more (p / 4096) (suc j) ∙ ap (λ (x : ℕ). pages_from (p / 4096) (suc j) ++ (x ∷ [])) g)
  where
    next_page : Dec ((p + suc m) / 4096 ≡ (p + m) / 4096) → (p + suc m) / 4096 ≡ (p + m) / 4096 + 1
    next_page (yes e) = absurd (ne e)
    next_page (no f) = omega arith

-- ---- n bytes
module _ (s : Store) (h : IsStore s) (p : ℕ) (f : ℕ → ℕ) where
  -- while the count stays within the directory, it stays a store
  pub record Still (n : ℕ) : Type 0 where
    pub sound : IsStore (written s p f n)
    pub slots : length (written s p f n).dir ≡ length s.dir

  still_down : (n : ℕ) → (written s p f (suc n)).used ≤ length s.dir → (written s p f n).used ≤ length s.dir
  unfolding written
  still_down n k = omega (arith, (put_count (written s p f n) (p + n) (f n)).0)

  pub room_at : (n : ℕ) → (written s p f (suc n)).used ≤ length s.dir → Still n → Room (written s p f n) ((p + n) / 4096)
  unfolding written
  room_at n k t = omega (arith, (put_count (written s p f n) (p + n) (f n)).0, t.slots)

  pub still : (n : ℕ) → (written s p f n).used ≤ length s.dir → Still n
  unfolding written
  still zero k = record { sound = h; slots = refl }
  still (suc n) k =
      let t = still n (still_down n k) in
      record {
        sound = put_sound (written s p f n) t.sound (p + n) (f n) (room_at n k t);
        slots = (put_count (written s p f n) (p + n) (f n)).1 ∙ t.slots;
      }

  -- the bytes written, and the others
  pub written_in : (n k : ℕ) → (written s p f n).used ≤ length s.dir → k < n → byte_at (written s p f n) (p + k) ≡ f k
  unfolding written
  written_in zero k o lt = absurd (omega arith)
  written_in (suc n) k o lt =
      let o' = still_down n o in
      let t = still n o' in
      ⊎_elim
      (λ (e : suc k ≡ suc n). let q : k ≡ n = omega arith in rw q (put_same (written s p f n) t.sound (p + n) (f n) (room_at n o t)))
      (λ (l : suc k < suc n). put_other (written s p f n) t.sound (p + n) (f n) (room_at n o t) (p + k) (λ c. omega arith)
      ∙ written_in n k o' (omega arith))
      (eq-or-lt_of_le lt)

  pub written_out : (n q : ℕ) → (written s p f n).used ≤ length s.dir → (q < p) ⊎ (p + n ≤ q) → byte_at (written s p f n) q ≡ byte_at s q
  unfolding written
  written_out zero q o w = refl
  written_out (suc n) q o w =
      let o' = still_down n o in
      let t = still n o' in
      put_other (written s p f n) t.sound (p + n) (f n) (room_at n o t) q
      (λ c. ⊎_elim (λ (a : q < p). omega arith) (λ (b : p + suc n ≤ q). omega arith) w)
      ∙ written_out n q o' (⊎_elim (λ (a : q < p). inl a) (λ (b : p + suc n ≤ q). inr (omega arith)) w)

  -- a slot in use keeps its number, and its bytes too if no byte goes to its page
  grows : (n : ℕ) → s.used ≤ (written s p f n).used
  unfolding written
  grows zero = omega arith
  grows (suc n) = omega (arith, grows n, (put_count (written s p f n) (p + n) (f n)).0)

  pub written_number : (n i : ℕ) → i < s.used → get_or (written s p f n).dir i 0 ≡ get_or s.dir i 0
  unfolding written
  written_number zero i lt = refl
  written_number (suc n) i lt = put_number (written s p f n) (p + n) (f n) i (omega (arith, grows n)) ∙ written_number n i lt

  pub written_keeps : (n i o : ℕ) → (written s p f n).used ≤ length s.dir → i < s.used → o < 4096
      → ((k : ℕ) → k < n → (p + k) / 4096 ≡ get_or s.dir i 0 → ⊥)
      → get_or (written s p f n).bytes (4096 * i + o) 0 ≡ get_or s.bytes (4096 * i + o) 0
  unfolding written
  written_keeps zero i o u lt lo ne = refl
  written_keeps (suc n) i o u lt lo ne =
      let u' = still_down n u in
      let t = still n u' in
      put_keeps (written s p f n) t.sound (p + n) (f n) (room_at n u t) i o (omega (arith, grows n)) lo
      (λ e. ne n (omega arith) (e ∙ written_number n i lt))
      ∙ written_keeps n i o u' lt lo (λ k l. ne k (omega arith))

  -- ---- the count
  abbrev absent : ℕ → ℕ
  absent n = absent_of (pages_in_use s) (touched p n)

  absent_next : (m : ℕ) → ((p + suc m) / 4096 ≡ (p + m) / 4096 → ⊥)
      → absent (suc (suc m)) ≡ absent (suc m) + slots_needed (found_in (pages_in_use s) ((p + suc m) / 4096))
  absent_next m ne =
      ap (absent_of (pages_in_use s)) (touched_next p m ne)
      ∙ absent_both (pages_in_use s) (touched p (suc m)) (((p + suc m) / 4096) ∷ [])
      ∙ ap (λ (x : ℕ). absent (suc m) + x) (absent_one (pages_in_use s) ((p + suc m) / 4096))

  absent_more : (n : ℕ) → absent n ≤ absent (suc n)
  absent_more zero = let e : absent 0 ≡ 0 = unfold touched absent_of in refl in omega arith
  absent_more (suc m) = go (ℕ_discrete ((p + suc m) / 4096) ((p + m) / 4096))
    where
      go : Dec ((p + suc m) / 4096 ≡ (p + m) / 4096) → absent (suc m) ≤ absent (suc (suc m))
      go (yes e) = omega (arith, ap (absent_of (pages_in_use s)) (touched_same p m e))
      go (no ne) = omega (arith, absent_next m ne)

  pub absent_upto : (n m : ℕ) → absent_of (pages_in_use s) (touched p n) ≤ absent_of (pages_in_use s) (touched p (n + m))
  absent_upto n zero = let e : n + 0 ≡ n = add-zero n in rw e (omega arith)
  absent_upto n (suc m) = let e : n + suc m ≡ suc (n + m) = add-suc n m in rw e (omega (arith, absent_upto n m, absent_more (n + m)))

  -- after n bytes: the count, the pages not reached yet, the page of the last byte
  record Grown (n : ℕ) : Type 0 where
    count : (written s p f n).used ≡ s.used + absent n
    beyond : (k : ℕ) → p + n ≤ 4096 * k → found_in (pages_in_use (written s p f n)) k ≡ found_in (pages_in_use s) k
    inside : (m : ℕ) → n ≡ suc m → slots_needed (found_in (pages_in_use (written s p f n)) ((p + m) / 4096)) ≡ 0

  -- one byte more wants a slot exactly if it opens an absent page
  one_more_lem : (n : ℕ) → Grown n → absent (suc n) ≡ absent n + slots_needed (found_in (pages_in_use (written s p f n)) ((p + n) / 4096))
  unfolding written
  one_more_lem zero g =
      let z : absent 0 ≡ 0 = unfold touched absent_of in refl in
      let a : absent 1 ≡ slots_needed (found_in (pages_in_use s) ((p + 0) / 4096)) =
      ap (absent_of (pages_in_use s)) (touched_first p) ∙ absent_one (pages_in_use s) ((p + 0) / 4096) in
      omega arith
  one_more_lem (suc m) g = go (ℕ_discrete ((p + suc m) / 4096) ((p + m) / 4096))
    where
      go : Dec ((p + suc m) / 4096 ≡ (p + m) / 4096)
          → absent (suc (suc m)) ≡ absent (suc m) + slots_needed (found_in (pages_in_use (written s p f (suc m))) ((p + suc m) / 4096))
      go (yes e) =
          let z = g.inside m refl in
          let y = ap (λ (k : ℕ). slots_needed (found_in (pages_in_use (written s p f (suc m))) k)) e in
          omega (arith, ap (absent_of (pages_in_use s)) (touched_same p m e))
      go (no ne) =
          let y = ap slots_needed (g.beyond ((p + suc m) / 4096) (omega arith)) in
          omega (arith, absent_next m ne)

  grown : (n : ℕ) → s.used + absent n ≤ length s.dir → Grown n
  unfolding written
  grown zero r = record {
    count = let z : absent 0 ≡ 0 = unfold touched absent_of in refl in omega arith;
    beyond = λ k b. refl;
    inside = λ m e. absurd (omega arith);
  }
  grown (suc n) r =
      let g = grown n (omega (arith, absent_more n)) in
      let o = one_more_lem n g in
      let t = still n (omega (arith, absent_more n, g.count)) in
      let room : Room (written s p f n) ((p + n) / 4096) = omega (arith, g.count, t.slots) in
      record {
        count = omega (arith, g.count, (put_count (written s p f n) (p + n) (f n)).0);
        beyond = λ k b. put_others (written s p f n) t.sound (p + n) (f n) room k (λ e. omega arith) ∙ g.beyond k (omega arith);
        inside = λ m e. let q : n ≡ m = omega arith in rw (sym q) (put_found (written s p f n) t.sound (p + n) (f n) room);
      }

  pub written_count : (n : ℕ) → s.used + absent_of (pages_in_use s) (touched p n) ≤ length s.dir
      → (written s p f n).used ≡ s.used + absent_of (pages_in_use s) (touched p n)
  written_count n r = (grown n r).count
