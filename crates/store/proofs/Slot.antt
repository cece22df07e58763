-- A page that has a slot, or room for one: what taking the slot makes of the store, and that one page's part of a write, copied at once,
-- is `written` byte by byte. The idea: only the first byte of a part can take a slot; from then on the page is there and each byte is
-- one `set`.
use Rattle.std.specs.Prelude.{Some, None}
use mathlib.Core.Path.{◌≡◌, refl, sym, ap, ◌∙◌, subst}
use mathlib.Core.Logic.{inl}
use mathlib.Core.List.{List, [], ◌∷◌, ◌++◌}
use Prim.Native.Nat.{ℕ, zero, suc, ◌+◌, ◌*◌, ◌/◌, ◌%◌, ◌<◌, ◌≤◌}
use native.Mathlib.Nat.{add-zero, add_assoc, add-suc}
use native.Mathlib.Omega.{arith}
use native.Mathlib.Decide.{ℕ_discrete}
use Rattle.std.proofs.lemmas.List.{length_push}
use lib.ListN.{length, get_or, set, length-set}
use lib.Seq.{take-suc-set}
use Rattle.byte_runs.specs.Runs.{filled}
use Rattle.store.specs.Store.{Store, store_of, pages_in_use, seek, found_in, byte_at, with_page, stored, put_byte, written, slots_needed}
use Rattle.store.specs.Facts.{IsStore, Room, no_bytes}
use Rattle.store.proofs.Seek.{seek_in, seek_past, seek_one, seek_other, found_at, found_none, found_seek}
use Rattle.byte_runs.proofs.Filled.{length_filled, get_or_filled, get_or_filled_other}
use Rattle.store.proofs.Read.{live_len, Place, here, missing, place, byte_here, byte_missing}

-- what a page that is present, or absent, makes of the store
pub with_here : (s : Store) (g i : ℕ) → found_in (pages_in_use s) g ≡ Some i → with_page s g ≡ s
unfolding with_page
with_here s g i e = rw e

pub with_missing : (s : Store) (g : ℕ) → found_in (pages_in_use s) g ≡ None
    → with_page s g ≡ store_of (set s.dir s.used g) (filled s.bytes (4096 * s.used) no_bytes 4096) (suc s.used)
unfolding with_page
with_missing s g e = rw e

module _ (s : Store) (h : IsStore s) (g : ℕ) (r : s.used < length s.dir) (e : found_in (pages_in_use s) g ≡ None)
    (w : seek (pages_in_use s) g ≡ s.used) where
  pub live_taken : pages_in_use (with_page s g) ≡ pages_in_use s ++ (g ∷ [])
  live_taken = ap pages_in_use (with_missing s g e) ∙ take-suc-set s.dir s.used g r

  pub found_taken : found_in (pages_in_use (with_page s g)) g ≡ Some s.used
  found_taken =
      let n = live_len s h in
      let q : seek (pages_in_use s ++ (g ∷ [])) g ≡ s.used =
      omega (arith, seek_past (pages_in_use s) (g ∷ []) g (omega arith), seek_one g g refl) in
      rw live_taken (found_at (pages_in_use s ++ (g ∷ [])) g s.used q (omega (arith, length_push (pages_in_use s) g)))

  pub other_taken : (k : ℕ) → (g ≡ k → ⊥) → found_in (pages_in_use (with_page s g)) k ≡ found_in (pages_in_use s) k
  other_taken k ne = rw live_taken (go (place s h k))
    where
      go : Place s k → found_in (pages_in_use s ++ (g ∷ [])) k ≡ found_in (pages_in_use s) k
      go (here i lt q f) =
          let n = live_len s h in
          found_at (pages_in_use s ++ (g ∷ [])) k i (seek_in (pages_in_use s) (g ∷ []) k (omega arith) ∙ q)
          (omega (arith, length_push (pages_in_use s) g))
          ∙ sym f
      go (missing q f) =
          let n = live_len s h in
          found_none (pages_in_use s ++ (g ∷ [])) k
          (omega (arith, length_push (pages_in_use s) g, seek_past (pages_in_use s) (g ∷ []) k (omega arith), seek_other g k ne)) ∙ sym f

  pub sound_taken : IsStore (with_page s g)
  sound_taken = rw (with_missing s g e) (record {
    small = omega (arith, length-set s.dir s.used g, h.small);
    fits = omega (arith, length-set s.dir s.used g);
    sized = omega (arith, length-set s.dir s.used g, length_filled s.bytes (4096 * s.used) no_bytes 4096, h.sized);
  })

  pub byte_taken : (q : ℕ) → byte_at (with_page s g) q ≡ byte_at s q
  byte_taken q = go (place s h (q / 4096)) (ℕ_discrete g (q / 4096))
    where
      same_bytes : (with_page s g).bytes ≡ filled s.bytes (4096 * s.used) no_bytes 4096
      same_bytes = ap (λ (t : Store). t.bytes) (with_missing s g e)

      go : Place s (q / 4096) → Dec (g ≡ q / 4096) → byte_at (with_page s g) q ≡ byte_at s q
      go (here i lt w' f) d =
          byte_here (with_page s g) q i (other_taken (q / 4096) (λ eq. omega (arith, ap (λ (k : ℕ). seek (pages_in_use s) k) eq)) ∙ f)
          ∙ ap (λ (l : List ℕ). get_or l (4096 * i + q % 4096) 0) same_bytes
          ∙ get_or_filled_other s.bytes (4096 * s.used) no_bytes 4096 (4096 * i + q % 4096) (inl (omega arith))
          ∙ sym (byte_here s q i f)
      go (missing w' f) (yes eq) =
          byte_here (with_page s g) q s.used (subst (λ (k : ℕ). found_in (pages_in_use (with_page s g)) k ≡ Some s.used) eq found_taken)
          ∙ ap (λ (l : List ℕ). get_or l (4096 * s.used + q % 4096) 0) same_bytes
          ∙ get_or_filled s.bytes (4096 * s.used) no_bytes 4096 (q % 4096) (omega (arith, h.sized)) (omega arith)
          ∙ sym (byte_missing s q f)
      go (missing w' f) (no ne) = byte_missing (with_page s g) q (other_taken (q / 4096) ne ∙ f) ∙ sym (byte_missing s q f)

-- the page has a slot then; other pages stay as they are, and so do all bytes
module _ (s : Store) (h : IsStore s) (g : ℕ) (r : Room s g) where
  pub room_missing : found_in (pages_in_use s) g ≡ None → s.used < length s.dir
  room_missing e = omega (arith, ap slots_needed e)

  pub sound_with : IsStore (with_page s g)
  sound_with = go (place s h g)
    where
      go : Place s g → IsStore (with_page s g)
      go (here i lt q f) = rw (with_here s g i f) h
      go (missing q f) = sound_taken s h g (room_missing f) f q

  pub found_with : (i : ℕ) × (found_in (pages_in_use (with_page s g)) g ≡ Some i)
  found_with = go (place s h g)
    where
      go : Place s g → (i : ℕ) × (found_in (pages_in_use (with_page s g)) g ≡ Some i)
      go (here i lt q f) = (i, ap (λ (t : Store). found_in (pages_in_use t) g) (with_here s g i f) ∙ f)
      go (missing q f) = (s.used, found_taken s h g (room_missing f) f q)

  pub other_with : (k : ℕ) → (g ≡ k → ⊥) → found_in (pages_in_use (with_page s g)) k ≡ found_in (pages_in_use s) k
  other_with k ne = go (place s h g)
    where
      go : Place s g → found_in (pages_in_use (with_page s g)) k ≡ found_in (pages_in_use s) k
      go (here i lt q f) = ap (λ (t : Store). found_in (pages_in_use t) k) (with_here s g i f)
      go (missing q f) = other_taken s h g (room_missing f) f q k ne

  pub byte_with : (q : ℕ) → byte_at (with_page s g) q ≡ byte_at s q
  byte_with q = go (place s h g)
    where
      go : Place s g → byte_at (with_page s g) q ≡ byte_at s q
      go (here i lt w f) = ap (λ (t : Store). byte_at t q) (with_here s g i f)
      go (missing w f) = byte_taken s h g (room_missing f) f w q

pub put_here : (s : Store) (q i b : ℕ) → found_in (pages_in_use s) (q / 4096) ≡ Some i
    → put_byte s q b ≡ store_of s.dir (set s.bytes (4096 * i + q % 4096) b) s.used
unfolding put_byte stored
put_here s q i b e = rw (with_here s (q / 4096) i e, (found_seek (pages_in_use s) (q / 4096) i e).0)

pub seek_missing : (s : Store) → IsStore s → (g : ℕ) → found_in (pages_in_use s) g ≡ None → seek (pages_in_use s) g ≡ s.used
seek_missing s h g e = go (place s h g)
  where
    go : Place s g → seek (pages_in_use s) g ≡ s.used
    go (here i lt q f) = let z : ◌≡◌ {A = ℕ} 0 1 = cc in omega arith
    go (missing q f) = q

-- ---- bytes written within one page

-- the page has a slot
pub written_here : (s : Store) (g i off : ℕ) (f : ℕ → ℕ) (n : ℕ) → found_in (pages_in_use s) g ≡ Some i → off + n ≤ 4096
    → written s (4096 * g + off) f n ≡ store_of s.dir (filled s.bytes (4096 * i + off) f n) s.used
unfolding written filled
written_here s g i off f zero e h = refl
written_here s g i off f (suc n) e h =
    let t = store_of s.dir (filled s.bytes (4096 * i + off) f n) s.used in
    rw (written_here s g i off f n e (omega arith))
    (put_here t (4096 * g + off + n) i (f n) (let d : (4096 * g + off + n) / 4096 ≡ g = omega arith in rw d e)
    ∙ ap (λ (k : ℕ). store_of s.dir (set (filled s.bytes (4096 * i + off) f n) k (f n)) s.used) (omega arith))

pub put_with : (s : Store) → IsStore s → (q b : ℕ) → Room s (q / 4096) → put_byte s q b ≡ put_byte (with_page s (q / 4096)) q b
unfolding put_byte
put_with s h q b r =
    let w = found_with s h (q / 4096) r in
    ap (λ (t : Store). stored t q b) (sym (with_here (with_page s (q / 4096)) (q / 4096) w.0 w.1))

-- the page takes one
pub written_with : (s : Store) (h : IsStore s) (g off : ℕ) (f : ℕ → ℕ) (n : ℕ) → Room s g → off + suc n ≤ 4096
    → written s (4096 * g + off) f (suc n) ≡ written (with_page s g) (4096 * g + off) f (suc n)
unfolding written
written_with s h g off f zero r b =
    let d : (4096 * g + off + 0) / 4096 ≡ g = omega arith in
    subst (λ (k : ℕ). put_byte s (4096 * g + off + 0) (f 0) ≡ put_byte (with_page s k) (4096 * g + off + 0) (f 0)) d
    (put_with s h (4096 * g + off + 0) (f 0) (rw d r))
written_with s h g off f (suc n) r b =
    ap (λ (t : Store). put_byte t (4096 * g + off + suc n) (f (suc n))) (written_with s h g off f n r (omega arith))

pub written_missing : (s : Store) → IsStore s → (g off : ℕ) (f : ℕ → ℕ) (n : ℕ) → found_in (pages_in_use s) g ≡ None
    → s.used < length s.dir → 1 ≤ n → off + n ≤ 4096
    → written s (4096 * g + off) f n
    ≡ store_of (set s.dir s.used g) (filled (filled s.bytes (4096 * s.used) no_bytes 4096) (4096 * s.used + off) f n)
    (suc s.used)
written_missing s h g off f zero e r one b = absurd (omega arith)
written_missing s h g off f (suc n) e r one b =
    let w = seek_missing s h g e in
    written_with s h g off f n (omega (arith, ap slots_needed e)) b
    ∙ written_here (with_page s g) g s.used off f (suc n) (found_taken s h g r e w) b
    ∙ ap (λ (t : Store). store_of t.dir (filled t.bytes (4096 * s.used + off) f (suc n)) t.used) (with_missing s g e)

-- ---- parts end to end
pub written_add : (s : Store) (p : ℕ) (f : ℕ → ℕ) (n m : ℕ)
    → written (written s p f n) (p + n) (λ (k : ℕ). f (n + k)) m ≡ written s p f (n + m)
unfolding written
written_add s p f n zero = rw (add-zero n)
written_add s p f n (suc m) = rw (written_add s p f n m, add_assoc p n m, add-suc n m)
