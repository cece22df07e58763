-- Reading: a sound store's slots, what a byte is by the slot of its page, and what one page's part of a read gives, whose page has a
-- slot or is absent.
use Rattle.std.specs.Prelude.{Option, Some, None}
use Rattle.std.proofs.lemmas.Bool.{and_parts}
use Rattle.std.proofs.lemmas.List.{length-take-le}
use mathlib.Core.Path.{◌≡◌, refl, sym, ap, ◌∙◌}
use mathlib.Core.Logic.{◌⊎◌, ⊎_elim}
use mathlib.Core.Bool.{true, ◌&&◌}
use mathlib.Core.List.{List}
use Prim.Native.Nat.{ℕ, ◌+◌, ◌*◌, ◌/◌, ◌%◌, ◌<◌, ◌≤◌}
use native.Mathlib.Nat.{eq-or-lt_of_le, add_assoc}
use native.Mathlib.Omega.{arith}
use lib.Dec.{leb, eqb}
use lib.ListN.{length, get_or}
use borrow.Author.Tests.{leb-true, eqb-true, le-leb, eq-eqb}
use Rattle.byte_runs.specs.Runs.{filled, copied_from}
use Rattle.store.specs.Store.{Store, is_store, pages_in_use, seek, found_in, byte_in, byte_at, read_at, bytes_from}
use Rattle.store.specs.Facts.{IsStore, no_bytes}
use Rattle.store.proofs.Seek.{seek_len, found_at, found_none, found_seek}
use Rattle.byte_runs.proofs.Filled.{length_tab, get_or_tab, filled_ext}

pub sound_facts : (s : Store) → is_store s ≡ true → IsStore s
unfolding is_store
sound_facts s e =
    let a = leb (length s.dir) 65536 in
    let b = leb s.used (length s.dir) in
    let d = eqb (length s.bytes) (4096 * length s.dir) in
    let r = (and_parts a (b && d) e).1 in
    record {
      small = leb-true _ _ (and_parts a (b && d) e).0;
      fits = leb-true _ _ (and_parts b d r).0;
      sized = eqb-true _ _ (and_parts b d r).1;
    }

pub sound_true : (s : Store) → IsStore s → is_store s ≡ true
unfolding is_store
sound_true s h = rw (le-leb _ _ h.small, le-leb _ _ h.fits, eq-eqb _ _ h.sized)

-- the slots in use number `used`
pub live_len : (s : Store) → IsStore s → length (pages_in_use s) ≡ s.used
live_len s h = length-take-le s.used s.dir h.fits

-- a page is in a slot, or is absent
pub data Place (s : Store) (g : ℕ) : Type 0 where
  here : (i : ℕ) → i < s.used → seek (pages_in_use s) g ≡ i → found_in (pages_in_use s) g ≡ Some i → Place s g
  missing : seek (pages_in_use s) g ≡ s.used → found_in (pages_in_use s) g ≡ None → Place s g

pub place : (s : Store) → IsStore s → (g : ℕ) → Place s g
place s h g = go (eq-or-lt_of_le (seek_len (pages_in_use s) g))
  where
    go : (seek (pages_in_use s) g ≡ length (pages_in_use s)) ⊎ (seek (pages_in_use s) g < length (pages_in_use s)) → Place s g
    go w = ⊎_elim
        (λ e. missing (e ∙ live_len s h) (found_none (pages_in_use s) g (omega arith)))
        (λ lt. here (seek (pages_in_use s) g) (omega (arith, live_len s h)) refl
        (found_at (pages_in_use s) g (seek (pages_in_use s) g) refl lt))
        w

-- a slot found lies within the bytes
pub slot_held : (s : Store) → IsStore s → (g i : ℕ) → found_in (pages_in_use s) g ≡ Some i → 4096 * i + 4096 ≤ length s.bytes
slot_held s h g i e =
    let w = found_seek (pages_in_use s) g i e in
    let n = live_len s h in
    omega (arith, h.fits, h.sized)

-- a byte, by its page's slot
pub byte_here : (s : Store) (q i : ℕ) → found_in (pages_in_use s) (q / 4096) ≡ Some i → byte_at s q ≡ get_or s.bytes (4096 * i + q % 4096) 0
unfolding byte_at
byte_here s q i e = rw e

pub byte_missing : (s : Store) (q : ℕ) → found_in (pages_in_use s) (q / 4096) ≡ None → byte_at s q ≡ 0
unfolding byte_at
byte_missing s q e = rw e

pub page_byte : (s : Store) (g o : ℕ) → o < 4096 → byte_at s (4096 * g + o) ≡ byte_in s.bytes (found_in (pages_in_use s) g) o
unfolding byte_at
page_byte s g o h =
    let d : (4096 * g + o) / 4096 ≡ g = omega arith in
    let m : (4096 * g + o) % 4096 ≡ o = omega arith in
    rw (d, m)

-- ---- one page's part of a read, whose page is in slot i or absent
module _ (s : Store) (g off : ℕ) (f : Option ℕ) (out o : List ℕ) (at n : ℕ)
    (ef : f ≡ found_in (pages_in_use s) g) (b : off + n ≤ 4096) where
  pub part_copied : (i : ℕ) → f ≡ Some i → o ≡ filled out at (copied_from s.bytes (4096 * i + off)) n
      → o ≡ filled out at (bytes_from s (4096 * g + off)) n
  part_copied i e eo = eo ∙ filled_ext out at (copied_from s.bytes (4096 * i + off)) (bytes_from s (4096 * g + off)) n same
    where
      same : (k : ℕ) → k < n → copied_from s.bytes (4096 * i + off) k ≡ bytes_from s (4096 * g + off) k
      same k lt =
          rw (add_assoc (4096 * g) off k)
          (rw (add_assoc (4096 * i) off k)
          (sym (page_byte s g (off + k) (omega arith) ∙ ap (λ (x : Option ℕ). byte_in s.bytes x (off + k)) (sym ef ∙ e))))

  pub part_cleared : f ≡ None → o ≡ filled out at no_bytes n → o ≡ filled out at (bytes_from s (4096 * g + off)) n
  part_cleared e eo = eo ∙ filled_ext out at no_bytes (bytes_from s (4096 * g + off)) n same
    where
      same : (k : ℕ) → k < n → no_bytes k ≡ bytes_from s (4096 * g + off) k
      same k lt =
          rw (add_assoc (4096 * g) off k)
          (sym (page_byte s g (off + k) (omega arith) ∙ ap (λ (x : Option ℕ). byte_in s.bytes x (off + k)) (sym ef ∙ e)))

-- a byte of what a read gives
pub read_at_lem : (s : Store) (p n k : ℕ) → k < n → get_or (read_at s p n) k 0 ≡ byte_at s (p + k)
unfolding read_at
read_at_lem s p n k h = get_or_tab (λ (j : ℕ). byte_at s (p + j)) n k h

pub read_length : (s : Store) (p n : ℕ) → length (read_at s p n) ≡ n
unfolding read_at
read_length s p n = length_tab (λ (j : ℕ). byte_at s (p + j)) n
