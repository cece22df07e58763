-- A store with more slots behind those it has: still a store, with the same slots in use and the same bytes of memory; what lacked of
-- slots is less by as many. The idea: the slots in use, and their bytes, lie before the seam.
use mathlib.Core.Path.{◌≡◌, sym, ap, ◌∙◌}
use mathlib.Core.Bool.{true}
use mathlib.Core.List.{List}
use Prim.Native.Nat.{ℕ, ◌+◌, ◌-◌, ◌*◌, ◌/◌, ◌%◌, ◌<◌, ◌≤◌}
use native.Mathlib.Omega.{arith}
use lib.ListN.{length, length-append, get_or-append}
use lib.Seq.{take-append-le}
use Rattle.store.specs.Store.{Store, is_store, pages_in_use, unused, found_in, byte_at, touched, absent_of, slots_lacking, with_slots}
use Rattle.store.specs.Facts.{IsStore}
use Rattle.store.proofs.Read.{Place, here, missing, place, byte_here, byte_missing, sound_true}

module _ (s : Store) (h : IsStore s) (ds bs : List ℕ) (sized : length bs ≡ 4096 * length ds)
    (small : length s.dir + length ds ≤ 65536) where
  pub grown_slots : length (with_slots s ds bs).dir ≡ length s.dir + length ds
  grown_slots = length-append s.dir ds

  pub grown_sound : is_store (with_slots s ds bs) ≡ true
  grown_sound = sound_true (with_slots s ds bs) (record {
    small = omega (arith, grown_slots);
    fits = omega (arith, grown_slots, h.fits);
    sized = omega (arith, grown_slots, length-append s.bytes bs, h.sized);
  })

  pub grown_live : pages_in_use (with_slots s ds bs) ≡ pages_in_use s
  grown_live = take-append-le s.used s.dir ds h.fits

  pub grown_byte : (q : ℕ) → byte_at (with_slots s ds bs) q ≡ byte_at s q
  grown_byte q = go (place s h (q / 4096))
    where
      same : found_in (pages_in_use (with_slots s ds bs)) (q / 4096) ≡ found_in (pages_in_use s) (q / 4096)
      same = ap (λ (l : List ℕ). found_in l (q / 4096)) grown_live

      go : Place s (q / 4096) → byte_at (with_slots s ds bs) q ≡ byte_at s q
      go (here i lt e f) =
          let o : 4096 * i + q % 4096 < length s.bytes = omega (arith, h.fits, h.sized) in
          byte_here (with_slots s ds bs) q i (same ∙ f) ∙ get_or-append s.bytes bs 0 (4096 * i + q % 4096) o ∙ sym (byte_here s q i f)
      go (missing e f) = byte_missing (with_slots s ds bs) q (same ∙ f) ∙ sym (byte_missing s q f)

  pub grown_unused : unused (with_slots s ds bs) ≡ unused s + length ds
  grown_unused = omega (arith, grown_slots, h.fits)

  pub grown_absent : (gs : List ℕ) → absent_of (pages_in_use (with_slots s ds bs)) gs ≡ absent_of (pages_in_use s) gs
  grown_absent gs = ap (λ (l : List ℕ). absent_of l gs) grown_live

  pub grown_lacking : (p n : ℕ) → slots_lacking (with_slots s ds bs) p n ≡ slots_lacking s p n - length ds
  grown_lacking p n = omega (arith, grown_absent (touched p n), grown_unused)
