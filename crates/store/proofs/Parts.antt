-- An access goes page by page: the part of it that lies in one page, and where it stands after that part. The loops that read and write
-- bytes (walk, writes) take their turns by these.
use mathlib.Core.Path.{◌≡◌, refl, ◌∙◌}
use mathlib.Core.Bool.{Bool, true, false, cond}
use Prim.Native.Nat.{ℕ, ◌+◌, ◌-◌, ◌/◌, ◌%◌, ◌<◌, ◌≤◌}
use native.Mathlib.Omega.{arith}
use lib.Dec.{ltb}
use borrow.Author.Tests.{ltb-true, ltb-false, lt-ltb, le-ltb}
use Rattle.store.specs.Store.{part_length}
use Rattle.store.specs.Facts.{PagePart, Reached}

-- ---- one page's part
pub part_left : (off left : ℕ) → left < 4096 - off → left ≡ part_length off left
unfolding part_length
part_left off left h = rw (lt-ltb left (4096 - off) h)

pub part_rest : (off left : ℕ) → 4096 - off ≤ left → 4096 - off ≡ part_length off left
unfolding part_length
part_rest off left h = rw (le-ltb left (4096 - off) h)

-- no byte past its end lies in a page
pub part_past : (off left : ℕ) → 4096 < off → 0 ≡ part_length off left
part_past off left h = let e : 0 ≡ 4096 - off = omega arith in e ∙ part_rest off left (omega arith)

pub part_of : (off left n : ℕ) → n ≡ part_length off left → off < 4096 → 1 ≤ left → PagePart off left n
unfolding part_length
part_of off left n e o l = go (ltb left (4096 - off)) refl e
  where
    go : (b : Bool) → ltb left (4096 - off) ≡ b → n ≡ cond b left (4096 - off) → PagePart off left n
    go true t q =
        let h = ltb-true left (4096 - off) t in
        record { some = omega arith; inside = omega arith; within = omega arith; full = λ w. absurd (omega arith) }
    go false t q =
        let h = ltb-false left (4096 - off) t in
        record { some = omega arith; inside = omega arith; within = omega arith; full = λ w. omega arith }

-- ---- where an access stands, page by page
pub reached_first : (p len : ℕ) → Reached p len (p / 4096) (p % 4096) 0
reached_first p len = record { within = omega arith; inside = omega arith; address = λ h. omega arith }

pub reached_next : (p len g off done n : ℕ) → Reached p len g off done → done < len → PagePart off (len - done) n
    → Reached p len (g + 1) 0 (done + n)
reached_next p len g off done n r lt q =
    let e = r.address lt in
    record {
      within = omega (arith, q.within);
      inside = omega arith;
      address = λ h. omega (arith, q.full (omega arith));
    }
