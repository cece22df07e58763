-- One turn of the loop that reads page by page: how a part joins those before it. The idea: a part is `filled` from the function "byte k
-- of the access", so that parts end to end are one (`byte_runs`: Filled.filled-add).
use Rattle.std.proofs.Common.{◌≡◌, ℕ, ◌+◌, ◌*◌, List, length, refl, ◌∙◌, add_assoc, zero-add}
use Rattle.std.proofs.Common.{Option, Some, None, ◌≤◌, take, drop, sym, ap, arith}
use Rattle.std.proofs.lemmas.List.{length-take-le, length-drop, length-replicate, get_or-take, get_or-drop, get_or-replicate}
use lib.ListN.{replicate}
use borrow.Rule.Slice.PartMut.{put_mid}
use Rattle.byte_runs.specs.Runs.{tabulate, filled}
use Rattle.store.specs.Store.{Store, pages_in_use, found_in, byte_in, bytes_from, read_at}
use Rattle.store.specs.Facts.{IsStore}
use Rattle.store.proofs.Read.{slot_held, page_byte}
use Rattle.byte_runs.proofs.Filled.{is_tab, length_tab, get_or_tab, filled_ext, filled_add, filled_all, part_filled}

pub read_step : (s : Store) (p : ℕ) (out₀ out o : List ℕ) (g off done n : ℕ) → 4096 * g + off ≡ p + done
    → out ≡ filled out₀ 0 (bytes_from s p) done
    → o ≡ filled out done (bytes_from s (4096 * g + off)) n → o ≡ filled out₀ 0 (bytes_from s p) (done + n)
read_step s p out₀ out o g off done n e eo e' =
    e' ∙ rw (e, eo)
    (filled_ext (filled out₀ 0 (bytes_from s p) done) done (bytes_from s (p + done)) (λ (k : ℕ). bytes_from s p (done + k)) n
    (λ k lt. rw (add_assoc p done k))
    ∙ (rw (zero-add done) at (filled_add out₀ 0 (bytes_from s p) done n)))

pub read_end : (s : Store) (p : ℕ) (out₀ o : List ℕ) (done : ℕ) → done ≡ length out₀ → o ≡ filled out₀ 0 (bytes_from s p) done
    → o ≡ read_at s p (length out₀)
unfolding read_at
read_end s p out₀ o done e eo = eo ∙ rw e (filled_all out₀ (bytes_from s p) (length out₀) refl)

-- ---- one page's part: the bytes of its slot, or zeros, are what is read there; k is how the code gives the part's length
pub part_here : (s : Store) (g off n i k : ℕ) → k ≡ n → IsStore s → Some i ≡ found_in (pages_in_use s) g → off + n ≤ 4096
    → take k (drop (4096 * i + off) s.bytes) ≡ read_at s (4096 * g + off) n
unfolding read_at
part_here s g off n i m q h e b =
    let held = slot_held s h g i (sym e) in
    rw q (is_tab (take n (drop (4096 * i + off) s.bytes)) (bytes_from s (4096 * g + off)) n
    (length-take-le n (drop (4096 * i + off) s.bytes) (omega (arith, length-drop (4096 * i + off) s.bytes)))
    (λ k lt. get_or-take n (drop (4096 * i + off) s.bytes) k 0 lt ∙ get_or-drop (4096 * i + off) s.bytes k 0
    ∙ rw (add_assoc (4096 * i) off k, add_assoc (4096 * g) off k)
    (sym (page_byte s g (off + k) (omega arith) ∙ ap (λ (f : Option ℕ). byte_in s.bytes f (off + k)) (sym e)))))

pub part_absent : (s : Store) (g off n : ℕ) → None ≡ found_in (pages_in_use s) g → off + n ≤ 4096
    → replicate n 0 ≡ read_at s (4096 * g + off) n
unfolding read_at
part_absent s g off n e b =
    is_tab (replicate n 0) (bytes_from s (4096 * g + off)) n (length-replicate n 0)
    (λ k lt. get_or-replicate n k 0 0 lt
    ∙ rw (add_assoc (4096 * g) off k)
    (sym (page_byte s g (off + k) (omega arith) ∙ ap (λ (f : Option ℕ). byte_in s.bytes f (off + k)) (sym e))))

-- the part joins those before it: k and m are how the code gives its length
pub read_more : (s : Store) (p : ℕ) (out₀ out ys : List ℕ) (g off done n k m : ℕ) → k ≡ n → m ≡ n → done + n ≤ length out
    → 4096 * g + off ≡ p + done → out ≡ filled out₀ 0 (bytes_from s p) done → ys ≡ read_at s (4096 * g + off) m
    → put_mid done k out ys ≡ filled out₀ 0 (bytes_from s p) (done + n)
unfolding read_at
read_more s p out₀ out ys g off done n k m ek em r e eo ey =
    read_step s p out₀ out (put_mid done k out ys) g off done n e eo
    (rw (ek, ey, em)
    (part_filled out done (bytes_from s (4096 * g + off)) n (tabulate (bytes_from s (4096 * g + off)) n) r
    (length_tab (bytes_from s (4096 * g + off)) n) (get_or_tab (bytes_from s (4096 * g + off)) n)))
