-- Laws of writing text piece by piece: two pieces one after the other, and a loop that writes what is left. Where an offset can go no
-- further, what is written there or beyond lies past the buffer's end and changes nothing. Assumes nothing.
use Rattle.std.proofs.lemmas.Bool.{cases_lt}
use mathlib.Core.Path.{◌≡◌, refl, sym, ap, ◌∙◌}
use mathlib.Core.Logic.{⊎_elim}
use mathlib.Core.List.{List, [], ◌∷◌, ◌++◌}
use Prim.Native.Nat.{ℕ, zero, suc, ◌+◌, ◌-◌, ◌*◌, ◌/◌, ◌%◌, ◌^◌, ◌≤◌, ◌<◌}
use native.Mathlib.Nat.{not-suc-le-zero, add-suc, suc-add, add-zero}
use native.Mathlib.Omega.{arith}
use lib.ListN.{length, set, replicate, length-append}
use lib.Seq.{sets, set_out, length-sets}
use Rattle.text_pieces.specs.Hex.{hex_byte, hex_digits}
use Rattle.text_pieces.specs.Put.{TextPut, offset_after}

-- ---- offsets
pub place_near : (at n : ℕ) → at + n < 2 ^ 64 → offset_after at n ≡ at + n
unfolding offset_after
place_near at n h = omega arith

place_le : (at n : ℕ) → offset_after at n ≤ at + n
unfolding offset_after
place_le at n = omega arith

-- nothing comes after the last offset
pub place_last : (n : ℕ) → offset_after 18446744073709551615 n ≡ 18446744073709551615
unfolding offset_after
place_last n = omega arith

place_none : (at : ℕ) → offset_after at 0 ≡ at
unfolding offset_after
place_none at = omega arith

place_more : (at m n : ℕ) → offset_after (offset_after at m) n ≡ offset_after at (m + n)
unfolding offset_after
place_more at m n = omega arith

-- where the sum is out of reach, the offset is the last one, or was past it already
place_far : (at n : ℕ) → 2 ^ 64 ≤ at + n → 2 ^ 64 ≤ suc (offset_after at n)
unfolding offset_after
place_far at n h = omega arith

-- ---- texts, as the loops write them
pub digits_pos : (k x : ℕ) → 0 < k → hex_digits k x ≡ (hex_byte (x / 2 ^ (4 * (k - 1)) % 16) ∷ []) ++ hex_digits (k - 1) x
unfolding hex_digits
digits_pos zero x h = absurd (not-suc-le-zero h)
digits_pos (suc k) x h = let e : suc k - 1 ≡ k = omega arith in rw e

pub spaces_pos : (k : ℕ) → 0 < k → replicate {A = ℕ} k 32 ≡ (32 ∷ []) ++ replicate (k - 1) 32
spaces_pos zero h = absurd (not-suc-le-zero h)
spaces_pos (suc k) h = let e : suc k - 1 ≡ k = omega arith in rw e

-- ---- stores
sets_append : (d : List ℕ) (at : ℕ) (s t : List ℕ) → sets (sets d at s) (at + length s) t ≡ sets d at (s ++ t)
sets_append d at [] t = rw add-zero
sets_append d at (b ∷ s) t = rw (add-suc, ← suc-add) (sets_append (set d at b) (suc at) s t)

sets_out : (d : List ℕ) (at : ℕ) (t : List ℕ) → length d ≤ at → sets d at t ≡ d
sets_out d at [] h = refl
sets_out d at (b ∷ t) h = ap (λ (l : List ℕ). sets l (suc at) t) (set_out d at b h) ∙ sets_out d (suc at) t (omega arith)

-- to write on from the offset after a text is to write at the sum: one that falls short of it lies past the end
sets_place : (d : List ℕ) (at n : ℕ) (t : List ℕ) → length d < 2 ^ 64 → sets d (offset_after at n) t ≡ sets d (at + n) t
sets_place d at n t h =
    ⊎_elim
    (λ (l : at + n < 2 ^ 64). ap (λ (k : ℕ). sets d k t) (place_near at n l))
    (λ (g : 2 ^ 64 ≤ at + n). let f = place_far at n g in sets_out d (offset_after at n) t (omega arith)
    ∙ sym (sets_out d (at + n) t (omega arith)))
    (cases_lt (at + n) (2 ^ 64))

-- t is written after s
on_top : {m at r : ℕ} {d d' s : List ℕ} (t : List ℕ) → TextPut m d at s d' r → sets d' r t ≡ sets d at (s ++ t)
on_top {m} {at} {r} {d} {d'} {s} t p =
    ap (λ (l : List ℕ). sets l r t) p.bytes
    ∙ ap (λ (k : ℕ). sets (sets d at s) k t) p.next
    ∙ sets_place (sets d at s) at (length s) t (rw length-sets p.short)
    ∙ sets_append d at s t

-- and its offset is that after both
on_top_next : {m at r : ℕ} {d d' s : List ℕ} (t : List ℕ) → TextPut m d at s d' r
    → offset_after r (length t) ≡ offset_after at (length (s ++ t))
on_top_next {at = at} {s = s} t p =
    ap (λ (k : ℕ). offset_after k (length t)) p.next ∙ place_more at (length s) (length t) ∙ ap (offset_after at) (sym (length-append s t))

infixl 5 ◌then◌
-- one piece, then another
pub ◌then◌ : {m n at r r' : ℕ} {d d' d'' s t : List ℕ} → TextPut m d at s d' r → TextPut n d' r t d'' r'
    → TextPut (m + n) d at (s ++ t) d'' r'
◌then◌ {s = s} {t} p q = record {
  bytes = q.bytes ∙ on_top t p;
  next = q.next ∙ on_top_next t p;
  most = omega (arith, length-append s t, p.most, q.most);
  short = p.short;
}

-- no two offsets, and no two buffers, meet one contract
pub put_one : {n at r q : ℕ} {d t d' d'' : List ℕ} → TextPut n d at t d' r → TextPut n d at t d'' q → (r ≡ q) × (d' ≡ d'')
put_one a b = (a.next ∙ sym b.next, a.bytes ∙ sym b.bytes)

-- nothing is written
pub nothing : {n at : ℕ} {d : List ℕ} → length d < 2 ^ 64 → TextPut n d at [] d at
nothing {at = at} h = record { bytes = refl; next = sym (place_none at); most = omega arith; short = h }

pub tight : {m n at r : ℕ} {d d' t : List ℕ} → TextPut m d at t d' r → length t ≤ n → TextPut n d at t d' r
tight p h = record { bytes = p.bytes; next = p.next; most = h; short = p.short }

pub widen : {m n at r : ℕ} {d d' t : List ℕ} → m ≤ n → TextPut m d at t d' r → TextPut n d at t d' r
widen h p = tight p (omega (arith, p.most))

-- the offset after a text does not lie before the text's own, nor further on than the text may be long
pub forward : {m at r : ℕ} {d d' t : List ℕ} → TextPut m d at t d' r → at ≤ r
unfolding offset_after
forward p = omega (arith, p.next)

pub reach : {m at r : ℕ} {d d' t : List ℕ} → TextPut m d at t d' r → r ≤ at + m
reach {at = at} {t = t} p = omega (arith, p.next, p.most, place_le at (length t))

-- the offset after a text that begins at 0, as long as words can count it, is its length
pub from_zero : {m r : ℕ} {d d' t : List ℕ} → m < 2 ^ 64 → TextPut m d 0 t d' r → r ≡ length t
from_zero {t = t} h p = omega (arith, p.next, place_near 0 (length t) (omega (arith, p.most)))

-- a loop's invariant: to write t at o in d now is to write all at `at` in d₀
pub record Rest (d₀ : List ℕ) (at : ℕ) (all d : List ℕ) (o : ℕ) (t : List ℕ) : Type 0 where
  pub left : sets d o t ≡ sets d₀ at all
  pub total : offset_after o (length t) ≡ offset_after at (length all)
  pub short : length d₀ < 2 ^ 64

pub begin : {d all : List ℕ} {at : ℕ} → length d < 2 ^ 64 → Rest d at all d at all
begin h = record { left = refl; total = refl; short = h }

-- the next piece is written
pub onward : {m at o o' : ℕ} {d₀ all d d' s t : List ℕ} → Rest d₀ at all d o (s ++ t) → TextPut m d o s d' o'
    → Rest d₀ at all d' o' t
onward {t = t} l p = record { left = on_top t p ∙ l.left; total = on_top_next t p ∙ l.total; short = l.short }

-- nothing is left
pub finish : {m at o : ℕ} {d₀ all d : List ℕ} → Rest d₀ at all d o [] → length all ≤ m → TextPut m d₀ at all d o
finish {o = o} l h = record { bytes = l.left; next = sym (place_none o) ∙ l.total; most = h; short = l.short }

pub same_long : {at o : ℕ} {d₀ all d t : List ℕ} → Rest d₀ at all d o t → length d ≡ length d₀
same_long {at} {o} {d₀} {all} {d} {t} l = sym (length-sets d o t) ∙ ap length l.left ∙ length-sets d₀ at all
