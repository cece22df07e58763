-- Bytes and words, low byte first: each way undoes the other, and byte k of a word is its lane k. By induction on the number of bytes.
-- Assumes nothing.
use Rattle.std.proofs.Common.{◌≡◌, ℕ, zero, suc, ◌+◌, ◌*◌, ◌/◌, ◌%◌, ◌^◌, ◌<◌, ◌≤◌, List, [], ◌∷◌, ◌++◌, length, get_or, take, drop}
use Rattle.std.proofs.Common.{replicate, sym, refl, ap, ◌∙◌, div-one, arith, drop_of_length-le, shr-shr}
use native.Mathlib.Nat.{mod-one}
use lib.Pow.{mod-pow-add}
use Rattle.utils.specs.Bytes.{to_bytes, from_bytes}
use Rattle.utils.specs.Word.{cut, lane}

pub length_to_bytes : (n x : ℕ) → length (to_bytes n x) ≡ n
unfolding to_bytes
length_to_bytes zero x = refl
length_to_bytes (suc n) x = ap suc (length_to_bytes n (x / 2 ^ 8))

-- byte k of a number is its lane k
pub byte_lane : (n x k : ℕ) → k < n → get_or (to_bytes n x) k 0 ≡ lane k x
unfolding to_bytes cut
byte_lane zero x k h = absurd (omega arith)
byte_lane (suc n) x zero h = ap (λ (y : ℕ). y % 2 ^ 8) (sym (div-one x))
byte_lane (suc n) x (suc k) h =
    byte_lane n (x / 2 ^ 8) k (omega arith) ∙ ap (λ (y : ℕ). y % 2 ^ 8) (shr-shr x 8 (8 * k) ∙ ap (λ (e : ℕ). x / 2 ^ e) (omega arith))

-- what is written as n bytes reads back as the low 8n bits
pub from_to : (n x : ℕ) → from_bytes (to_bytes n x) ≡ x % 2 ^ (8 * n)
unfolding to_bytes from_bytes
from_to zero x = sym (mod-one x)
from_to (suc n) x =
    let e : 8 * suc n ≡ 8 * n + 8 = omega arith in
    omega (arith, from_to n (x / 2 ^ 8), ap (λ (k : ℕ). x % 2 ^ k) e, mod-pow-add x (8 * n) 8)

-- zeros above change nothing
pub from_padded : (bs : List ℕ) (n : ℕ) → from_bytes (bs ++ replicate n 0) ≡ from_bytes bs
unfolding from_bytes
from_padded [] zero = refl
from_padded [] (suc n) = let h : from_bytes ([] ++ replicate n 0) ≡ 0 = from_padded [] n in omega arith
from_padded (b ∷ bs) n = ap (λ (y : ℕ). b + 2 ^ 8 * y) (from_padded bs n)

-- the bytes from byte n on: that byte, and those above it
pub from_at : (bs : List ℕ) (n : ℕ) → from_bytes (drop n bs) ≡ get_or bs n 0 + 2 ^ 8 * from_bytes (drop (suc n) bs)
unfolding from_bytes
from_at [] zero = refl
from_at [] (suc n) = refl
from_at (b ∷ bs) zero = refl
from_at (b ∷ bs) (suc n) = from_at bs n

-- eight bytes, written out
pub from_eight : (bs : List ℕ) → length bs ≡ 8
    → get_or bs 0 0 + get_or bs 1 0 * 256 + get_or bs 2 0 * 65536 + get_or bs 3 0 * 16777216 + get_or bs 4 0 * 4294967296
    + get_or bs 5 0 * 1099511627776 + get_or bs 6 0 * 281474976710656 + get_or bs 7 0 * 72057594037927936
    ≡ from_bytes bs
from_eight bs h =
    let e : from_bytes (drop 8 bs) ≡ 0 = ap from_bytes (drop_of_length-le bs {i = 8} (omega arith)) ∙ unfold from_bytes in refl in
    omega (arith, from_at bs 0, from_at bs 1, from_at bs 2, from_at bs 3, from_at bs 4, from_at bs 5, from_at bs 6, from_at bs 7)

-- a word's eight bytes, written out
pub to_eight : (x : ℕ)
    → x % 256 ∷ x / 256 % 256 ∷ x / 65536 % 256 ∷ x / 16777216 % 256 ∷ x / 4294967296 % 256
    ∷ x / 1099511627776 % 256 ∷ x / 281474976710656 % 256 ∷ x / 72057594037927936 % 256 ∷ []
    ≡ to_bytes 8 x
unfolding to_bytes
to_eight x = rw (shr-shr x 8 8, shr-shr x 16 8, shr-shr x 24 8, shr-shr x 32 8, shr-shr x 40 8, shr-shr x 48 8)

-- fewer bytes of the same number
pub take_to_bytes : (n k x : ℕ) → n ≤ k → take n (to_bytes k x) ≡ to_bytes n x
unfolding to_bytes
take_to_bytes zero zero x h = refl
take_to_bytes zero (suc k) x h = refl
take_to_bytes (suc n) zero x h = absurd (omega arith)
take_to_bytes (suc n) (suc k) x h = ap (λ (l : List ℕ). x % 2 ^ 8 ∷ l) (take_to_bytes n k (x / 2 ^ 8) (omega arith))
