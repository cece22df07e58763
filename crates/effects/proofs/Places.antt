-- What a machine's registers and flags are depends on their places alone; a change renews its places, by what it reads alone, and keeps
-- all others. From the laws of lanes and of flags, once over the register and over the flag. Assumes nothing.
use Rattle.std.specs.Prelude.{Option, Some, None}
use Rattle.std.proofs.lemmas.Bool.{cases_Bool, or_parts, agree_below, agree_below_at}
use mathlib.Core.Bool.{Bool, true, false, ◌||◌}
use mathlib.Core.List.{[], ◌∷◌}
use mathlib.Core.Logic.{◌⊎◌, inl, inr, ⊎_elim}
use mathlib.Core.Path.{◌≡◌, refl, sym, ap, ap₂, ◌∙◌}
use Prim.Native.Nat.{ℕ, ◌+◌, ◌-◌, ◌*◌, ◌/◌, ◌%◌, ◌^◌, ◌≤◌, ◌<◌}
use native.Mathlib.Decide.{ℕ_discrete, dec_lt}
use native.Mathlib.Omega.{arith}
use lib.Dec.{leb, eqb}
use lib.IntN.{ℤ}
use lib.ListN.{length, get_or, set, length-set}
use lib.Seq.{get_or-set_same, get_or-set_other}
use mir.Syntax.{w64}
use mir.Val.{of_z}
use borrow.Author.Tests.{leb-true, lt-ltb, le-ltb, ne_eqb}
use Rattle.utils.specs.Outcome.{gives}
use Rattle.utils.specs.Word.{cut, put, lane}
use Rattle.utils.proofs.Field.{put_inside, put_lt, cells_fix, cut_all, cut_mod}
use Rattle.instruction_set.specs.Registers.{row, parent_of, part_of, first_lane, lanes_read, lanes_rewritten}
use Rattle.instruction_set.specs.Flags.{bit_of}
use Rattle.instruction_set.specs.declared.ArgumentSize.{ArgumentSize}
use Rattle.instruction_set.specs.declared.Flags.{Flags}
use Rattle.instruction_set.specs.declared.Flags.TheVariants.{Carry, Parity, Zero, Sign, Direction, Overflow}
use Rattle.instruction_set.specs.declared.Register.{Register}
use Rattle.instruction_set.specs.declared.Register.TheVariants.{RSP}
use Rattle.instruction_set.proofs.Bounds.{parent_below, reads_within, rewrites_within}
use Rattle.fields.specs.FlagBits.{bool_bit, bit_set, put_flag, sign_in, even_ones, result_flags}
use Rattle.fields.specs.Parts.{write_of}
use Rattle.fields.proofs.FlagLaws.{bits_kept, flag_word}
use Rattle.fields.proofs.PartLaws.{write_part_word}
use Rattle.arithmetic.specs.Sums.{flags_of}
use Rattle.arithmetic.specs.declared.Sum.{Sum}
use Rattle.machine_state.specs.Address.{base_of, sum_of}
use Rattle.machine_state.specs.Flagged.{flag_in, set_flag}
use Rattle.machine_state.specs.Machine.{parent_at, with_regs, with_flags, read_reg, write_reg}
use Rattle.machine_state.specs.Memory.{with_rsp}
use Rattle.machine_state.specs.declared.MachineState.{MachineState}
use Rattle.machine_state.proofs.Lanes.{read_same, write_in, write_out}
use Rattle.effects.specs.Places.{bit_at, bits_at, place, WellTyped}
use Rattle.effects.specs.Rows.{parent_places, read_span, rewrite_span, part_span, flag_place, flag_span, in_span}
use Rattle.effects.specs.declared.Span.{Span}
use Rattle.effects.proofs.Within.{in_low, in_high, in_yes, in_no, five_in_turn, flag_from}

-- ---- places
pub place_lane : (m : MachineState) (p : ℕ) → p < 176 → place m p ≡ lane (p % 8) (parent_at m (p / 8))
unfolding place
place_lane m p h = simp (lt-ltb p 176 h)

pub place_bits : (m : MachineState) (p : ℕ) → 176 ≤ p → p < 186 → place m p ≡ cut m.rflags (bit_at (p - 176)) (bits_at (p - 176))
unfolding place
place_bits m p h l = simp (le-ltb p 176 h, lt-ltb p 186 l)

pub place_rest : (m : MachineState) (p : ℕ) → 186 ≤ p → place m p ≡ get_or (m.gdt ∷ m.idt ∷ []) (p - 186) 0
unfolding place
place_rest m p h = let l : 176 ≤ p = omega arith in simp (le-ltb p 176 l, le-ltb p 186 h)

-- lane j of parent i, and a flag
pub place_parent : (m : MachineState) (i j : ℕ) → i < 22 → j < 8 → place m (8 * i + j) ≡ lane j (parent_at m i)
place_parent m i j h l =
    let e : (8 * i + j) % 8 ≡ j = omega arith in
    let f : (8 * i + j) / 8 ≡ i = omega arith in
    place_lane m (8 * i + j) (omega arith) ∙ ap₂ (λ (a b : ℕ). lane a (parent_at m b)) e f

pub place_flag : (m : MachineState) (f : Flags) → place m (flag_place f) ≡ cut m.rflags (bit_of f) 1
unfolding place bit_at bits_at
place_flag m Carry = refl
place_flag m Parity = refl
place_flag m Zero = refl
place_flag m Sign = refl
place_flag m Direction = refl
place_flag m Overflow = refl

-- two machines agree on the places of a span
abbrev pub Agrees : Span → MachineState → MachineState → Type 0
Agrees s m n = (p : ℕ) → in_span s p ≡ true → place m p ≡ place n p

-- ---- what is read
module _ (m n : MachineState) where
  pub register_same : (r : Register) → Agrees (read_span r) m n → read_reg m r ≡ read_reg n r
  register_same r h =
      read_same m n r
      (λ k l. let b = parent_below r in
      let w = reads_within (part_of r) in
      let q = 8 * parent_of r + (first_lane (part_of r) + k) in
      sym (place_parent m (parent_of r) (first_lane (part_of r) + k) b (omega arith))
      ∙ h (8 * parent_of r + (first_lane (part_of r) + k))
      (in_yes (read_span r) (8 * parent_of r + (first_lane (part_of r) + k)) (omega arith) (omega arith))
      ∙ place_parent n (parent_of r) (first_lane (part_of r) + k) b (omega arith))

  pub parent_same : (i : ℕ) → i < 22 → WellTyped m → WellTyped n → Agrees (parent_places i) m n → parent_at m i ≡ parent_at n i
  parent_same i b gm gn h =
      sym (cut_all (parent_at m i) 64 (gm.words i b))
      ∙ cells_fix 8 (parent_at m i) (parent_at n i) 0 8
      (λ j l. let z : 0 + 8 * j ≡ 8 * j = omega arith in
      rw z
      (sym (place_parent m i j b l) ∙ h (8 * i + j) (in_yes (parent_places i) (8 * i + j) (omega arith) (omega arith))
      ∙ place_parent n i j b l))
      ∙ cut_all (parent_at n i) 64 (gn.words i b)

  pub base_same : (b : Option Register) → Agrees (part_span b) m n → base_of m b ≡ base_of n b
  base_same None h = refl
  base_same (Some r) h = register_same r h

  pub sum_same : (b i : Option Register) (k : Option ℕ) (d : ℤ) → Agrees (part_span b) m n → Agrees (part_span i) m n
      → sum_of m b i k d ≡ sum_of n b i k d
  sum_same b None k d h g = ap (λ (x : ℕ). gives ((x + of_z w64 d) % 2 ^ 64 ∷ [])) (base_same b h)
  sum_same b (Some r) None d h g = refl
  sum_same b (Some r) (Some k) d h g =
      ap₂ (λ (x y : ℕ). gives ((x + y * k + of_z w64 d) % 2 ^ 64 ∷ [])) (base_same b h) (register_same r g)

  pub flag_same : (f : Flags) → Agrees (flag_span f) m n → flag_in m f ≡ flag_in n f
  unfolding bit_set
  flag_same f h =
      ap (λ (x : ℕ). eqb x 1)
      (sym (place_flag m f) ∙ h (flag_place f) (in_yes (flag_span f) (flag_place f) (omega arith) (omega arith)) ∙ place_flag n f)

-- ---- what is rewritten
-- two machines agree where r holds
abbrev pub AgreeWhere : (ℕ → Bool) → MachineState → MachineState → Type 0
AgreeWhere r m n = (p : ℕ) → r p ≡ true → place m p ≡ place n p

-- f renews the places where w holds, by what stands where r holds and by nothing else, and keeps the others
pub record Renews (r : ℕ → Bool) (f : MachineState → MachineState) (w : ℕ → Bool) : Type 0 where
  pub good : (m : MachineState) → WellTyped m → WellTyped (f m)
  pub keeps : (m : MachineState) (p : ℕ) → WellTyped m → w p ≡ false → place (f m) p ≡ place m p
  pub renews : (m n : MachineState) (p : ℕ) → WellTyped m → WellTyped n → AgreeWhere r m n → w p ≡ true → place (f m) p ≡ place (f n) p

pub same_where : (r : ℕ → Bool) (f : MachineState → MachineState) (w v : ℕ → Bool) → ((p : ℕ) → v p ≡ w p) → Renews r f w → Renews r f v
same_where r f w v e a =
    record {
      good = a.good;
      keeps = λ m p g h. a.keeps m p g (sym (e p) ∙ h);
      renews = λ m n p g k q h. a.renews m n p g k q (sym (e p) ∙ h);
    }

pub and_then : (r : ℕ → Bool) (f g : MachineState → MachineState) (w v : ℕ → Bool) → Renews r f w → Renews r g v
    → Renews r (λ m. g (f m)) (λ p. w p || v p)
and_then r f g w v a b =
    record {
      good = λ m h. b.good (f m) (a.good m h);
      keeps = λ m p h e. b.keeps (f m) p (a.good m h) (or_parts (w p) (v p) e).1 ∙ a.keeps m p h (or_parts (w p) (v p) e).0;
      renews = λ m n p h k q e. go m n p h k q (cases_Bool (v p)) e;
    }
  where
    -- f's places agree after it, and the others as they did
    agree_after : (m n : MachineState) → WellTyped m → WellTyped n → AgreeWhere r m n → AgreeWhere r (f m) (f n)
    agree_after m n h k q p t = pick (cases_Bool (w p))
      where
        pick : (w p ≡ true) ⊎ (w p ≡ false) → place (f m) p ≡ place (f n) p
        pick (inl y) = a.renews m n p h k q y
        pick (inr z) = a.keeps m p h z ∙ q p t ∙ sym (a.keeps n p k z)

    go : (m n : MachineState) (p : ℕ) → WellTyped m → WellTyped n → AgreeWhere r m n → (v p ≡ true) ⊎ (v p ≡ false) → (w p || v p) ≡ true
        → place (g (f m)) p ≡ place (g (f n)) p
    go m n p h k q (inl t) e = b.renews (f m) (f n) p (a.good m h) (a.good n k) (agree_after m n h k q) t
    go m n p h k q (inr t) e =
        b.keeps (f m) p (a.good m h) t ∙ a.renews m n p h k q (first (w p) (v p) t e) ∙ sym (b.keeps (f n) p (a.good n k) t)
      where
        first : (x y : Bool) → y ≡ false → (x || y) ≡ true → x ≡ true
        first true y t e = refl
        first false y t e = sym t ∙ e

-- a change that turns on a test of the machine, which the places where r holds decide
pub by_reading : (r : ℕ → Bool) (test : MachineState → Bool) (g : Bool → MachineState → MachineState) (w : ℕ → Bool)
    → ((m n : MachineState) → AgreeWhere r m n → test m ≡ test n) → ((b : Bool) → Renews r (g b) w) → Renews r (λ m. g (test m) m) w
by_reading r test g w same a =
    record {
      good = λ m h. (a (test m)).good m h;
      keeps = λ m p h e. (a (test m)).keeps m p h e;
      renews = λ m n p h k q e. (a (test m)).renews m n p h k q e ∙ ap (λ (b : Bool). place (g b n) p) (same m n q);
    }

-- a register
module _ (r : Register) (v : ℕ) where
  write_good : (m : MachineState) → WellTyped m → WellTyped (write_reg m r v)
  unfolding write_reg
  write_good m g =
      record {
        parents = length-set m.regs (parent_of r) _
            ∙ g.parents;
        words = λ i h. go i h (ℕ_discrete i (parent_of r));
        flags = g.flags;
        tables = g.tables;
      }
    where
      x : ℕ
      x = write_of (part_of r) (parent_at m (parent_of r)) v

      go : (i : ℕ) → i < 22 → Dec (i ≡ parent_of r) → get_or (set m.regs (parent_of r) x) i 0 < 2 ^ 64
      go i h (yes e) =
          let fits : parent_of r < length m.regs = omega (arith, parent_below r, g.parents) in
          rw (e, get_or-set_same m.regs (parent_of r) x 0 fits)
          (write_part_word (part_of r) (parent_at m (parent_of r)) v (g.words (parent_of r) (parent_below r)))
      go i h (no e) = rw (get_or-set_other m.regs (parent_of r) i x 0 e) (g.words i h)

  write_far : (m : MachineState) (p : ℕ) → 176 ≤ p → place (write_reg m r v) p ≡ place m p
  unfolding place write_reg
  write_far m p h = simp (le-ltb p 176 h)

  write_kept : (m : MachineState) (p : ℕ) → WellTyped m → in_span (rewrite_span r) p ≡ false → Dec (p < 176)
      → place (write_reg m r v) p ≡ place m p
  write_kept m p g h (yes l) =
      place_lane (write_reg m r v) p l
      ∙ write_out m r v g.parents (p / 8) (p % 8)
      (λ e f. ⊎_elim (λ (q : p < 8 * parent_of r + first_lane (part_of r)). omega arith)
      (λ (q : 8 * parent_of r + first_lane (part_of r) + lanes_rewritten (part_of r) ≤ p). omega arith) (in_no (rewrite_span r) p h))
      ∙ sym (place_lane m p l)
  write_kept m p g h (no l) = write_far m p (omega (arith, l))

  pub write_new : (m : MachineState) (p : ℕ) → WellTyped m → in_span (rewrite_span r) p ≡ true
      → place (write_reg m r v) p ≡ lane (p - (8 * parent_of r + first_lane (part_of r))) (v % 2 ^ (8 * lanes_read (part_of r)))
  write_new m p g h =
      let lo : 8 * parent_of r + first_lane (part_of r) ≤ p = in_low (rewrite_span r) p h in
      let hi : p < 8 * parent_of r + first_lane (part_of r) + lanes_rewritten (part_of r) = in_high (rewrite_span r) p h in
      let b = parent_below r in
      let w = rewrites_within (part_of r) in
      let k = p - (8 * parent_of r + first_lane (part_of r)) in
      let e : p ≡ 8 * parent_of r + (first_lane (part_of r) + (p - (8 * parent_of r + first_lane (part_of r)))) = omega arith in
      ap (place (write_reg m r v)) e
      ∙ place_parent (write_reg m r v) (parent_of r) (first_lane (part_of r) + (p - (8 * parent_of r + first_lane (part_of r)))) b
      (omega arith)
      ∙ write_in m r v g.parents (p - (8 * parent_of r + first_lane (part_of r))) (omega arith)

  pub register_renews : (by : ℕ → Bool) → Renews by (λ m. write_reg m r v) (in_span (rewrite_span r))
  register_renews by =
      record {
        good = write_good;
        keeps = λ m p g h. write_kept m p g h (dec_lt p 176);
        renews = λ m n p g k q h. write_new m p g h ∙ sym (write_new n p k h);
      }

-- rsp, which push and pop move, is a register written whole
put_all : (x y : ℕ) → x < 2 ^ 64 → y < 2 ^ 64 → put x 0 64 (y % 2 ^ 64) ≡ y
put_all x y h l =
    sym (cut_all (put x 0 64 (y % 2 ^ 64)) 64 (put_lt x 0 64 (y % 2 ^ 64) 64 (omega arith) h))
    ∙ put_inside x 0 64 (y % 2 ^ 64) 0 64 (omega arith)
    ∙ cut_mod y 64 0 64 (omega arith)
    ∙ cut_all y 64 l

pub rsp_written : (m : MachineState) (x : ℕ) → WellTyped m → x < 2 ^ 64 → with_rsp m x ≡ write_reg m RSP x
unfolding write_reg write_of row
rsp_written m x g h = ap (λ (y : ℕ). with_regs m (set m.regs 4 y)) (sym (put_all (parent_at m 4) x (g.words 4 (omega arith)) h))

-- a flag: each other field of rflags stands wholly below the flag's bit or above it
away : Flags → ℕ → Bool
away f j = eqb j (flag_place f - 176) || (leb (bit_at j + bits_at j) (bit_of f) || leb (bit_of f + 1) (bit_at j))

all_away : (f : Flags) → agree_below (away f) (λ j. true) 10 ≡ true
unfolding away bit_at bits_at
all_away Carry = refl
all_away Parity = refl
all_away Zero = refl
all_away Sign = refl
all_away Direction = refl
all_away Overflow = refl

module _ (f : Flags) (b : Bool) where
  beside : (j : ℕ) → j < 10 → (j ≡ flag_place f - 176 → ⊥) → (bit_at j + bits_at j ≤ bit_of f) ⊎ (bit_of f + 1 ≤ bit_at j)
  unfolding away
  beside j l ne = pick (cases_Bool (leb (bit_at j + bits_at j) (bit_of f)))
    where
      rule : (eqb j (flag_place f - 176) || (leb (bit_at j + bits_at j) (bit_of f) || leb (bit_of f + 1) (bit_at j))) ≡ true
      rule = agree_below_at (away f) (λ j. true) 10 j (all_away f) l

      pick : (leb (bit_at j + bits_at j) (bit_of f) ≡ true) ⊎ (leb (bit_at j + bits_at j) (bit_of f) ≡ false)
          → (bit_at j + bits_at j ≤ bit_of f) ⊎ (bit_of f + 1 ≤ bit_at j)
      pick (inl t) = inl (leb-true (bit_at j + bits_at j) (bit_of f) t)
      pick (inr e) = inr (leb-true (bit_of f + 1) (bit_at j) (rw (ne_eqb j (flag_place f - 176) ne, e) at rule))

  flag_kept : (m : MachineState) (p : ℕ) → in_span (flag_span f) p ≡ false → Dec (p < 176) → Dec (p < 186)
      → place (set_flag m f b) p ≡ place m p
  flag_kept m p h (yes l) d = place_lane (set_flag m f b) p l ∙ sym (place_lane m p l)
  flag_kept m p h (no l) (no d) = place_rest (set_flag m f b) p (omega (arith, d)) ∙ sym (place_rest m p (omega (arith, d)))
  flag_kept m p h (no l) (yes d) =
      let a : 176 ≤ p = omega (arith, l) in
      place_bits (set_flag m f b) p a d
      ∙ bits_kept m.rflags f b (bit_at (p - 176)) (bits_at (p - 176))
      (beside (p - 176) (omega arith)
      (λ e. let o = flag_from f in
      ⊎_elim (λ (q : p < flag_place f). omega arith) (λ (q : flag_place f + 1 ≤ p). omega arith) (in_no (flag_span f) p h)))
      ∙ sym (place_bits m p a d)

  pub flag_new : (m : MachineState) (p : ℕ) → in_span (flag_span f) p ≡ true → place (set_flag m f b) p ≡ cut (bool_bit b) 0 1
  unfolding put_flag
  flag_new m p h =
      let lo : flag_place f ≤ p = in_low (flag_span f) p h in
      let hi : p < flag_place f + 1 = in_high (flag_span f) p h in
      let e : p ≡ flag_place f = omega arith in
      let z : bit_of f ≡ bit_of f + 0 = omega arith in
      ap (place (set_flag m f b)) e ∙ place_flag (set_flag m f b) f ∙ ap (λ (k : ℕ). cut (put m.rflags (bit_of f) 1 (bool_bit b)) k 1) z
      ∙ put_inside m.rflags (bit_of f) 1 (bool_bit b) 0 1 (omega arith)

  pub flag_renews : (by : ℕ → Bool) → Renews by (λ m. set_flag m f b) (in_span (flag_span f))
  flag_renews by =
      record {
        good = λ m g. record { parents = g.parents; words = g.words; flags = flag_word m.rflags f b g.flags; tables = g.tables };
        keeps = λ m p g h. flag_kept m p h (dec_lt p 176) (dec_lt p 186);
        renews = λ m n p g k q h. flag_new m p h ∙ sym (flag_new n p h);
      }

-- one flag more
pub then_flag : {by : ℕ → Bool} {f : MachineState → MachineState} {w : ℕ → Bool} (g : Flags) (b : Bool) → Renews by f w
    → Renews by (λ m. set_flag (f m) g b) (λ p. w p || in_span (flag_span g) p)
then_flag {by} {f} {w} g b a = and_then by f (λ m. set_flag m g b) w (in_span (flag_span g)) a (flag_renews g b by)

-- the flags of a result are three, whatever says Zero
abbrev pub resulted : Bool → ℕ → ArgumentSize → MachineState → MachineState
resulted b x z m = with_flags m (result_flags m.rflags b x z)

pub result_renews : (by : ℕ → Bool) (b : Bool) (x : ℕ) (z : ArgumentSize)
    → Renews by (resulted b x z) (λ p. (in_span (flag_span Zero) p || in_span (flag_span Sign) p) || in_span (flag_span Parity) p)
result_renews by b x z = then_flag Parity (even_ones x) (then_flag Sign (sign_in z x) (flag_renews Zero b by))

-- an operation sets five, by its sum or difference
abbrev pub flagged : ArgumentSize → Sum → MachineState → MachineState
flagged z s m = with_flags m (flags_of m.rflags z s)

pub flagged_renews : (by : ℕ → Bool) (z : ArgumentSize) (s : Sum) → Renews by (flagged z s) five_in_turn
unfolding flags_of
flagged_renews by z s =
    then_flag Overflow s.overflow (then_flag Sign (sign_in z s.value) (then_flag Zero (eqb s.value 0)
    (then_flag Parity (even_ones s.value) (flag_renews Carry s.carry by))))
