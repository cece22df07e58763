-- A dropped call and the reader that it leaves: exposed of two lists one after the other, from which the general law follows; Carry is the
-- case whose rows are computed. That the reader sees it: the two sums are neighbours, so they differ modulo 2^w, and so do the answers.
-- Assumes nothing.
use mathlib.Core.Bool.{Bool, true, false, not, ◌&&◌, ◌||◌}
use mathlib.Core.List.{List, [], ◌∷◌, ◌++◌}
use mathlib.Core.Path.{◌≡◌, refl, sym, ap, ◌∙◌}
use Prim.Native.Nat.{ℕ, ◌+◌, ◌-◌, ◌*◌, ◌%◌, ◌^◌, ◌≤◌, ◌<◌}
use native.Mathlib.Decide.{dec_lt}
use native.Mathlib.Nat.{mod-lt, mod-mod, mod-eq_of_lt, mod-add-mod}
use native.Mathlib.Omega.{arith}
use lib.Pow.{pow_pos}
use Rattle.utils.specs.Outcome.{Outcome}
use Rattle.utils.specs.Word.{extend}
use Rattle.utils.proofs.Extend.{extend_back}
use Rattle.std.proofs.lemmas.Bool.{false≢true}
use Rattle.utils.proofs.Powers.{twice}
use Rattle.instruction_set.specs.Sizes.{bytes_of}
use Rattle.instruction_set.specs.declared.ArgumentSize.{ArgumentSize}
use Rattle.instruction_set.specs.declared.Flags.TheVariants.{Carry}
use Rattle.fields.specs.FlagBits.{bool_bit}
use Rattle.fields.proofs.FlagLaws.{flag_back}
use Rattle.arithmetic.specs.Sums.{added, subtracted, worked_of, computed_of}
use Rattle.arithmetic.specs.declared.Operation.{Operation}
use Rattle.arithmetic.specs.declared.Operation.TheVariants.{Add, AddWithCarry, Subtract, SubtractWithBorrow, Compare}
use Rattle.arithmetic.proofs.Adding.{rest_is}
use Rattle.arithmetic.proofs.Widths.{bits_some, bits_within}
use Rattle.store.specs.Store.{Store}
use Rattle.machine_state.specs.Answers.{Value, word, truth}
use Rattle.machine_state.specs.Flagged.{set_flag}
use Rattle.machine_state.specs.Operating.{operated}
use Rattle.machine_state.specs.declared.MachineState.{MachineState}
use Rattle.calls.specs.Step.{step}
use Rattle.calls.specs.declared.Call.TheVariants.{Arithmetic}
use Rattle.effects.specs.Exposed.{exposed, rewritten}
use Rattle.effects.specs.Places.{Act, reads, rewrites}
use Rattle.effects.specs.Rows.{reads_of, rewrites_of, in_span, in_spans}
use Rattle.promises.specs.Dropped.{DropExposes, HalvesDropped, CarrySeen}

-- ---- lists one after the other
exposed_both : (some more : List Act) (p : ℕ)
    → exposed reads rewrites (some ++ more) p
    ≡ (exposed reads rewrites some p || (not (rewritten rewrites some p) && exposed reads rewrites more p))
unfolding exposed rewritten
exposed_both [] more p = refl
exposed_both (a ∷ some) more p =
    ap (λ (b : Bool). reads a p || (not (rewrites a p) && b)) (exposed_both some more p)
    ∙ go (reads a p) (rewrites a p) (exposed reads rewrites some p) (rewritten rewrites some p) (exposed reads rewrites more p)
  where
    go : (r w e v m : Bool) → (r || (not w && (e || (not v && m)))) ≡ ((r || (not w && e)) || (not (w || v) && m))
    go r w e v m = grind arith

pub drop_exposes : DropExposes
unfolding exposed
drop_exposes before setter between reader after p quiet unset silent sets kept reads-it =
    record {
      set = exposed_both before (setter ∷ (between ++ reader ∷ after)) p ∙ rw (quiet, unset, silent, sets);
      dropped = exposed_both before (between ++ reader ∷ after) p
          ∙ rw (quiet, unset, exposed_both between (reader ∷ after) p, kept, reads-it) (ending (exposed reads rewrites between p));
    }
  where
    ending : (b : Bool) → (b || true) ≡ true
    ending true = refl
    ending false = refl

pub halves_dropped : HalvesDropped
unfolding reads rewrites reads_of rewrites_of in_spans in_span
halves_dropped = (
  λ before low between high after q u k. drop_exposes before _ between _ after _ q u refl refl k refl,
  λ before low between high after q u k. drop_exposes before _ between _ after _ q u refl refl k refl,
)

-- ---- neighbours differ modulo m
apart : (m t : ℕ) → 2 ≤ m → (t + 1) % m ≡ t % m → ⊥
apart m t two e = go (dec_lt (t % m + 1) m)
  where
    step_on : (t % m + 1) % m ≡ (t + 1) % m
    step_on = mod-add-mod t m 1

    go : Dec (t % m + 1 < m) → ⊥
    go (yes h) = let f : (t % m + 1) % m ≡ t % m + 1 = mod-eq_of_lt h in omega (arith, e, step_on, f)
    go (Prim.no h) =
        let l : t % m < m = mod-lt t (omega arith) in
        let f : (t % m + 1) % m ≡ 0 = rest_is m 1 0 (t % m + 1) (omega arith) (omega (arith, h)) in
        omega (arith, e, step_on, f, h)

-- the value of an answer
value_in : List Value → ℕ
value_in [] = 0
value_in (word v ∷ vs) = v
value_in (truth b ∷ vs) = 0

-- extended values are equal where their low bits are
same_low : (z : ArgumentSize) (u v : ℕ) → extend (8 * bytes_of z) u ≡ extend (8 * bytes_of z) v
    → u % 2 ^ (8 * bytes_of z) ≡ v % 2 ^ (8 * bytes_of z)
same_low z u v e =
    sym (extend_back (8 * bytes_of z) u (bits_within z)) ∙ ap (λ (x : ℕ). x % 2 ^ (8 * bytes_of z)) e
    ∙ extend_back (8 * bytes_of z) v (bits_within z)

module _ (z : ArgumentSize) (a b : ℕ) (m : MachineState) (s : Store) (l : List ℕ) where
  abbrev w : ℕ
  w = 8 * bytes_of z

  abbrev x : ℕ
  x = a % 2 ^ w

  abbrev y : ℕ
  y = b % 2 ^ w

  two : 2 ≤ 2 ^ w
  two = omega (arith, twice w (bits_some z), pow_pos (w - 1))

  abbrev value_said : Operation → Bool → ℕ
  value_said o c = value_in (step (Arithmetic o z a b) (set_flag m Carry c) s l).outcome.values

  sum_value_said : (c : Bool) → value_said AddWithCarry c ≡ extend w ((x + y + bool_bit c) % 2 ^ w)
  unfolding step operated computed_of worked_of added value_in
  sum_value_said c = rw (flag_back m.rflags Carry c)

  difference_value_said : (c : Bool) → value_said SubtractWithBorrow c ≡ extend w ((x + 2 ^ w - (y + bool_bit c)) % 2 ^ w)
  unfolding step operated computed_of worked_of subtracted value_in
  difference_value_said c = rw (flag_back m.rflags Carry c)

  -- the answers are those of t + 1 and t
  neighbours : (u v t : ℕ) → extend w (u % 2 ^ w) ≡ extend w (v % 2 ^ w) → u ≡ t + 1 → v ≡ t → ⊥
  neighbours u v t e f g =
      apart (2 ^ w) t two
      (ap (λ (k : ℕ). k % 2 ^ w) (sym f) ∙ sym (mod-mod u (2 ^ w)) ∙ same_low z (u % 2 ^ w) (v % 2 ^ w) e ∙ mod-mod v (2 ^ w)
      ∙ ap (λ (k : ℕ). k % 2 ^ w) g)

  sum_seen : value_said AddWithCarry true ≡ value_said AddWithCarry false → ⊥
  sum_seen e =
      neighbours (x + y + 1) (x + y + 0) (x + y) (sym (sum_value_said true) ∙ e ∙ sum_value_said false) (omega arith) (omega arith)

  difference_seen : value_said SubtractWithBorrow true ≡ value_said SubtractWithBorrow false → ⊥
  difference_seen e =
      let l = mod-lt b (pow_pos w) in
      neighbours (x + 2 ^ w - (y + 0)) (x + 2 ^ w - (y + 1)) (x + 2 ^ w - (y + 1))
      (sym (difference_value_said false) ∙ sym e ∙ difference_value_said true) (omega arith) (omega arith)

abbrev valued : Outcome Value → ℕ
valued o = value_in o.values

pub carry_seen : CarrySeen
unfolding reads reads_of in_spans in_span
carry_seen Add z a b m s l h e = absurd (false≢true h)
carry_seen AddWithCarry z a b m s l h e = sum_seen z a b m s l (ap valued e)
carry_seen Subtract z a b m s l h e = absurd (false≢true h)
carry_seen SubtractWithBorrow z a b m s l h e = difference_seen z a b m s l (ap valued e)
carry_seen Compare z a b m s l h e = absurd (false≢true h)
