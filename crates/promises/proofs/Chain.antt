-- The chain, for sums and differences at once. Of one pair of words, what it gives and what it hands on balance the words and the carry
-- in; balances of words make up the balance of the numbers (`both`), by induction over the words. Over the machine each operation hands
-- its Carry on, and the calls between keep it by their rows. Assumes nothing.
use mathlib.Core.Bool.{Bool, true, false}
use mathlib.Core.List.{List, [], ◌∷◌, ◌++◌, map}
use mathlib.Core.Logic.{◌⊎◌, inl, inr}
use mathlib.Core.Path.{◌≡◌, refl, sym, ap, ap₂, ◌∙◌}
use Prim.Native.Nat.{ℕ, suc, ◌+◌, ◌-◌, ◌*◌, ◌%◌, ◌^◌, ◌≤◌, ◌<◌}
use native.Mathlib.Nat.{mod-lt, mod-mod, mod-eq_of_lt, mul-le-mul_left}
use native.Mathlib.Omega.{arith}
use borrow.Author.Tests.{leb-true, leb-false, le-leb, lt-leb, ltb-true, ltb-false, lt-ltb, le-ltb}
use lib.Dec.{eqb, leb, ltb}
use lib.ListN.{length, drop}
use lib.Pow.{pow-add, pow_pos}
use Rattle.std.proofs.lemmas.Bool.{cases_Bool}
use Rattle.utils.proofs.Extend.{extend_back}
use Rattle.utils.specs.Outcome.{Outcome, gives}
use Rattle.utils.specs.Word.{extend}
use Rattle.instruction_set.specs.declared.Flags.TheVariants.{Carry}
use Rattle.fields.specs.FlagBits.{bool_bit, bit_set}
use Rattle.arithmetic.specs.Sums.{added, subtracted, worked_of, computed_of}
use Rattle.arithmetic.specs.declared.Operation.{Operation}
use Rattle.arithmetic.specs.declared.Operation.TheVariants.{Add, AddWithCarry, Subtract, SubtractWithBorrow, Compare}
use Rattle.arithmetic.specs.declared.Sum.{Sum}
use Rattle.arithmetic.proofs.Adding.{rest_is}
use Rattle.arithmetic.proofs.Left.{carry_left}
use Rattle.arithmetic.proofs.Widths.{bits_within, carry_below}
use Rattle.store.specs.Store.{Store}
use Rattle.machine_state.specs.Answers.{Value, word}
use Rattle.machine_state.specs.Flagged.{flag_in}
use Rattle.machine_state.specs.Operating.{operated}
use Rattle.calls.specs.Step.{step}
use Rattle.effects.specs.Exposed.{Seen, end, rewritten, trace}
use Rattle.effects.specs.Places.{Act, State, WellTyped, CallAnswer, rewrites, reads, reaches_memory, store_in, place_in, WellTypedState}
use Rattle.effects.specs.Places.{does}
use Rattle.effects.specs.Rows.{flag_place}
use Rattle.effects.proofs.Forgotten.{kept}
use Rattle.effects.proofs.Owed.{owed}
use Rattle.effects.proofs.Places.{place_flag}
use Rattle.effects.proofs.Theorem.{stays_well_typed, ends_well_typed}
use Rattle.promises.specs.Chain.{Link, width_of, total_width, number_by, first_number, second_number, joined, operation, calls_of}
use Rattle.promises.specs.Chain.{CarryKept, of_operations, outcome_seen, ChainGives, AddChain, SubtractChain, NoWords}

data Chained : Type 0 where
  sums : Chained
  differences : Chained

abbrev start_of : Chained → Operation
start_of sums = Add
start_of differences = Subtract

abbrev rest_of : Chained → Operation
rest_of sums = AddWithCarry
rest_of differences = SubtractWithBorrow

-- numbers x and y below m, with c, give v and hand on out, which is worth m
abbrev Balanced : Chained → ℕ → ℕ → ℕ → ℕ → ℕ → ℕ → Type 0
Balanced sums m v out x y c = v + m * out ≡ x + y + c
Balanced differences m v out x y c = v + (y + c) ≡ x + m * out

-- ---- one pair of words
carry_on : (m t : ℕ) → t < 2 * m → t % m + m * bool_bit (leb m t) ≡ t
carry_on m t l = go (cases_Bool (leb m t))
  where
    go : (leb m t ≡ true) ⊎ (leb m t ≡ false) → t % m + m * bool_bit (leb m t) ≡ t
    go (inl h) =
        let k = leb-true m t h in
        let r : t % m ≡ t - m = rest_is m 1 (t - m) t (omega arith) (omega arith) in
        rw h (omega arith)
    go (inr h) = let r : t % m ≡ t = mod-eq_of_lt (leb-false m t h) in rw h (omega arith)

borrow_on : (m x t : ℕ) → x < m → t ≤ m → (x + m - t) % m + t ≡ x + m * bool_bit (ltb x t)
borrow_on m x t l k = go (cases_Bool (ltb x t))
  where
    go : (ltb x t ≡ true) ⊎ (ltb x t ≡ false) → (x + m - t) % m + t ≡ x + m * bool_bit (ltb x t)
    go (inl h) =
        let b = ltb-true x t h in
        let r : (x + m - t) % m ≡ x + m - t = mod-eq_of_lt (omega arith) in
        rw h (omega arith)
    go (inr h) =
        let b = ltb-false x t h in
        let r : (x + m - t) % m ≡ x - t = rest_is m 1 (x - t) (x + m - t) (omega arith) (omega arith) in
        rw h (omega arith)

pair_worked : Chained → Link → Bool → Sum
pair_worked sums k c = added (width_of k) (k.first % 2 ^ width_of k) (k.second % 2 ^ width_of k) (bool_bit c)
pair_worked differences k c = subtracted (width_of k) (k.first % 2 ^ width_of k) (k.second % 2 ^ width_of k) (bool_bit c)

module _ (k : Link) (c : Bool) where
  abbrev x : ℕ
  x = k.first % 2 ^ width_of k

  abbrev y : ℕ
  y = k.second % 2 ^ width_of k

  word_balanced : (d : Chained)
      → Balanced d (2 ^ width_of k) (pair_worked d k c).value (bool_bit (pair_worked d k c).carry) x y (bool_bit c)
  unfolding pair_worked added subtracted
  word_balanced sums =
      let l = mod-lt k.first (pow_pos (width_of k)) in
      let j = mod-lt k.second (pow_pos (width_of k)) in
      let bit = carry_below c in
      carry_on (2 ^ width_of k) (x + y + bool_bit c) (omega arith)
  word_balanced differences =
      let l = mod-lt k.first (pow_pos (width_of k)) in
      let j = mod-lt k.second (pow_pos (width_of k)) in
      let bit = carry_below c in
      borrow_on (2 ^ width_of k) x (y + bool_bit c) l (omega arith)

  answer_cut : (d : Chained) → extend (width_of k) (pair_worked d k c).value % 2 ^ width_of k ≡ (pair_worked d k c).value
  unfolding pair_worked added subtracted
  answer_cut sums = extend_back (width_of k) (pair_worked sums k c).value (bits_within k.size) ∙ mod-mod _ (2 ^ width_of k)
  answer_cut differences =
      extend_back (width_of k) (pair_worked differences k c).value (bits_within k.size) ∙ mod-mod _ (2 ^ width_of k)

-- ---- many words, with a carry in
both : (d : Chained) (m v o x y c n w p s t : ℕ) → Balanced d m v o x y c → Balanced d n w p s t o
    → Balanced d (m * n) (v + m * w) p (x + m * s) (y + m * t) c
both sums m v o x y c n w p s t e f = let g = ap (λ (z : ℕ). m * z) f in omega (arith, e, g)
both differences m v o x y c n w p s t e f = let g = ap (λ (z : ℕ). m * z) f in omega (arith, e, g)

carried_out : Chained → Bool → List Link → Bool
carried_out d c [] = c
carried_out d c (k ∷ ks) = carried_out d (pair_worked d k c).carry ks

values_from : Chained → Bool → List Link → List ℕ
values_from d c [] = []
values_from d c (k ∷ ks) = extend (width_of k) (pair_worked d k c).value ∷ values_from d (pair_worked d k c).carry ks

whole_balanced : (d : Chained) (ks : List Link) (c : Bool)
    → Balanced d (2 ^ total_width ks) (joined ks (values_from d c ks)) (bool_bit (carried_out d c ks)) (first_number ks) (second_number ks)
    (bool_bit c)
unfolding joined values_from total_width carried_out number_by
whole_balanced sums [] c = omega arith
whole_balanced differences [] c = omega arith
whole_balanced d (k ∷ ks) c =
    rw (answer_cut k c d, pow-add 2 (width_of k) (total_width ks))
    (both d (2 ^ width_of k) (pair_worked d k c).value (bool_bit (pair_worked d k c).carry) (k.first % 2 ^ width_of k)
    (k.second % 2 ^ width_of k) (bool_bit c) (2 ^ total_width ks) (joined ks (values_from d (pair_worked d k c).carry ks))
    (bool_bit (carried_out d (pair_worked d k c).carry ks)) (first_number ks) (second_number ks) (word_balanced k c d)
    (whole_balanced d ks (pair_worked d k c).carry))

joined_below : (ks : List Link) (vs : List ℕ) → joined ks vs < 2 ^ total_width ks
unfolding joined total_width
joined_below [] vs = omega arith
joined_below (k ∷ ks) [] = pow_pos (width_of k + total_width ks)
joined_below (k ∷ ks) (v ∷ vs) =
    let low = mod-lt v (pow_pos (width_of k)) in
    let high : 2 ^ width_of k * suc (joined ks vs) ≤ 2 ^ width_of k * 2 ^ total_width ks =
    mul-le-mul_left (2 ^ width_of k) (joined_below ks vs) in
    rw (pow-add 2 (width_of k) (total_width ks)) (omega arith)

-- with no carry in, it is the whole sum, or the whole difference
whole_sum : (m v t : ℕ) (c : Bool) → v < m → v + m * bool_bit c ≡ t → (v ≡ t % m) × (c ≡ leb m t)
whole_sum m v t true l e = (sym (rest_is m 1 v t l (omega arith)), sym (le-leb m t (omega arith)))
whole_sum m v t false l e = (sym (rest_is m 0 v t l (omega arith)), sym (lt-leb m t (omega arith)))

whole_difference : (m v a b : ℕ) (c : Bool) → v < m → v + b ≡ a + m * bool_bit c → (v ≡ (a + m - b) % m) × (c ≡ ltb a b)
whole_difference m v a b true l e =
    (sym (rest_is m 0 v (a + m - b) l (omega arith)), sym (lt-ltb a b (omega arith)))
whole_difference m v a b false l e =
    (sym (rest_is m 1 v (a + m - b) l (omega arith)), sym (le-ltb a b (omega arith)))

-- ---- the machine: one operation takes a carry, answers and hands Carry on
data Takes : Chained → Operation → State → Bool → Type 0 where
  none : {d : Chained} {x : State} → Takes d (start_of d) x false
  last : {d : Chained} {x : State} {c : Bool} → flag_in x.machine Carry ≡ c → Takes d (rest_of d) x c

says : (d : Chained) (o : Operation) (k : Link) (x : State) (c : Bool) → Takes d o x c
    → (does (operation o k) x).answer.outcome ≡ gives (word (extend (width_of k) (pair_worked d k c).value) ∷ [])
unfolding does step operated computed_of worked_of pair_worked
says sums Add k x false none = refl
says differences Subtract k x false none = refl
says sums AddWithCarry k x c (last e) = rw e
says differences SubtractWithBorrow k x c (last e) = rw e
says sums Add k x true h = elim h [ ]
says sums Subtract k x c h = elim h [ ]
says sums SubtractWithBorrow k x c h = elim h [ ]
says sums Compare k x c h = elim h [ ]
says differences Add k x c h = elim h [ ]
says differences AddWithCarry k x c h = elim h [ ]
says differences Subtract k x true h = elim h [ ]
says differences Compare k x c h = elim h [ ]

hands_on : (d : Chained) (o : Operation) (k : Link) (x : State) (c : Bool) → Takes d o x c
    → flag_in (does (operation o k) x).after.machine Carry ≡ (pair_worked d k c).carry
unfolding does step operated computed_of worked_of pair_worked
hands_on sums Add k x false none = carry_left x.machine.rflags k.size (pair_worked sums k false)
hands_on differences Subtract k x false none = carry_left x.machine.rflags k.size (pair_worked differences k false)
hands_on sums AddWithCarry k x c (last e) =
    carry_left x.machine.rflags k.size (pair_worked sums k (flag_in x.machine Carry))
    ∙ ap (λ (b : Bool). (pair_worked sums k b).carry) e
hands_on differences SubtractWithBorrow k x c (last e) =
    carry_left x.machine.rflags k.size (pair_worked differences k (flag_in x.machine Carry))
    ∙ ap (λ (b : Bool). (pair_worked differences k b).carry) e
hands_on sums Add k x true h = elim h [ ]
hands_on sums Subtract k x c h = elim h [ ]
hands_on sums SubtractWithBorrow k x c h = elim h [ ]
hands_on sums Compare k x c h = elim h [ ]
hands_on differences Add k x c h = elim h [ ]
hands_on differences AddWithCarry k x c h = elim h [ ]
hands_on differences Subtract k x true h = elim h [ ]
hands_on differences Compare k x c h = elim h [ ]

-- calls that do not rewrite Carry leave it
carry_kept : (acts : List Act) (x : State) → WellTyped x.machine → rewritten rewrites acts (flag_place Carry) ≡ false
    → flag_in (end does acts x).machine Carry ≡ flag_in x.machine Carry
unfolding bit_set
carry_kept acts x g h =
    ap (λ (v : ℕ). eqb v 1)
    (sym (place_flag (end does acts x).machine Carry)
    ∙ kept reads rewrites reaches_memory does store_in place_in WellTypedState owed acts x (flag_place Carry) g h
    ∙ place_flag x.machine Carry)

-- ---- lists one after the other
end_both : (some more : List Act) (x : State) → end does (some ++ more) x ≡ end does more (end does some x)
unfolding end
end_both [] more x = refl
end_both (a ∷ some) more x = end_both some more (does a x).after

seen_after : (some more : List Act) (x : State)
    → drop (length some) (trace does store_in (some ++ more) x) ≡ trace does store_in more (end does some x)
unfolding end trace
seen_after [] more x = refl
seen_after (a ∷ some) more x = seen_after some more (does a x).after

-- after an operation and the calls up to the next
abbrev next : Operation → Link → State → State
next o k x = end does k.between (does (operation o k) x).after

next_sound : (o : Operation) (k : Link) (x : State) → WellTyped x.machine → WellTyped (next o k x).machine
next_sound o k x g = ends_well_typed k.between (does (operation o k) x).after (stays_well_typed (operation o k) x g)

next_carry : (d : Chained) (o : Operation) (k : Link) (x : State) (c : Bool) → WellTyped x.machine
    → rewritten rewrites k.between (flag_place Carry) ≡ false → Takes d o x c
    → flag_in (next o k x).machine Carry ≡ (pair_worked d k c).carry
next_carry d o k x c g h t =
    carry_kept k.between (does (operation o k) x).after (stays_well_typed (operation o k) x g) h ∙ hands_on d o k x c t

-- ---- the chain
abbrev answered : List ℕ → List (Outcome Value)
answered = map (λ v. gives (word v ∷ []))

answers_are : (d : Chained) (ks : List Link) (o : Operation) (x : State) (c : Bool) → WellTyped x.machine → CarryKept ks → Takes d o x c
    → map outcome_seen (of_operations ks (trace does store_in (calls_of o (rest_of d) ks) x)) ≡ answered (values_from d c ks)
unfolding of_operations trace calls_of values_from CarryKept
answers_are d [] o x c g q t = refl
answers_are d (k ∷ ks) o x c g q t =
    let r = rest_of d in
    let y = (does (operation o k) x).after in
    ap₂ (λ (v : Outcome Value) (vs : List (Outcome Value)). v ∷ vs) (says d o k x c t)
    (ap (λ (l : List (Seen CallAnswer Store)). map outcome_seen (of_operations ks l)) (seen_after k.between (calls_of r r ks) y)
    ∙ answers_are d ks r (next o k x) (pair_worked d k c).carry (next_sound o k x g) q.1 (last (next_carry d o k x c g q.0 t)))

carry_is : (d : Chained) (ks : List Link) (x : State) (c : Bool) → WellTyped x.machine → CarryKept ks → flag_in x.machine Carry ≡ c
    → flag_in (end does (calls_of (rest_of d) (rest_of d) ks) x).machine Carry ≡ carried_out d c ks
unfolding calls_of carried_out CarryKept end
carry_is d [] x c g q e = e
carry_is d (k ∷ ks) x c g q e =
    let r = rest_of d in
    ap (λ (y : State). flag_in y.machine Carry) (end_both k.between (calls_of r r ks) (does (operation r k) x).after)
    ∙ carry_is d ks (next r k x) (pair_worked d k c).carry (next_sound r k x g) q.1 (next_carry d r k x c g q.0 (last e))

first_carry : (d : Chained) (k : Link) (ks : List Link) (x : State) → WellTyped x.machine → CarryKept (k ∷ ks)
    → flag_in (end does (calls_of (start_of d) (rest_of d) (k ∷ ks)) x).machine Carry ≡ carried_out d false (k ∷ ks)
unfolding calls_of carried_out CarryKept end
first_carry d k ks x g q =
    let o = start_of d in
    let r = rest_of d in
    ap (λ (y : State). flag_in y.machine Carry) (end_both k.between (calls_of r r ks) (does (operation o k) x).after)
    ∙ carry_is d ks (next o k x) (pair_worked d k false).carry (next_sound o k x g) q.1 (next_carry d o k x false g q.0 none)

chain : (d : Chained) (k : Link) (ks : List Link) (x : State) → WellTyped x.machine → CarryKept (k ∷ ks)
    → ChainGives (start_of d) (rest_of d) (k ∷ ks) x (joined (k ∷ ks) (values_from d false (k ∷ ks))) (carried_out d false (k ∷ ks))
chain d k ks x g q =
    record {
      values = values_from d false (k ∷ ks);
      answers = answers_are d (k ∷ ks) (start_of d) x false g q none;
      whole = refl;
      out = first_carry d k ks x g q;
    }

pub add_chain : AddChain
add_chain k ks x g q =
    let l = k ∷ ks in
    let e =
    whole_sum (2 ^ total_width l) (joined l (values_from sums false l)) (first_number l + second_number l) (carried_out sums false l)
    (joined_below l (values_from sums false l)) (whole_balanced sums l false ∙ omega arith) in
    rw (sym e.0, sym e.1) (chain sums k ks x g q)

pub subtract_chain : SubtractChain
subtract_chain k ks x g q =
    let l = k ∷ ks in
    let balance = whole_balanced differences l false in
    let e =
    whole_difference (2 ^ total_width l) (joined l (values_from differences false l)) (first_number l) (second_number l)
    (carried_out differences false l) (joined_below l (values_from differences false l)) (omega (arith, balance)) in
    rw (sym e.0, sym e.1) (chain differences k ks x g q)

pub no_words : NoWords
unfolding calls_of end
no_words o r x = refl
