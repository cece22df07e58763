-- The state determines the text: one byte more in the state is one byte more in its text. Assumes nothing.
use Rattle.std.specs.Prelude.{Option, Some, None}
use mathlib.Core.Bool.{Bool, true, false, cond}
use mathlib.Core.List.{List, [], ◌∷◌, ◌++◌, append_assoc, append-nil}
use mathlib.Core.Path.{◌≡◌, refl, sym, ap, subst, ◌∙◌}
use Prim.Native.Nat.{ℕ}
use native.Mathlib.Omega.{arith}
use borrow.Author.Tests.{eqb-true}
use lib.Dec.{eqb}
use Rattle.std.proofs.lemmas.Option.{none-some, same_Some}
use Rattle.instruction_set.specs.declared.ArgumentSize.TheVariants.{Bit64}
use Rattle.instruction_set.specs.declared.Register.{Register}
use Rattle.text_pieces.specs.Ascii.{ascii, decimal_text}
use Rattle.text_names.specs.Names.{name_of, register_text}
use Rattle.text_operands.specs.Operands.{operand_text}
use Rattle.reading_numbers.proofs.Digits.{Within, first_said, next_said, first_within, next_within}
use Rattle.reading_numbers.proofs.Signs.{positive_fits, negative_fits, scale_means}
use Rattle.reading_numbers.proofs.Texts.{numeral_text, first_text_lem, next_text}
use Rattle.reading_numbers.specs.Numerals.{first_digit, next_digit, positive_bits, negative_bits}
use Rattle.reading_names.proofs.Spelling.{next_below, one_letter_more, nothing_spelt, spells_name}
use Rattle.reading_names.specs.Nodes.{spelt, next_node, register_of}
use Rattle.reading_operands.specs.Steps.{wanted, begun, step_lead, numeral_of, indexed_address, plain_address, after_number, begun_number}
use Rattle.reading_operands.specs.Steps.{grown_number, grown_name, after_name, after_node, step_opened, stepped}
use Rattle.reading_operands.specs.declared.Lead.{Lead}
use Rattle.reading_operands.specs.declared.Lead.TheVariants as lead
use Rattle.reading_operands.specs.declared.Named.{Named}
use Rattle.reading_operands.specs.declared.Named.TheVariants as named
use Rattle.reading_operands.specs.declared.Numbered.{Numbered}
use Rattle.reading_operands.specs.declared.Numbered.TheVariants as numbered
use Rattle.reading_operands.specs.declared.Phase.{Phase}
use Rattle.reading_operands.specs.declared.Phase.TheVariants as phase
use Rattle.reading_operands.proofs.Shapes.{positive_text, negative_text, lossless_plain, lossless_indexed}
use Rattle.reading_operands.proofs.Texts.{lead_text, offset_text, to_index, before_number, before_name, phase_text}
use Rattle.reading_operands.proofs.Texts.{OffsetSound, NumberedSound, NamedSound, PhaseSound}

-- after the text t and the byte b the phase q is reached, and its text is both
pub record Stands (t : List ℕ) (b : ℕ) (q : Phase) : Type 0 where
  pub sound : PhaseSound q
  pub text : phase_text q ≡ t ++ (b ∷ [])

-- ---- steps taken apart
landed : {t : List ℕ} {b : ℕ} {p q : Phase} → Some p ≡ Some q → Stands t b p → Stands t b q
landed {t} {b} {p} {q} e s = subst (λ (x : Phase). Stands t b x) (same_Some p q e) s

dead : {A : Type 0} {q : Phase} → None ≡ Some q → A
dead {q = q} e = absurd (none-some q e)

split : {A : Type 0} (t : Bool) (x y : Option Phase) (q : Phase) → cond t x y ≡ Some q
    → (t ≡ true → x ≡ Some q → A) → (t ≡ false → y ≡ Some q → A) → A
split true x y q e f g = f refl e
split false x y q e f g = g refl e

module _ {t : List ℕ} (b : ℕ) {q : Phase} where
  -- a byte that leads to p, and otherwise another step
  on_byte : (want : ℕ) (p : Phase) (other : Option Phase) → PhaseSound p → phase_text p ≡ t ++ (want ∷ []) →
      cond (eqb b want) (Some p) other ≡ Some q → (other ≡ Some q → Stands t b q) → Stands t b q
  on_byte want p other s e h rest =
      split (eqb b want) (Some p) other q h
      (λ is g. landed g (record { sound = s; text = e ∙ ap (λ (c : ℕ). t ++ (c ∷ [])) (sym (eqb-true b want is)) }))
      (λ is g. rest g)

  on_wanted : (want : ℕ) (p : Phase) → PhaseSound p → phase_text p ≡ t ++ (want ∷ []) → wanted b want p ≡ Some q → Stands t b q
  on_wanted want p s e h = on_byte want p None s e h (λ g. dead g)

-- ---- up to the first digit or letter
begun_stands : {q : Phase} (b : ℕ) → begun b ≡ Some q → Stands [] b q
begun_stands b h =
    let zero_or = wanted b 48 (phase.Lead lead.Zero) in
    let minus-or = cond (eqb b 45) (Some (phase.Lead lead.Minus)) zero_or in
    let dollar-or = cond (eqb b 36) (Some (phase.Lead lead.Dollar)) minus-or in
    on_byte b 37 (phase.Name named.Operand 0) dollar-or (tt, omega arith) (rw nothing_spelt) h
    (λ g. on_byte b 36 (phase.Lead lead.Dollar) minus-or tt refl g
    (λ g. on_byte b 45 (phase.Lead lead.Minus) zero_or tt refl g
    (λ g. on_wanted b 48 (phase.Lead lead.Zero) tt refl g)))

lead_stands : {q : Phase} (l : Lead) (b : ℕ) → step_lead l b ≡ Some q → Stands (lead_text l) b q
lead_stands lead.Nothing b h = begun_stands b h
lead_stands lead.Zero b h = on_wanted b 120 (phase.FirstDigit numbered.Above) tt refl h
lead_stands lead.Minus b h = on_wanted b 48 (phase.Lead lead.MinusZero) tt refl h
lead_stands lead.MinusZero b h = on_wanted b 120 (phase.FirstDigit numbered.Below) tt refl h
lead_stands lead.Dollar b h = on_wanted b 48 (phase.Lead lead.DollarZero) tt refl h
lead_stands lead.DollarZero b h = on_wanted b 120 (phase.FirstDigit numbered.Immediate) tt refl h

-- ---- numbers
first_stands : {q : Phase} (role : Numbered) (b : ℕ) (d : Option ℕ) → first_digit (numeral_of role) b ≡ d → NumberedSound role →
    begun_number role d ≡ Some q → Stands (before_number role) b q
first_stands role b None e s h = dead h
first_stands role b (Some v) e s h =
    let f = first_said (numeral_of role) b v e in
    landed h (record { sound = (s, first_within f); text = ap (λ (t : List ℕ). before_number role ++ t) (first_text_lem f) })

-- pieces of a text, grouped anew
at_end : (o piece digits : List ℕ) (c : ℕ) → o ++ (piece ++ digits ++ (c ∷ [])) ≡ o ++ piece ++ digits ++ (c ∷ [])
at_end o piece digits c = simp append_assoc

after_number_lem : {q : Phase} (role : Numbered) (v b : ℕ) → NumberedSound role → Within (numeral_of role) v →
    after_number role v b ≡ Some q → Stands (phase_text (phase.Digits role v)) b q
after_number_lem numbered.Immediate v b s w h = dead h
after_number_lem numbered.Above v b s w h =
    on_wanted b 40 (phase.Opened (positive_bits v)) (positive_fits v) (ap (λ (t : List ℕ). t ++ (40 ∷ [])) (positive_text v w)) h
after_number_lem numbered.Below v b s w h =
    on_wanted b 40 (phase.Opened (negative_bits v)) (negative_fits v) (ap (λ (t : List ℕ). t ++ (40 ∷ [])) (negative_text v w)) h
after_number_lem (numbered.Scale o base i) v b s w h =
    let piece = to_index base ++ register_text i ++ ascii "," in
    let text : operand_text Bit64 (indexed_address o base i v) ≡ offset_text o ++ (piece ++ decimal_text v ++ (41 ∷ [])) =
    ap (λ (n : ℕ). offset_text o ++ (piece ++ decimal_text n ++ (41 ∷ []))) (scale_means v w.most) in
    on_wanted b 41 (phase.Closed (indexed_address o base i v)) (lossless_indexed o s base i v w.most)
    (text ∙ at_end (offset_text o) piece (decimal_text v) 41) h

grown_stands : {q : Phase} (role : Numbered) (v b : ℕ) (d : Option ℕ) → next_digit (numeral_of role) v b ≡ d → NumberedSound role →
    Within (numeral_of role) v → grown_number role v b d ≡ Some q → Stands (phase_text (phase.Digits role v)) b q
grown_stands role v b None e s w h = after_number_lem role v b s w h
grown_stands role v b (Some u) e s w h =
    let n = numeral_of role in
    let g = next_said n v b u e in
    landed h (record {
      sound = (s, next_within g w.least);
      text =
          ap (λ (t : List ℕ). before_number role ++ t) (next_text g)
          ∙ sym (append_assoc (before_number role) (numeral_text n v) (b ∷ []));
    })

-- ---- names
at_name : (o i name : List ℕ) (c : ℕ) → o ++ (i ++ (37 ∷ name) ++ (c ∷ [])) ≡ o ++ (i ++ (37 ∷ [])) ++ name ++ (c ∷ [])
at_name o i name c = simp append_assoc

after_stands : {q : Phase} (role : Named) (n b : ℕ) (r : Register) → NamedSound role → spelt n ≡ name_of r →
    after_name role r b ≡ Some q → Stands (before_name role ++ spelt n) b q
after_stands named.Operand n b r s e h = dead h
after_stands (named.Base o) n b r s e h =
    on_byte b 41 (phase.Closed (plain_address o (Some r))) (wanted b 44 (phase.IndexWanted o (Some r)))
    (lossless_plain o s (Some r)) (rw e (simp append_assoc)) h
    (λ g. on_wanted b 44 (phase.IndexWanted o (Some r)) s (rw e (simp append_assoc)) g)
after_stands (named.Index o base) n b r s e h =
    on_wanted b 44 (phase.FirstDigit (numbered.Scale o base r)) s (rw e (at_name (offset_text o) (to_index base) (name_of r) 44)) h

node_stands : {q : Phase} (role : Named) (n b : ℕ) (found : Option Register) → register_of n ≡ found → NamedSound role →
    after_node role found b ≡ Some q → Stands (before_name role ++ spelt n) b q
node_stands role n b None e s h = dead h
node_stands role n b (Some r) e s h = after_stands role n b r s (spells_name n r e) h

name_stands : {q : Phase} (role : Named) (n b : ℕ) (d : Option ℕ) → next_node n b ≡ d → NamedSound role →
    grown_name role n b d ≡ Some q → Stands (before_name role ++ spelt n) b q
name_stands role n b None e s h = node_stands role n b (register_of n) refl s h
name_stands role n b (Some m) e s h =
    landed h (record {
      sound = (s, next_below n b m e);
      text =
          ap (λ (t : List ℕ). before_name role ++ t) (one_letter_more n b m e)
          ∙ sym (append_assoc (before_name role) (spelt n) (b ∷ []));
    })

-- ---- an address
opened_stands : {q : Phase} (o : ℕ) (b : ℕ) → OffsetSound o → step_opened o b ≡ Some q → Stands (offset_text o ++ ascii "(") b q
opened_stands o b s h =
    on_byte b 37 (phase.Name (named.Base o) 0) (wanted b 44 (phase.IndexWanted o None)) (s, omega arith)
    (rw nothing_spelt (simp (append_assoc, append-nil))) h
    (λ g. on_wanted b 44 (phase.IndexWanted o None) s (simp append_assoc) g)

pub stands : {q : Phase} (p : Phase) (b : ℕ) → PhaseSound p → stepped p b ≡ Some q → Stands (phase_text p) b q
stands (phase.Lead l) b s h = lead_stands l b h
stands (phase.FirstDigit role) b s h = first_stands role b (first_digit (numeral_of role) b) refl s h
stands (phase.Digits role v) b s h = grown_stands role v b (next_digit (numeral_of role) v b) refl s.0 s.1 h
stands (phase.Name role n) b s h = name_stands role n b (next_node n b) refl s.0 h
stands (phase.Opened o) b s h = opened_stands o b s h
stands (phase.IndexWanted o base) b s h =
    on_wanted b 37 (phase.Name (named.Index o base) 0) (s, omega arith) (rw nothing_spelt (simp (append_assoc, append-nil))) h
stands (phase.Closed x) b s h = dead h
