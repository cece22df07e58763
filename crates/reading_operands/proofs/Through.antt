-- The reader runs through everything that is printed whole: numbers digit by digit, names letter by letter, and what stands between them.
-- Assumes nothing.
use Rattle.std.specs.Prelude.{Option, Some, None}
use mathlib.Core.List.{List, [], ◌∷◌, ◌++◌}
use mathlib.Core.Path.{◌≡◌, refl, ap, ap₂, subst, ◌∙◌}
use Prim.Native.Nat.{ℕ, suc, ◌≤◌, ◌<◌}
use native.Mathlib.Omega.{arith}
use borrow.Author.Tests.{le-ltb}
use lib.IntN.{ℤ, pos, negsuc}
use mir.Syntax.{w32}
use mir.Val.{SFits, to_z}
use Rattle.std.specs.Option.{option_and_then}
use Rattle.std.proofs.lemmas.Option.{same_Some}
use Rattle.utils.proofs.Field.{cut_all}
use Rattle.instruction_set.specs.declared.ArgumentSize.TheVariants.{Bit64}
use Rattle.instruction_set.specs.declared.InstructionArgument.{InstructionArgument}
use Rattle.instruction_set.specs.declared.InstructionArgument.TheVariants as arg
use Rattle.instruction_set.specs.declared.Register.{Register}
use Rattle.text_pieces.specs.Ascii.{ascii}
use Rattle.text_names.specs.Names.{name_of}
use Rattle.text_operands.specs.Operands.{base_text, displacement_text, address_text, operand_text}
use Rattle.reading_numbers.proofs.Growth.{radix}
use Rattle.reading_numbers.proofs.Digits.{value_low, Within, first_is, next_is}
use Rattle.reading_numbers.proofs.Signs.{positive_means, negative_means, scale_means}
use Rattle.reading_numbers.proofs.Texts.{numeral_text, by_digits}
use Rattle.reading_numbers.specs.Numerals.{radix_of, digit_value, next_digit, positive_bits, negative_bits}
use Rattle.reading_numbers.specs.declared.Numeral.{Numeral}
use Rattle.reading_numbers.specs.declared.Numeral.TheVariants as numeral
use Rattle.reading_names.proofs.Spelling.{no_comma, no_close, node_of, register_at_node, walked, name_walked}
use Rattle.reading_names.specs.Nodes.{next_node, register_of}
use Rattle.reading_operands.specs.Reads.{Lossless}
use Rattle.reading_operands.specs.Reader.{finished_operand, named_register, state, step_taken, advanced}
use Rattle.reading_operands.specs.Steps.{plain_address, indexed_address, numeral_of, begun_number, grown_number}
use Rattle.reading_operands.specs.Steps.{grown_name, after_node, stepped}
use Rattle.reading_operands.specs.declared.Lead.TheVariants as lead
use Rattle.reading_operands.specs.declared.Named.{Named}
use Rattle.reading_operands.specs.declared.Named.TheVariants as named
use Rattle.reading_operands.specs.declared.Numbered.{Numbered}
use Rattle.reading_operands.specs.declared.Numbered.TheVariants as numbered
use Rattle.reading_operands.specs.declared.Phase.{Phase}
use Rattle.reading_operands.specs.declared.Phase.TheVariants as phase
use Rattle.reading_operands.proofs.Running.{apart, absent, Runs, ◌then◌, stay, by_byte}

pub by_step : {f : Option InstructionArgument} {p q : Phase} (b : ℕ) → stepped p b ≡ Some q → Runs (state f p) (b ∷ []) (state f q)
unfolding advanced
by_step {f} {p} b h = by_byte b (ap (step_taken (state f p) b) h)

-- ---- numbers
pub number_runs : (f : Option InstructionArgument) (role : Numbered) (v : ℕ) → Within (numeral_of role) v →
    Runs (state f (phase.FirstDigit role)) (numeral_text (numeral_of role) v) (state f (phase.Digits role v))
number_runs f role v w =
    by_digits (numeral_of role) (λ (t : List ℕ) (n : ℕ). Runs (state f (phase.FirstDigit role)) t (state f (phase.Digits role n)))
    (λ b n d. by_step b (ap (begun_number role) (first_is d)))
    (λ t n b m r d. r then by_step b (ap (grown_number role n b) (next_is d)))
    v w

-- ---- names
pub letters_run : (f : Option InstructionArgument) (role : Named) (t : List ℕ) (n m : ℕ) → walked t n ≡ Some m →
    Runs (state f (phase.Name role n)) t (state f (phase.Name role m))
letters_run f role [] n m e = subst (λ (k : ℕ). Runs (state f (phase.Name role n)) [] (state f (phase.Name role k))) (same_Some n m e) stay
letters_run f role (b ∷ t) n m e = go (next_node n b) refl (λ (k : ℕ). letters_run f role t k m) e
  where
    go : (x : Option ℕ) → next_node n b ≡ x →
        ((k : ℕ) → walked t k ≡ Some m → Runs (state f (phase.Name role k)) t (state f (phase.Name role m))) →
        option_and_then (walked t) x ≡ Some m → Runs (state f (phase.Name role n)) (b ∷ t) (state f (phase.Name role m))
    go None d rec g = absent g
    go (Some k) d rec g = by_step b (ap (grown_name role n b) d) then rec k g

name_runs : (f : Option InstructionArgument) (role : Named) (r : Register) →
    Runs (state f (phase.Name role 0)) (name_of r) (state f (phase.Name role (node_of r)))
name_runs f role r = letters_run f role (name_of r) 0 (node_of r) (name_walked r)

-- at a node at which a name is read to its end
module _ (f : Option InstructionArgument) (o : ℕ) (n : ℕ) (r : Register) (named_so : register_of n ≡ Some r) where
  pub base_closes : Runs (state f (phase.Name (named.Base o) n)) (41 ∷ []) (state f (phase.Closed (plain_address o (Some r))))
  base_closes = by_step 41 (rw (no_close n, named_so))

  base_goes_on : Runs (state f (phase.Name (named.Base o) n)) (44 ∷ []) (state f (phase.IndexWanted o (Some r)))
  base_goes_on = by_step 44 (rw (no_comma n, named_so))

  pub index_goes_on : (b : Option Register) → Runs (state f (phase.Name (named.Index o b) n)) (44 ∷ [])
      (state f (phase.FirstDigit (numbered.Scale o b r)))
  index_goes_on b = by_step 44 (rw (no_comma n, named_so))

-- ---- addresses
-- the text t leads from a state to one at which the operand a is read
pub record Arrives (f : Option InstructionArgument) (from : Phase) (t : List ℕ) (a : InstructionArgument) : Type 0 where
  pub end : Phase
  pub runs : Runs (state f from) t (state f end)
  pub done : finished_operand end ≡ Some a

-- neither a parenthesis nor a comma is a digit
no_digit : (n : Numeral) (v b : ℕ) → b < 48 → next_digit n v b ≡ None
unfolding next_digit
no_digit n v b h =
    let high : radix_of n ≤ digit_value b = omega (arith, value_low b h, (radix n).small) in
    rw (le-ltb (digit_value b) (radix_of n) high)

-- an operand that is read to its end does not go on with a comma
operand_stops : (n : ℕ) (found : Option Register) → after_node named.Operand found 44 ≡ None
operand_stops n None = refl
operand_stops n (Some r) = refl

pub finished_stops : {a : InstructionArgument} (p : Phase) → finished_operand p ≡ Some a → stepped p 44 ≡ None
finished_stops (phase.Lead l) e = absent e
finished_stops (phase.FirstDigit role) e = absent e
finished_stops (phase.Digits numbered.Immediate v) e = rw (no_digit numeral.Immediate v 44 (omega arith))
finished_stops (phase.Digits numbered.Above v) e = rw (no_digit numeral.Above v 44 (omega arith))
finished_stops (phase.Digits numbered.Below v) e = rw (no_digit numeral.Below v 44 (omega arith))
finished_stops (phase.Digits (numbered.Scale o b i) v) e = absent e
finished_stops (phase.Name named.Operand n) e = rw (no_comma n) (operand_stops n (register_of n))
finished_stops (phase.Name (named.Base o) n) e = absent e
finished_stops (phase.Name (named.Index o b) n) e = absent e
finished_stops (phase.Opened o) e = absent e
finished_stops (phase.IndexWanted o b) e = absent e
finished_stops (phase.Closed x) e = refl

-- a displacement leads to a phase from which an address may open, or which is one already
record Displaced (f : Option InstructionArgument) (d : ℤ) : Type 0 where
  here : Phase
  offset : ℕ
  runs : Runs (state f (phase.Lead lead.Nothing)) (displacement_text d) (state f here)
  opens : Runs (state f here) (40 ∷ []) (state f (phase.Opened offset))
  done : finished_operand here ≡ Some (plain_address offset None)
  means : to_z w32 offset ≡ d

displaced : (f : Option InstructionArgument) (d : ℤ) → SFits w32 d → Displaced f d
displaced f (pos n) h =
    let w : Within numeral.Above n = record { least = omega arith; most = omega (arith, h.sfits) } in
    record {
      here = phase.Digits numbered.Above n;
      offset = positive_bits n;
      runs = by_step 48 refl then by_step 120 refl then number_runs f numbered.Above n w;
      opens = by_step 40 (rw (no_digit numeral.Above n 40 (omega arith)));
      done = refl;
      means = positive_means n w.most;
    }
displaced f (negsuc n) h =
    let w : Within numeral.Below (suc n) = record { least = omega arith; most = omega (arith, h.sfits) } in
    record {
      here = phase.Digits numbered.Below (suc n);
      offset = negative_bits (suc n);
      runs = by_step 45 refl then by_step 48 refl then by_step 120 refl then number_runs f numbered.Below (suc n) w;
      opens = by_step 40 (rw (no_digit numeral.Below (suc n) 40 (omega arith)));
      done = refl;
      means = negative_means n w.most;
    }

module _ (f : Option InstructionArgument) where
  pub base_begins : (o : ℕ) → Runs (state f (phase.Opened o)) (37 ∷ []) (state f (phase.Name (named.Base o) 0))
  base_begins o = by_step 37 refl

  pub index_begins : (o : ℕ) (b : Option Register) → Runs (state f (phase.IndexWanted o b)) (37 ∷ [])
      (state f (phase.Name (named.Index o b) 0))
  index_begins o b = by_step 37 refl

  pub scale_closes : (o : ℕ) (b : Option Register) (i : Register) (v : ℕ) →
      Runs (state f (phase.Digits (numbered.Scale o b i) v)) (41 ∷ []) (state f (phase.Closed (indexed_address o b i v)))
  scale_closes o b i v = by_step 41 (rw (no_digit numeral.Scale v 41 (omega arith)))

module _ (f : Option InstructionArgument) {d : ℤ} (here-so : Displaced f d) where
  to_index_lem : (b : Option Register) →
      Runs (state f here-so.here) (ascii "(" ++ base_text b ++ ascii ",") (state f (phase.IndexWanted here-so.offset b))
  to_index_lem None = here-so.opens then by_step 44 refl
  to_index_lem (Some r) =
      let o = here-so.offset in
      here-so.opens then base_begins f o then name_runs f (named.Base o) r then base_goes_on f o (node_of r) r (register_at_node r)

  address_arrives : (b i : Option Register) (s : Option ℕ) → Lossless Bit64 (arg.EffectiveAddress b i s d) →
      Arrives f here-so.here (address_text b i s) (arg.EffectiveAddress b i s d)
  address_arrives None None None w =
      record {
        end = here-so.here;
        runs = stay;
        done = here-so.done ∙ ap (λ (z : ℤ). Some (arg.EffectiveAddress None None None z)) here-so.means;
      }
  address_arrives (Some b) None None w =
      let o = here-so.offset in
      record {
        end = phase.Closed (plain_address o (Some b));
        runs = here-so.opens then base_begins f o then name_runs f (named.Base o) b then base_closes f o (node_of b) b (register_at_node b);
        done = ap (λ (z : ℤ). Some (arg.EffectiveAddress (Some b) None None z)) here-so.means;
      }
  address_arrives b None (Some s) w = apart (let z = w.scaled in cc)
  address_arrives b (Some i) None w = apart (let z = w.printed in cc)
  address_arrives b (Some i) (Some s) w =
      let o = here-so.offset in
      let byte : Within numeral.Scale s = record { least = omega arith; most = omega (arith, w.held.1) } in
      let index = index_begins f o b then name_runs f (named.Index o b) i in
      let comma = index_goes_on f o (node_of i) i (register_at_node i) b in
      record {
        end = phase.Closed (indexed_address o b i s);
        runs = to_index_lem b then index then comma then number_runs f (numbered.Scale o b i) s byte then scale_closes f o b i s;
        done =
            ap₂ (λ (n : ℕ) (z : ℤ). Some (arg.EffectiveAddress b (Some i) (Some n) z))
            (scale_means s byte.most) here-so.means;
      }

-- every operand of which print loses nothing is run through
pub operand_arrives : (f : Option InstructionArgument) (x : InstructionArgument) → Lossless Bit64 x →
    Arrives f (phase.Lead lead.Nothing) (operand_text Bit64 x) x
operand_arrives f (arg.Immediate v) w =
    let bound : Within numeral.Immediate v = record { least = omega arith; most = omega (arith, w.held) } in
    let digits = number_runs f numbered.Immediate v bound in
    record {
      end = phase.Digits numbered.Immediate v;
      runs = by_step 36 refl then by_step 48 refl then by_step 120 refl then rw (cut_all v 64 w.held) digits;
      done = refl;
    }
operand_arrives f (arg.Register r) w =
    record {
      end = phase.Name named.Operand (node_of r);
      runs = by_step 37 refl then name_runs f named.Operand r;
      done = ap named_register (register_at_node r);
    }
operand_arrives f (arg.EffectiveAddress b i s d) w =
    let here-so = displaced f d w.held.0 in
    let read = address_arrives f here-so b i s w in
    record { end = read.end; runs = here-so.runs then read.runs; done = read.done }
