-- The promises of text read back, from the one answer that a text has (reading_operands/proofs/Answers.antt) and from what print leaves of
-- operands (Printed.antt there); the table of texts by computing the reader. Assumes nothing.
use Rattle.std.specs.Prelude.{Option, Some, None, Ok, Err}
use mathlib.Core.Bool.{false}
use mathlib.Core.List.{List, [], ◌∷◌}
use mathlib.Core.Path.{◌≡◌, refl, sym, ap, subst, ◌∙◌}
use Prim.Native.Nat.{ℕ}
use Rattle.utils.specs.Outcome.{Outcome}
use Rattle.instruction_set.specs.Operands.{some_lacks_scale}
use Rattle.instruction_set.specs.declared.ArgumentSize.TheVariants.{Bit64}
use Rattle.instruction_set.specs.declared.InstructionArgument.{InstructionArgument}
use Rattle.text_operands.specs.Operands.{list_text}
use Rattle.wire_numbers.specs.Numbers.{register_at}
use Rattle.text_names.specs.Names.{name_of}
use Rattle.reading_numbers.specs.Numerals.{digit_value, first_digit, next_digit, positive_bits, negative_bits, scale_of}
use Rattle.reading_names.specs.Nodes.{next_node, index_in, spelt, beginnings, register_of}
use Rattle.reading_operands.specs.Reads.{Lossless, OfSecond, Reading, Reads, Finding, operands_outcome}
use Rattle.reading_operands.specs.Reader.{advanced, given, read_from, reader_answer}
use Rattle.reading_operands.proofs.Answers.{answered, one_answer, outcome_one}
use Rattle.reading_operands.proofs.Running.{apart}
use Rattle.reading_operands.proofs.Printed.{same_list, shows_lossless, printed_of}
use Rattle.promises.specs.ReadBack.{PrintsAgain, OneReading, OneAnswer, OperandsReadBack, TextAcceptedExactly, OffsetGiven}
use Rattle.promises.specs.ReadBack.{Example, reading_examples, EachHolds}

-- an answer is what it says
said_so : (t : List ℕ) (r s : Reading) → Reads t r → operands_outcome r ≡ operands_outcome s → Reads t s
said_so t r s h e = subst (λ (q : Reading). Reads t q) (outcome_one r s e) h

second_printed : (y : Option InstructionArgument) → OfSecond (Lossless Bit64) y → some_lacks_scale y ≡ false
second_printed None h = refl
second_printed (Some y) h = h.printed

pub prints_again : PrintsAgain
prints_again t r x y h e size hx hy =
    let s = said_so t r (given x y) h e in
    (s.first.printed, second_printed y s.second, same_list size x y hx hy ∙ sym s.text)

operands_one : {x x' : InstructionArgument} {y y' : Option InstructionArgument} → given x y ≡ given x' y' → (x ≡ x') × (y ≡ y')
operands_one {x} {x'} {y} {y'} e =
    let Pair : Type 0 = InstructionArgument × Option InstructionArgument in
    let same : ◌≡◌ {A = Pair} (x, y) (x', y') = cc in
    (ap (λ (p : Pair). p.0) same, ap (λ (p : Pair). p.1) same)

pub one_reading : OneReading
one_reading size size' x x' y y' hx hy hx' hy' e =
    let left : Reads (list_text size x y) (given x y) = shows_lossless size x y hx hy in
    let right : Reads (list_text size x y) (given x' y') = rw e (shows_lossless size' x' y' hx' hy') in
    operands_one (one_answer (list_text size x y) (given x y) (given x' y') left right)

pub exactly_one : OneAnswer
exactly_one t = ((reader_answer t, answered t), one_answer t)

pub reads_back : OperandsReadBack
reads_back size x y hx hy r h =
    ap operands_outcome (one_answer (list_text size x y) r (given x y) h (shows_lossless size x y hx hy))

pub accepted_exactly : TextAcceptedExactly
accepted_exactly t (Ok read) h = ((λ p. refl), (λ e. printed_of t read.0 read.1 h))
accepted_exactly t (Err refusal) h = ((λ p. absurd (h.refused p)), (λ e. apart cc))

pub offset_given : OffsetGiven
offset_given t (Ok read) h none = absurd (none (printed_of t read.0 read.1 h))
offset_given t (Err refusal) h none = (refusal.offset, refl, h)

-- ---- the table
answers : (t : List ℕ) (o : Outcome Finding) → operands_outcome (reader_answer t) ≡ o → (r : Reading) → Reads t r → operands_outcome r ≡ o
answers t o e r h = ap operands_outcome (one_answer t r (reader_answer t) h (answered t)) ∙ e

EachComputes : List Example → Type 0
EachComputes [] = Unit {0}
EachComputes (e ∷ es) = (operands_outcome (reader_answer e.text) ≡ e.outcome) × EachComputes es

each_says : (es : List Example) → EachComputes es → EachHolds es
unfolding EachComputes
each_says [] h = tt
each_says (e ∷ es) h = (answers e.text e.outcome h.0, each_says es h.1)

infixr 4 ◌and◌
◌and◌ : {A B : Type 0} → A → B → A × B
◌and◌ a b = (a, b)

pub examples_hold : EachHolds reading_examples
unfolding EachComputes read_from advanced digit_value first_digit next_digit positive_bits negative_bits scale_of
    next_node index_in spelt beginnings register_of register_at name_of
examples_hold =
    each_says reading_examples
    (refl and refl and refl and refl and refl and refl and refl and refl and refl and refl and refl and refl and refl and refl and refl
    and refl and refl and refl and refl and refl and refl and refl and refl and refl and refl and refl and refl and refl and refl and refl
    and tt)
