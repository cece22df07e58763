-- Sizes and print: at a size that is wide enough an operand has the text that it has at Bit64, and whatever is printed is the text of what
-- print leaves of it (`plain`), of which nothing is lost at Bit64. So operand text is the text of whole operands. Assumes nothing.
use Rattle.std.specs.Prelude.{Option, Some, None}
use mathlib.Core.Bool.{false}
use mathlib.Core.List.{List, ◌++◌}
use mathlib.Core.Path.{◌≡◌, refl, sym, ap, ap₂, ◌∙◌}
use Prim.Native.Nat.{ℕ, ◌*◌, ◌^◌, ◌≤◌}
use native.Mathlib.Nat.{lt_of_lt_of_le}
use native.Mathlib.Omega.{arith}
use Rattle.utils.proofs.Field.{cut_all, cut_lt}
use Rattle.utils.specs.Word.{cut}
use Rattle.instruction_set.specs.Operands.{lacks_scale, some_lacks_scale}
use Rattle.instruction_set.specs.Sizes.{bytes_of}
use Rattle.instruction_set.specs.declared.ArgumentSize.{ArgumentSize}
use Rattle.instruction_set.specs.declared.ArgumentSize.TheVariants.{Bit64, Bit32, Bit16, Bit8}
use Rattle.instruction_set.specs.declared.InstructionArgument.{InstructionArgument}
use Rattle.instruction_set.specs.declared.InstructionArgument.TheVariants as arg
use Rattle.text_pieces.specs.Ascii.{ascii}
use Rattle.text_pieces.specs.Hex.{hex_text}
use Rattle.text_operands.specs.Operands.{operand_text, list_text}
use Rattle.reading_operands.specs.Reads.{Held, WithinSize, Lossless, OfSecond, OperandText, Shows}
use Rattle.reading_operands.proofs.Running.{apart}
use Rattle.reading_operands.proofs.Shapes.{lossless_immediate, lossless_register}

-- ---- a size that is wide enough
narrower : (size : ArgumentSize) → 2 ^ (8 * bytes_of size) ≤ 2 ^ 64
narrower Bit64 = omega arith
narrower Bit32 = omega arith
narrower Bit16 = omega arith
narrower Bit8 = omega arith

same_text : (size : ArgumentSize) (x : InstructionArgument) → WithinSize size x → operand_text size x ≡ operand_text Bit64 x
same_text size (arg.Immediate v) h =
    let narrow = cut_all v (8 * bytes_of size) h in
    let wide = cut_all v 64 (lt_of_lt_of_le h (narrower size)) in
    ap (λ (n : ℕ). ascii "$0x" ++ hex_text n) (narrow ∙ sym wide)
same_text size (arg.Register r) h = refl
same_text size (arg.EffectiveAddress b i s d) h = refl

pub same_list : (size : ArgumentSize) (x : InstructionArgument) (y : Option InstructionArgument) →
    WithinSize size x → OfSecond (WithinSize size) y → list_text size x y ≡ list_text Bit64 x y
same_list size x None hx hy = same_text size x hx
same_list size x (Some y) hx hy = ap₂ (λ (s t : List ℕ). s ++ ascii "," ++ t) (same_text size x hx) (same_text size y hy)

within_wide : (size : ArgumentSize) (x : InstructionArgument) → WithinSize size x → WithinSize Bit64 x
within_wide size (arg.Immediate v) h = lt_of_lt_of_le h (narrower size)
within_wide size (arg.Register r) h = tt
within_wide size (arg.EffectiveAddress b i s d) h = tt

whole_wide : (size : ArgumentSize) (x : InstructionArgument) → Lossless size x → Lossless Bit64 x
whole_wide size x w =
    record { held = w.held; printed = w.printed; within = within_wide size x w.within; scaled = w.scaled }

-- operands of which print loses nothing at some size are shown by their text
pub shows_lossless : (size : ArgumentSize) (x : InstructionArgument) (y : Option InstructionArgument) →
    Lossless size x → OfSecond (Lossless size) y → Shows (list_text size x y) x y
shows_lossless size x None hx hy =
    record { first = whole_wide size x hx; second = tt; text = same_list size x None hx.within tt }
shows_lossless size x (Some y) hx hy =
    record {
      first = whole_wide size x hx;
      second = whole_wide size y hy;
      text = same_list size x (Some y) hx.within hy.within;
    }

-- ---- what print leaves of an operand
plain : ArgumentSize → InstructionArgument → InstructionArgument
plain size (arg.Immediate v) = arg.Immediate (cut v 0 (8 * bytes_of size))
plain size (arg.Register r) = arg.Register r
plain size (arg.EffectiveAddress b None s d) = arg.EffectiveAddress b None None d
plain size (arg.EffectiveAddress b (Some i) s d) = arg.EffectiveAddress b (Some i) s d

record Plain (size : ArgumentSize) (x : InstructionArgument) : Type 0 where
  whole : Lossless Bit64 (plain size x)
  text : operand_text size x ≡ operand_text Bit64 (plain size x)

plain_is : (size : ArgumentSize) (x : InstructionArgument) → Held x → lacks_scale x ≡ false → Plain size x
unfolding plain
plain_is size (arg.Immediate v) h l =
    let small = lt_of_lt_of_le (cut_lt v 0 (8 * bytes_of size)) (narrower size) in
    record {
      whole = lossless_immediate (cut v 0 (8 * bytes_of size)) small;
      text = ap (λ (n : ℕ). ascii "$0x" ++ hex_text n) (sym (cut_all (cut v 0 (8 * bytes_of size)) 64 small));
    }
plain_is size (arg.Register r) h l = record { whole = lossless_register r; text = refl }
plain_is size (arg.EffectiveAddress None None s d) h l =
    record { whole = record { held = (h.0, tt); printed = refl; within = tt; scaled = refl }; text = refl }
plain_is size (arg.EffectiveAddress (Some b) None s d) h l =
    record { whole = record { held = (h.0, tt); printed = refl; within = tt; scaled = refl }; text = refl }
plain_is size (arg.EffectiveAddress b (Some i) None d) h l = apart cc
plain_is size (arg.EffectiveAddress b (Some i) (Some s) d) h l =
    record { whole = record { held = h; printed = refl; within = tt; scaled = refl }; text = refl }

-- operand text shows whole operands, and whole operands show operand text
pub record ShownBy (t : List ℕ) : Type 0 where
  pub first : InstructionArgument
  pub second : Option InstructionArgument
  pub shows : Shows t first second

pub shown_of : (t : List ℕ) → OperandText t → ShownBy t
shown_of t p = go p.second p.second_held p.second_printed p.text
  where
    x : Plain p.size p.first
    x = plain_is p.size p.first p.first_held p.first_printed

    go : (y : Option InstructionArgument) → OfSecond Held y → some_lacks_scale y ≡ false → t ≡ list_text p.size p.first y → ShownBy t
    go None h l e =
        record {
          first = plain p.size p.first;
          second = None;
          shows = record { first = x.whole; second = tt; text = e ∙ x.text };
        }
    go (Some y) h l e =
        let z = plain_is p.size y h l in
        record {
          first = plain p.size p.first;
          second = Some (plain p.size y);
          shows =
              record {
                first = x.whole;
                second = z.whole;
                text = e ∙ ap₂ (λ (s u : List ℕ). s ++ ascii "," ++ u) x.text z.text;
              };
        }

pub printed_of : (t : List ℕ) (x : InstructionArgument) (y : Option InstructionArgument) → Shows t x y → OperandText t
printed_of t x None s =
    record {
      size = Bit64;
      first = x;
      second = None;
      first_held = s.first.held;
      second_held = tt;
      first_printed = s.first.printed;
      second_printed = refl;
      text = s.text;
    }
printed_of t x (Some y) s =
    record {
      size = Bit64;
      first = x;
      second = Some y;
      first_held = s.first.held;
      second_held = s.second.held;
      first_printed = s.first.printed;
      second_printed = s.second.printed;
      text = s.text;
    }
