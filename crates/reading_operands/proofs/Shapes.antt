-- The operands that the reader makes: print loses nothing of them, and a displacement's text is that of the digits read. Assumes nothing.
use Rattle.std.specs.Prelude.{Option}
use mathlib.Core.List.{◌++◌}
use mathlib.Core.Path.{◌≡◌, refl}
use Prim.Native.Nat.{ℕ, zero, suc, ◌^◌, ◌≤◌, ◌<◌}
use native.Mathlib.Omega.{arith}
use mir.Facts.{sfits_to_z}
use mir.Syntax.{w32}
use mir.Val.{SFits, to_z}
use Rattle.instruction_set.specs.declared.ArgumentSize.TheVariants.{Bit64}
use Rattle.instruction_set.specs.declared.InstructionArgument.TheVariants as arg
use Rattle.instruction_set.specs.declared.Register.{Register}
use Rattle.text_pieces.specs.Ascii.{ascii}
use Rattle.text_pieces.specs.Hex.{hex_text}
use Rattle.reading_numbers.proofs.Digits.{Within}
use Rattle.reading_numbers.proofs.Signs.{positive_means, negative_means, scale_means}
use Rattle.reading_numbers.specs.Numerals.{most_of, positive_bits, negative_bits, scale_of}
use Rattle.reading_numbers.specs.declared.Numeral.TheVariants as numeral
use Rattle.reading_operands.specs.Reads.{Lossless}
use Rattle.reading_operands.specs.Steps.{plain_address, indexed_address}
use Rattle.reading_operands.proofs.Texts.{offset_text, OffsetSound}

-- ---- displacements
offset_fits : (o : ℕ) → OffsetSound o → SFits w32 (to_z w32 o)
offset_fits o s = sfits_to_z {n = o} (record { fits = s })

pub positive_text : (v : ℕ) → Within numeral.Above v → offset_text (positive_bits v) ≡ ascii "0x" ++ hex_text v
positive_text v w = rw (positive_means v w.most)

pub negative_text : (v : ℕ) → Within numeral.Below v → offset_text (negative_bits v) ≡ ascii "-0x" ++ hex_text v
negative_text zero w = absurd (omega (arith, w.least))
negative_text (suc v) w = rw (negative_means v w.most)

-- ---- operands of which nothing is lost
pub lossless_immediate : (v : ℕ) → v < 2 ^ 64 → Lossless Bit64 (arg.Immediate v)
lossless_immediate v h = record { held = h; printed = refl; within = h; scaled = refl }

pub lossless_register : (r : Register) → Lossless Bit64 (arg.Register r)
lossless_register r = record { held = tt; printed = refl; within = tt; scaled = refl }

pub lossless_plain : (o : ℕ) → OffsetSound o → (b : Option Register) → Lossless Bit64 (plain_address o b)
lossless_plain o s b = record { held = (offset_fits o s, tt); printed = refl; within = tt; scaled = refl }

pub lossless_indexed : (o : ℕ) → OffsetSound o → (b : Option Register) (i : Register) (v : ℕ) → v ≤ most_of numeral.Scale →
    Lossless Bit64 (indexed_address o b i v)
lossless_indexed o s b i v h =
    let byte : scale_of v < 256 = rw (scale_means v h) (omega arith) in
    record { held = (offset_fits o s, byte); printed = refl; within = tt; scaled = refl }
