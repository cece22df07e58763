-- Every state that is reached can be completed to operand text: by `)`, by the digit 1, by the letters that complete a name.
-- Assumes nothing.
use Rattle.std.specs.Prelude.{Option, Some}
use mathlib.Core.List.{List, [], ◌++◌}
use mathlib.Core.Path.{◌≡◌, refl, ap}
use Prim.Native.Nat.{ℕ, ◌<◌}
use native.Mathlib.Omega.{arith}
use Rattle.instruction_set.specs.declared.InstructionArgument.{InstructionArgument}
use Rattle.instruction_set.specs.declared.InstructionArgument.TheVariants as arg
use Rattle.instruction_set.specs.declared.Register.{Register}
use Rattle.reading_numbers.proofs.Digits.{Within}
use Rattle.reading_names.proofs.Spelling.{rest_of, rest_named}
use Rattle.reading_names.specs.Nodes.{register_of}
use Rattle.reading_operands.specs.Reader.{finished_operand, state, named_register}
use Rattle.reading_operands.specs.Steps.{numeral_of, plain_address, indexed_address}
use Rattle.reading_operands.specs.declared.Lead.{Lead}
use Rattle.reading_operands.specs.declared.Lead.TheVariants as lead
use Rattle.reading_operands.specs.declared.Named.{Named}
use Rattle.reading_operands.specs.declared.Named.TheVariants as named
use Rattle.reading_operands.specs.declared.Numbered.{Numbered}
use Rattle.reading_operands.specs.declared.Numbered.TheVariants as numbered
use Rattle.reading_operands.specs.declared.Phase.{Phase}
use Rattle.reading_operands.specs.declared.Phase.TheVariants as phase
use Rattle.reading_operands.proofs.Running.{Runs, ◌then◌, stay}
use Rattle.reading_operands.proofs.Texts.{PhaseSound}
use Rattle.reading_operands.proofs.Through.{by_step, number_runs, letters_run, base_closes, index_goes_on, scale_closes, base_begins}
use Rattle.reading_operands.proofs.Through.{index_begins}

-- some text leads on to a whole operand
pub record Completes (f : Option InstructionArgument) (p : Phase) : Type 0 where
  pub rest : List ℕ
  pub end : Phase
  pub operand : InstructionArgument
  pub runs : Runs (state f p) rest (state f end)
  pub done : finished_operand end ≡ Some operand

-- after more text
after : {f : Option InstructionArgument} {p q : Phase} {t : List ℕ} → Runs (state f p) t (state f q) → Completes f q → Completes f p
after {t = t} r c = record { rest = t ++ c.rest; end = c.end; operand = c.operand; runs = r then c.runs; done = c.done }

already : {f : Option InstructionArgument} (p : Phase) (a : InstructionArgument) → finished_operand p ≡ Some a → Completes f p
already p a e = record { rest = []; end = p; operand = a; runs = stay; done = e }

module _ (f : Option InstructionArgument) where
  number_completes : (role : Numbered) (v : ℕ) → Completes f (phase.Digits role v)
  number_completes numbered.Immediate v = already (phase.Digits numbered.Immediate v) _ refl
  number_completes numbered.Above v = already (phase.Digits numbered.Above v) _ refl
  number_completes numbered.Below v = already (phase.Digits numbered.Below v) _ refl
  number_completes (numbered.Scale o b i) v = after (scale_closes f o b i v) (already (phase.Closed (indexed_address o b i v)) _ refl)

  -- 1 lies within every number's bounds
  one : (role : Numbered) → Within (numeral_of role) 1
  one numbered.Immediate = record { least = omega arith; most = omega arith }
  one numbered.Above = record { least = omega arith; most = omega arith }
  one numbered.Below = record { least = omega arith; most = omega arith }
  one (numbered.Scale o b i) = record { least = omega arith; most = omega arith }

  begun_completes : (role : Numbered) → Completes f (phase.FirstDigit role)
  begun_completes role = after (number_runs f role 1 (one role)) (number_completes role 1)

  -- a name, once it is whole
  whole_completes : (role : Named) (n : ℕ) (r : Register) → register_of n ≡ Some r → Completes f (phase.Name role n)
  whole_completes named.Operand n r w = already (phase.Name named.Operand n) (arg.Register r) (ap named_register w)
  whole_completes (named.Base o) n r w = after (base_closes f o n r w) (already (phase.Closed (plain_address o (Some r))) _ refl)
  whole_completes (named.Index o b) n r w = after (index_goes_on f o n r w b) (begun_completes (numbered.Scale o b r))

  name_completes : (role : Named) (n : ℕ) → n < 102 → Completes f (phase.Name role n)
  name_completes role n h =
      let whole = rest_named n h in
      after (letters_run f role (rest_of n) n whole.node whole.reached) (whole_completes role whole.node whole.register whole.named)

  lead_completes : (l : Lead) → Completes f (phase.Lead l)
  lead_completes lead.Nothing = after (by_step 37 refl) (name_completes named.Operand 0 (omega arith))
  lead_completes lead.Zero = after (by_step 120 refl) (begun_completes numbered.Above)
  lead_completes lead.Minus = after (by_step 48 refl then by_step 120 refl) (begun_completes numbered.Below)
  lead_completes lead.MinusZero = after (by_step 120 refl) (begun_completes numbered.Below)
  lead_completes lead.Dollar = after (by_step 48 refl then by_step 120 refl) (begun_completes numbered.Immediate)
  lead_completes lead.DollarZero = after (by_step 120 refl) (begun_completes numbered.Immediate)

  pub completes : (p : Phase) → PhaseSound p → Completes f p
  completes (phase.Lead l) s = lead_completes l
  completes (phase.FirstDigit role) s = begun_completes role
  completes (phase.Digits role v) s = number_completes role v
  completes (phase.Name role n) s = name_completes role n s.1
  completes (phase.Opened o) s = after (base_begins f o) (name_completes (named.Base o) 0 (omega arith))
  completes (phase.IndexWanted o b) s = after (index_begins f o b) (name_completes (named.Index o b) 0 (omega arith))
  completes (phase.Closed x) s = already (phase.Closed x) x refl
