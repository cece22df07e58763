-- Kinds 16 to 18 (docs/FORMAT.md): size selection, one-argument and two-argument access of an arguments record (RULES 5.6 to 5.8).
use Rattle.std.specs.Prelude.{cond, List, [], ◌∷◌, ◌++◌, map, ◌≡◌, ℕ, Option, Some, MatchOption}
use Rattle.utils.specs.Outcome.{Outcome, refuses, accepted}
use Rattle.instruction_set.specs.Arguments.{selected_size, one_argument, two_arguments}
use Rattle.instruction_set.specs.declared.ArgumentSize.{ArgumentSize}
use Rattle.instruction_set.specs.declared.InstructionArgument.{InstructionArgument}
use Rattle.instruction_set.specs.declared.InstructionArguments.{InstructionArguments}
use Rattle.machine_state.specs.Answers.{Value, word}
use Rattle.wire_records.specs.Answers.{operand_words}
use Rattle.wire_records.specs.Decoded.{arguments_at}
use Rattle.wire_numbers.specs.Numbers.{size_number}
use Rattle.wire_records.specs.declared.Header.{Header}
use Rattle.wire_records.specs.declared.Reply.{Reply}
use Rattle.wire_records.specs.declared.kinds.AccessKind.{AccessKind}
use Rattle.wire_records.specs.declared.kinds.AccessKind.TheVariants.{SelectSize, OneArgument, TwoArguments}
use Rattle.wire_session.specs.Replies.{reply_of, NoRecord, WordsGiven}

-- "a size is its number"
abbrev pub numbered : Outcome ArgumentSize → Outcome Value
numbered o = record { number = o.number; values = map (λ (z : ArgumentSize). word (size_number z)) o.values }

-- "the five words of each operand that it gives"
abbrev pub words_of : List InstructionArgument → List ℕ
words_of [] = []
words_of (a ∷ rest) = operand_words a ++ words_of rest

abbrev pub OperandsGiven : Outcome InstructionArgument → List ℕ → Option Reply → List ℕ → Type 0
OperandsGiven o l r l' = cond (accepted o) (WordsGiven (words_of o.values) l r l') ((r ≡ Some (reply_of (refuses o.number) 0)) × (l' ≡ l))

-- what is asked of an arguments record
abbrev pub Accessed : AccessKind → InstructionArguments → List ℕ → Option Reply → List ℕ → Type 0
Accessed SelectSize a l r l' = (r ≡ Some (reply_of (numbered (selected_size a)) 0)) × (l' ≡ l)
Accessed OneArgument a l r l' = OperandsGiven (one_argument a) l r l'
Accessed TwoArguments a l r l' = OperandsGiven (two_arguments a) l r l'

-- of that of a header
unfoldable pub Accesses : AccessKind → Header → List ℕ → Option Reply → List ℕ → Type 0
Accesses k h l r l' = MatchOption (arguments_at h h.b h.c) (NoRecord l r l') (λ a. Accessed k a l r l')
