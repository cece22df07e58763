-- Arithmetic (RULES 2.12 to 2.14) and the sized flags of a result (RULES 2.11), by number, on a machine that is lent as its words, for a
-- host that is not written in Rattle (RULES 9.8).
use Rattle.std.specs.Prelude.{Bool, true, false, cond, List, ℕ, get_or, set, Option, Some, None}
use Rattle.instruction_set.specs.declared.ArgumentSize.{ArgumentSize}
use Rattle.fields.specs.FlagBits.{sized_flags}
use Rattle.arithmetic.specs.Sums.{gives_value, computed_of}
use Rattle.arithmetic.specs.declared.Operation.{Operation}
use Rattle.host.specs.declared.ArithmeticAnswer.{ArithmeticAnswer}

-- the machine's words after a call, and the call's answer
pub record LentAfter : Type 0 where
  pub words : List ℕ
  pub answer : ArithmeticAnswer

abbrev pub lent_after : List ℕ → ArithmeticAnswer → LentAfter
lent_after w r = record { words = w; answer = r }

-- where the operation's number or the size's names nothing
abbrev pub unnamed_answer : ArithmeticAnswer
unnamed_answer = record { known = 0; answers = 0; value = 0 }

abbrev pub named_answer : ℕ → ℕ → ArithmeticAnswer
named_answer n v = record { known = 1; answers = n; value = v }

-- the value, if the operation gives one
abbrev pub answer_to : Operation → ℕ → ArithmeticAnswer
answer_to o v = cond (gives_value o) (named_answer 1 v) (named_answer 0 0)

-- A machine's 25 words are the 22 registers, rflags, gdt and idt (that a host's struct lies so is tested, host/processor.c, and not
-- proved): word 22 alone changes, and only where both numbers name something
unfoldable pub operated_on : Option Operation → Option ArgumentSize → List ℕ → ℕ → ℕ → LentAfter
operated_on None s w a b = lent_after w unnamed_answer
operated_on (Some o) None w a b = lent_after w unnamed_answer
operated_on (Some o) (Some s) w a b =
    let r = computed_of (get_or w 22 0) o s a b in
    lent_after (set w 22 r.rflags) (answer_to o r.value)

-- the flags of a result: whether the size's number names one, and word 22, which alone changes, and only then
abbrev pub names_size : Option ArgumentSize → Bool
names_size None = false
names_size (Some s) = true

unfoldable pub sized_flags_on : Option ArgumentSize → List ℕ → ℕ → List ℕ
sized_flags_on None w v = w
sized_flags_on (Some s) w v = set w 22 (sized_flags (get_or w 22 0) v s)
