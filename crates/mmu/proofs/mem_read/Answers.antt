-- `mem_read` owes what `read_outcome` and `read_out` say: one law of Answers for each of its returns.
use Rattle.mmu.proofs.Answers.{read_there, read_empty, out_left, out_done}
use Rattle.std.proofs.Common.{◌≡◌, Err, rules}
use borrow.Author.Tests.{eqb-true}
use mathlib.Core.Path.{sym, ◌∙◌}
use Rattle.mmu.proofs.mem_read.Goals as goal

-- refused
pub returns-in_err-admit : goal.returns-in_err-admit
returns-in_err-admit c =
    let e : c.from_residual.result ≡ Err c.in_err-admit.field-0.0 = search rules in
    rw e (c.in_err-admit.ensures.told, sym (out_left _ _ _ _ _ c.in_err-admit.ensures.told))

-- the bytes at the place to which the walk leads
pub returns-then-not-is_empty : goal.returns-then-not-is_empty
returns-then-not-is_empty c =
    let told = c.in_ok-admit.ensures.told in (
      told,
      read_there _ _ _ _ c.args.out.now _ c.in_ok-admit.ensures.sound.0 c.translate_virtual_to_physical_address-p.ensures
          c.mem_read_phys.ensures.1
          ∙ sym (out_done _ _ _ _ (sym told)),
    )

-- no bytes
pub returns-else-not-is_empty : goal.returns-else-not-is_empty
returns-else-not-is_empty c =
    let told = c.in_ok-admit.ensures.told in
    let none = eqb-true _ _ (sym c.is_empty.ensures ∙ c.if-not-is_empty.false) in
    (told, read_empty _ _ c.args.out.now none ∙ sym (out_done _ _ _ _ (sym told)))
