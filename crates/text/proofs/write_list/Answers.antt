-- `write_list` meets its contract: a lacking scale is refused first, and else the writer puts the list. Assumes nothing.
use borrow.Author.Rules.{rules}
use mathlib.Core.Path.{sym, ◌∙◌}
use native.Mathlib.Omega.{arith}
use Rattle.text_operands.specs.Operands.{list_text}
use Rattle.text_pieces.proofs.Writing.{from_zero}
use Rattle.text.proofs.write_list.Goals as goal

pub returns : goal.returns
returns c =
    let a = c.args in
    rw (sym c.lacks_scale.ensures ∙ c.if-lacks_scale.false, sym c.some_lacks_scale.ensures ∙ c.if-some_lacks_scale.false)
    (c.measured.ensures (list_text a.size a.first a.second)
    (from_zero (omega arith) c.put_list-length.ensures, λ d d' r k. (57, search rules)))
