-- `put_name` meets its contract: that each cell without its spaces is its register's name is one test that the checker computes at all 80.
-- Assumes nothing.
use denote.Enum.Declared.{tag_of}
use lib.Dec.{T}
use lib.ListN.{length, get_or, take}
use mathlib.Core.Bool.{Bool, true, false}
use mathlib.Core.List.{List, []}
use mathlib.Core.Path.{◌≡◌, refl, ◌∙◌}
use Prim.Native.Nat.{ℕ, ◌-◌}
use Rattle.std.proofs.lemmas.Slice.Eq.{bytes_eq-Decides}
use Rattle.std.proofs.lemmas.Str.Ascii.{trim_ascii_end_is}
use Rattle.std.specs.Char.{is_ascii_whitespace}
use Rattle.std.specs.List.{suffix_len}
use Rattle.std.specs.Str.{bytes_eq}
use Rattle.instruction_set.proofs.Arms.{all}
use Rattle.instruction_set.specs.contracts.Register.{enum as registers, the_type}
use Rattle.instruction_set.specs.declared.Register.{Register}
use Rattle.text_pieces.proofs.Writing.{tight}
use Rattle.text_names.specs.declared.TheConstants.{NAMES}
use Rattle.text_names.specs.Names.{name_of}
use Rattle.text_names.proofs.Longest.{name_most}
use Rattle.text_names.proofs.put_name.Goals as goal

abbrev cell : Register → List ℕ
cell r = get_or NAMES (tag_of the_type r) []

abbrev trimmed : List ℕ → List ℕ
trimmed s = take (length s - suffix_len is_ascii_whitespace s) s

passed : (b : Bool) → T b → b ≡ true
passed true h = refl
passed false h = absurd h

spells : (r : Register) → trimmed (cell r) ≡ name_of r
unfolding name_of
spells r =
    let t = all registers (λ e. bytes_eq (trimmed (cell e)) (name_of e)) tt r in
    (bytes_eq-Decides (trimmed (cell r)) (name_of r)).0 (passed _ t)

pub returns : goal.returns
returns c =
    let r = c.args.register in
    let e : c.trim_ascii_end.result.now ≡ name_of r = trim_ascii_end_is (cell r) _ c.trim_ascii_end.ensures.value ∙ spells r in
    tight (rw e at c.put_bytes.ensures) (name_most r)
