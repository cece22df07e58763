-- `base_or_index_at` gives `base_or_index_at`: any word but 0 is the register at its number less 1. Assumes nothing.
use Rattle.std.proofs.Common.{rules, ◌≡◌, ◌-◌, ◌<◌, arith}
use Rattle.std.specs.Prelude.{Some, option_map}
use Rattle.wire_numbers.specs.Numbers.{register_at}
use Rattle.wire_records.proofs.Exact.{part_some}
use Rattle.wire_records.proofs.items.base_or_index_at.Goals as goal

pub returns : goal.returns
returns c =
    let given : 0 < c.args.n = omega (arith, c.if-n-eq0.false) in
    let found : c.map.result ≡ option_map (λ r. Some r) (register_at (c.args.n - 1)) = search rules in
    rw found (part_some c.args.n given)
