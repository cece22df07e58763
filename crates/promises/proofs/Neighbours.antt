-- RULES 8.6, from the crate neighbours; the pairs by computing. Assumes nothing.
use mathlib.Core.Bool.{Bool}
use mathlib.Core.Path.{refl}
use Prim.Native.Nat.{ℕ}
use Rattle.instruction_set.specs.Registers.{row}
use Rattle.instruction_set.specs.declared.ArgumentSize.{ArgumentSize}
use Rattle.calls.specs.declared.Call.{Call}
use Rattle.effects.specs.Rows.{reads_of, rewrites_of, reaches, in_span, in_spans}
use Rattle.neighbours.specs.Dependent.{some, common, meets, dependent}
use Rattle.neighbours.proofs.Tabled as tabled
use Rattle.promises.specs.Neighbours.{DependentMeans, NeighboursSwap, NeighboursExchange, Pairs}

pub dependent_means : (c d : Call) → DependentMeans c d
dependent_means c d =
    record { only = tabled.dependent_says c d; where_so = tabled.dependent_where c d; either_way = tabled.dependent_either_way c d }

pub neighbours_swap : NeighboursSwap
neighbours_swap = tabled.neighbours_swap

pub neighbours_exchange : NeighboursExchange
neighbours_exchange = tabled.neighbours_exchange

pub pairs : (z y : ArgumentSize) (v w : ℕ) (t : Bool) → Pairs z y v w t
unfolding dependent meets common some reads_of rewrites_of reaches in_spans in_span row
pairs z y v w t =
    record {
      al_ah = refl;
      ax_ah = refl;
      carry_zero = refl;
      rsp_push = refl;
      cr0_memory = refl;
      cr3_memory = refl;
      two_reads = refl;
      sum_memory = refl;
      sum_sum = refl;
      direction_sum = refl;
    }
