-- `utils::sign_extend` meets its contract: by the sign bit, the bits below it stand alone or under ones (Extend). Assumes nothing.
use Rattle.std.proofs.Common.{◌-◌, ◌^◌, ◌<◌, sym, mod-lt, arith, pow_pos}
use Rattle.std.proofs.lemmas.Nat.{one_shl}
use lib.Pow.{pow-lt}
use Rattle.utils.proofs.Extend.{extend_none, extend_whole, extend_clear, extend_set}
use Rattle.utils.proofs.sign_extend.Goals as goal

pub returns-then-bits-eq0 : goal.returns-then-bits-eq0
returns-then-bits-eq0 c = rw c.if-bits-eq0.true (sym (extend_none c.args.word))

pub returns-then-bits-ge64 : goal.returns-then-bits-ge64
returns-then-bits-ge64 c =
    sym (extend_whole c.args.bits c.args.word c.if-bits-ge64.true c.ranges.word.fits)

pub nonzero_rem-low : goal.nonzero_rem-low
nonzero_rem-low c =
    rw (one_shl (c.args.bits - 1) 64 (omega arith)) (pow_pos (c.args.bits - 1))

pub nonzero_div-word : goal.nonzero_div-word
nonzero_div-word c =
    rw (one_shl (c.args.bits - 1) 64 (omega arith)) (pow_pos (c.args.bits - 1))

pub returns-then-word-half-eq0 : goal.returns-then-word-half-eq0
returns-then-word-half-eq0 c =
    let n = c.args.bits in
    let p = one_shl (n - 1) 64 (omega arith) in
    let t = rw p at c.if-word-half-eq0.true in
    rw p (extend_clear n c.args.word (omega arith) t)

pub overflow_add-result : goal.overflow_add-result
overflow_add-result c =
    let p = one_shl (c.args.bits - 1) 64 (omega arith) in
    let l = pow_pos (c.args.bits - 1) in
    rw p (record { fits = omega arith })

pub overflow_add-result-2 : goal.overflow_add-result-2
overflow_add-result-2 c =
    let n = c.args.bits in
    let p = one_shl (n - 1) 64 (omega arith) in
    let l = mod-lt c.args.word (pow_pos (n - 1)) in
    let h : n - 1 < 64 = omega arith in
    let s : 2 ^ (n - 1) < 2 ^ 64 = pow-lt h in
    rw p (record { fits = omega arith })

pub returns : goal.returns
returns c =
    let n = c.args.bits in
    let p = one_shl (n - 1) 64 (omega arith) in
    let t = rw p at c.if-word-half-eq0.false in
    rw p (extend_set n c.args.word (omega arith) (omega arith) t)
