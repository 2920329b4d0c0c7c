-- `sides`: before index i stand digits, from there on the rows, and the bits so far and those of the units that are left always end at the
-- same number.
-- Assumes nothing.
use Rattle.std.proofs.Common.{◌≡◌, ◌+◌, arith}
use Rattle.reads.proofs.Characters.{begun, small, more, all_bits, all_digits}
use Rattle.reads.proofs.chars.sides.Goals as goal

pub loop-code-init : goal.loop-code-init
loop-code-init c = begun c.args.codes.now (omega arith)

pub overflow_mul-bits : goal.overflow_mul-bits
overflow_mul-bits c = omega (arith, small _ _ _ _ c.loop-code.invariant (omega (arith, c.loop-code.invariant.long)))

pub overflow_add-bits : goal.overflow_add-bits
overflow_add-bits c = omega (arith, small _ _ _ _ c.loop-code.invariant (omega (arith, c.loop-code.invariant.long)))

pub loop-code-preserved : goal.loop-code-preserved
loop-code-preserved c = more _ _ _ _ c.loop-code.invariant (omega (arith, c.loop-code.invariant.long)) (c.requires.codes_small (1 + c.loop-code.code-index))

pub returns-clause-value : goal.returns-clause-value
returns-clause-value c =
    let e : c.loop-code.code-index ≡ 6 = omega (arith, c.loop-code.invariant.long) in
    all_bits _ _ _ (rw e at c.loop-code.invariant)

pub returns-clause-digits : goal.returns-clause-digits
returns-clause-digits c =
    let e : c.loop-code.code-index ≡ 6 = omega (arith, c.loop-code.invariant.long) in
    all_digits _ _ _ (rw e at c.loop-code.invariant) c.told-codes c.requires.codes_bound.0 c.requires.codes_bound.1
