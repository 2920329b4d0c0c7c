-- `start_of` begins the sum of each number: each arm of the match is one law of proofs/Sums.antt.
-- Assumes nothing.
use Rattle.std.proofs.Common.{inl, inr, arith}
use Rattle.sums.proofs.Sums.{begun-43, begun-odd, begun-even, begun-none, kinds}
use Rattle.sums.proofs.start_of.Goals as goal

pub returns-in-1 : goal.returns-in-1
returns-in-1 c =
    let a = c.args in
    begun-43 a.symbology a.n c.by.result (omega arith) (omega arith) c.by.ensures

pub returns-in-4-to-9 : goal.returns-in-4-to-9
returns-in-4-to-9 c =
    let a = c.args in
    begun-odd a.symbology a.n c.by-in-4-to-9.result (omega arith) (omega arith) c.if-n-eq1.true c.by-in-4-to-9.ensures

pub returns-in-4-to-9-2 : goal.returns-in-4-to-9-2
returns-in-4-to-9-2 c =
    let a = c.args in
    begun-even a.symbology a.n c.by-in-4-to-9-2.result (omega arith) (omega arith) c.if-n-eq1.false c.by-in-4-to-9-2.ensures

pub returns-in_default : goal.returns-in_default
returns-in_default c =
    elim (kinds c.args.symbology) [
      | inl w ↦ absurd (grind arith)
      | inr k ↦ elim k [
        | inl w ↦ absurd (grind arith)
        | inr w ↦ begun-none c.args.symbology c.args.n c.by-in_default.result w c.by-in_default.ensures
      ]
    ]
