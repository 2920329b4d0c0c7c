-- `read_parts`: a part a turn, in its order, until one stops or none is left.
-- Assumes nothing.
use Rattle.std.proofs.Common.{rules, arith}
use Rattle.std.proofs.lemmas.Result.{err_from_is_err_and}
use Rattle.reads.proofs.Parts.{started, turn, ended}
use Rattle.reads.proofs.walk.read_parts.Goals as goal

pub loop-i-init : goal.loop-i-init
loop-i-init c = let a = c.args in started a.symbology a.n a.strip.now a.codes.now c.requires.1

pub overflow_add-place : goal.overflow_add-place
overflow_add-place c =
    let t = turn _ _ _ _ _ _ _ c.loop-i.invariant (omega arith) c.part_of-part.ensures c.requires.0 c.count_in-count.ensures in
    search rules

pub slice_bounds-read_part-end : goal.slice_bounds-read_part-end
slice_bounds-read_part-end c =
    let t = turn _ _ _ _ _ _ _ c.loop-i.invariant (omega arith) c.part_of-part.ensures c.requires.0 c.count_in-count.ensures in
    search rules

pub read_part-requires : goal.read_part-requires
read_part-requires c =
    let t = turn _ _ _ _ _ _ _ c.loop-i.invariant (omega arith) c.part_of-part.ensures c.requires.0 c.count_in-count.ensures in
    t.reads

pub returns-in_err-at : goal.returns-in_err-at
returns-in_err-at c =
    let t = turn _ _ _ _ _ _ _ c.loop-i.invariant (omega arith) c.part_of-part.ensures c.requires.0 c.count_in-count.ensures in
    let p = err_from_is_err_and c.from_residual.result c.from_residual.ensures.1 in
    rw (p.1, p.2) (t.stops (omega arith) c.read_part.ensures c.in_err-at.was)

pub overflow_add-place-in-loop-i : goal.overflow_add-place-in-loop-i
overflow_add-place-in-loop-i c =
    let t = turn _ _ _ _ _ _ _ c.loop-i.invariant (omega arith) c.part_of-part.ensures c.requires.0 c.count_in-count.ensures in
    search rules

pub loop-i-preserved : goal.loop-i-preserved
loop-i-preserved c =
    let t = turn _ _ _ _ _ _ _ c.loop-i.invariant (omega arith) c.part_of-part.ensures c.requires.0 c.count_in-count.ensures in
    t.next (omega arith) c.read_part.ensures c.in_ok-at.was

pub returns : goal.returns
returns c =
    let a = c.args in
    ended a.symbology a.n a.strip.now a.codes.now c.loop-i.invariant (omega arith)
