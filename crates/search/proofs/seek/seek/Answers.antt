-- `seek`: a pair by its digits; few rows, all of their sets; more rows, the one set that the spaces tell.
-- Assumes nothing.
use Rattle.std.proofs.Common.{◌≡◌, ◌+◌, ◌/◌, length, lt-ltb, le-ltb, le-leb, arith}
use Rattle.std.proofs.lemmas.Bool.{lt-leb}
use Rattle.search.specs.Sought.{sought_in}
use Rattle.search.proofs.Bounds.{seek-most, seek-pair, seek-tens, ten-bound}
use Rattle.search.proofs.seek.seek.Goals as goal

pub seek_pair-requires : goal.seek_pair-requires
seek_pair-requires c =
    let u = c.args.unit in
    let e : u.elements ≡ 10 = omega (arith, c.if-k-gt9.true, seek-most (length c.args.sets.now) u c.requires.2) in
    (omega arith, omega arith, seek-pair (length c.args.sets.now) u c.requires.2 c.if-k-gt9.true)

pub returns-then-k-gt9 : goal.returns-then-k-gt9
unfolding sought_in
returns-then-k-gt9 c = rw (lt-ltb 9 c.args.unit.elements c.if-k-gt9.true) c.seek_pair.ensures

pub returns-then-size-le-FEW : goal.returns-then-size-le-FEW
unfolding sought_in
returns-then-size-le-FEW c =
    let u = c.args.unit in
    let w = rw c.requires.1 at c.word_of-word.ensures in
    let n : (u.size + 9) / 10 ≡ c.div_ceil.result = omega (arith, c.div_ceil.ensures) in
    rw (le-ltb 9 u.elements c.if-k-gt9.false, ← w, le-leb u.size 20 c.if-size-le-FEW.true, n) c.among.ensures

pub overflow_add-set : goal.overflow_add-set
overflow_add-set c =
    omega (arith, c.ten_of-ten.ensures, ten-bound c.word_of-word.result, seek-tens (length c.args.sets.now) c.args.unit c.requires.2 c.if-k-gt9.false c.if-size-le-FEW.false)

pub overflow_mul-ten : goal.overflow_mul-ten
overflow_mul-ten c = omega (arith, c.ten_of-ten.ensures, ten-bound c.word_of-word.result)

pub returns : goal.returns
unfolding sought_in
returns c =
    let u = c.args.unit in
    let w = rw c.requires.1 at c.word_of-word.ensures in
    rw (le-ltb 9 u.elements c.if-k-gt9.false, ← w, lt-leb u.size 20 c.if-size-le-FEW.false, ← c.ten_of-ten.ensures) c.among-2.ensures
