-- `word_of`: the eighth and the ninth fit their halves of a byte, or there is no word.
-- Assumes nothing.
use Rattle.std.proofs.Common.{◌<◌, get_or, take, length-take, get_or-take, arith}
use Rattle.search.proofs.Found.{take-bytes, low_below}
use Rattle.search.proofs.word.word_of.Goals as goal

pub overflow_add-result : goal.overflow_add-result
overflow_add-result c =
    let xs = c.args.elements.now in
    let e : get_or (take 8 xs) 7 0 < 16 = rw (get_or-take 8 xs 7 0 (omega arith)) (omega arith) in
    omega (arith, c.several-2.ensures, low_below 7 (take 8 xs) (omega (arith, length-take 8 xs)) (take-bytes 8 xs (λ i. omega (arith, c.type_inv.elements i))) e)
