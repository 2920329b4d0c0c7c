-- `put`: the first elements and the last ones, which lap over.
-- Assumes nothing.
use Rattle.std.proofs.Common.{refl, arith}
use Rattle.writers.proofs.Bytes.{lapped}
use Rattle.writers.proofs.put.Goals as goal

pub returns-then-k-lt4 : goal.returns-then-k-lt4
returns-then-k-lt4 c =
    let a = c.args in
    lapped a.k 2 a.word (omega arith) (omega arith) c.put_first.ensures refl c.put_first-then-k-lt4.ensures

pub returns-else-k-lt4 : goal.returns-else-k-lt4
returns-else-k-lt4 c =
    let a = c.args in
    lapped a.k 4 a.word (omega arith) (omega arith) c.put_first-else-k-lt4.ensures refl c.put_first-else-k-lt4-2.ensures
