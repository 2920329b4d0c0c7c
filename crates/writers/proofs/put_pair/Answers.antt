-- `put_pair`: a bar and a space more a turn, and after five the pair.
-- Assumes nothing.
use Rattle.std.proofs.Common.{sym, ap, arith, ◌+◌, ◌*◌, ◌<◌, length, get_or}
use Rattle.laws.proofs.Writing.{then, same_text, same_place}
use Rattle.writers.proofs.Bytes.{two-put, weave-more}
use Rattle.writers.proofs.put_pair.Goals as goal

pub loop-i-preserved : goal.loop-i-preserved
loop-i-preserved c =
    let l = c.loop-i in
    let i = l.i in
    let v = c.to_le_bytes-bars.result in
    let w = c.to_le_bytes-spaces.result in
    let m : i < length v = omega (arith, ap length c.to_le_bytes-bars.ensures) in
    let n : i < length w = omega (arith, ap length c.to_le_bytes-spaces.ensures) in
    same_place (omega arith)
    (same_text (sym (weave-more v w i m n)) (then l.invariant (two-put l.out (c.args.at + 2 * i) (get_or v i 0) (get_or w i 0) (omega arith))))
