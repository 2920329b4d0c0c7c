-- `put_first`: what is copied are the first bytes of the word.
-- Assumes nothing.
use Rattle.std.proofs.Common.{◌∙◌, ap, arith, take, ◌≡◌, ◌+◌, ◌-◌, drop-drop}
use Rattle.laws.proofs.Writing.{placed}
use Rattle.shapes.specs.Sets.{bytes}
use Rattle.shapes.proofs.Words.{bytes-length}
use Rattle.writers.proofs.Bytes.{first_bytes}
use Rattle.writers.proofs.put_first.Goals as goal

pub returns : goal.returns
returns g c =
    let a = c.args in
    let n = g.row.N in
    let e = c.copy_from_slice.ensures.after ∙ ap (take n) c.to_le_bytes.ensures ∙ first_bytes n a.word (omega arith) in
    let k = bytes-length n a.word in
    let z : a.at + n - a.at ≡ n = omega arith in
    placed a.out.now (bytes n a.word) _ a.at (a.at + n) (omega arith) (rw (e, z, drop-drop n a.at a.out.now, k)) (omega arith)
