-- `put_said`: five numbers, one behind the other.
-- Assumes nothing.
use Rattle.lines.proofs.Texts.{joined, reworded, said-text}
use Rattle.lines.proofs.put_said.Goals as goal

pub returns-clause-put : goal.returns-clause-put
returns-clause-put c =
    let a = c.args in
    reworded (said-text a.number a.said.number a.said.place a.said.count a.said.total)
    (joined (joined (joined (joined c.number.ensures.put c.number-2.ensures.put) c.number-3.ensures.put) c.number-4.ensures.put) c.number-5.ensures.put)
