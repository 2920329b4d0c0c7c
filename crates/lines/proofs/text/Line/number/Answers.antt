-- `number`: the digits, and a byte behind them.
-- Assumes nothing.
use Rattle.lines.proofs.Texts.{joined}
use Rattle.lines.proofs.text.Line.number.Goals as goal

pub returns-clause-put : goal.returns-clause-put
returns-clause-put c = joined c.digits.ensures.put c.byte.ensures
