-- `put_strip`: the widths or -, and the newline.
-- Assumes nothing.
use Rattle.lines.proofs.Texts.{drawn-shown, refused-shown}
use Rattle.lines.proofs.put_strip.Goals as goal
use Rattle.lines.proofs.put_strip.Goals.{then-said-eq0, else-said-eq0}

pub returns : goal.returns
returns c =
    elim c.if-said-eq0.branch [
      | then-said-eq0 w ↦ drawn-shown c.args.said c.args.room.now w.if-said-eq0.true w.widths.ensures (rw w.line-is at c.byte-2.ensures)
      | else-said-eq0 w ↦ refused-shown c.args.said c.args.room.now w.if-said-eq0.false w.byte.ensures (rw w.line-is at c.byte-2.ensures)
    ]
