-- `close`: each return is one law of Returns, by the mode and, in mode 1, by the last character.
-- Assumes nothing.
use Rattle.std.proofs.Common.{◌≡◌, arith}
use Rattle.rows.proofs.Returns.{closed-plain, closed-wrong, closed-right, closed-added}
use Rattle.rows.proofs.drawing.close.Goals as goal

pub returns-then-row-last : goal.returns-then-row-last
returns-then-row-last c y h b e r =
    closed-wrong y c.args.mode h b c.args.row.now e c.in-1.is c.requires.1.0 (omega (arith, c.requires.1.1)) c.args.right r c.if-row-last.true

pub returns-else-row-last : goal.returns-else-row-last
returns-else-row-last c y h b e r =
    closed-right y c.args.mode h b c.args.row.now e c.in-1.is c.requires.1.0 (omega (arith, c.requires.1.1)) c.args.right r c.if-row-last.false

pub returns-in-2 : goal.returns-in-2
returns-in-2 c y h b e r = rw c.push.ensures (closed-added y c.args.mode h b c.args.row.now e c.in-2.is c.args.right r)

pub returns-in_default : goal.returns-in_default
returns-in_default c y h b e r =
    let zero : c.args.mode ≡ 0 = omega (arith, c.requires.0) in
    closed-plain y c.args.mode h b c.args.row.now e zero
