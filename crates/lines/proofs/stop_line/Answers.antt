-- `stop_line`: the word and a number at the front, or nothing where the room is short.
-- Assumes nothing.
use Rattle.std.proofs.Common.{rules}
use Rattle.lines.proofs.Texts.{stop-put, in-room}
use Rattle.lines.proofs.stop_line.Goals as goal

pub returns : goal.returns
returns c =
    let put = stop-put c.args.records c.word.ensures c.number.ensures.put in
    let both = in-room c.if-out-lt-LONGEST_LINE.false put (search rules) in
    record { value = both.0; out_after = both.1; in_bounds = both.2 }
