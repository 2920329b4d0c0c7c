-- `end_line`: the word and two numbers at the front, or nothing where the room is short.
-- Assumes nothing.
use Rattle.std.proofs.Common.{rules}
use Rattle.lines.proofs.Texts.{end-put, in-room}
use Rattle.lines.proofs.end_line.Goals as goal

pub returns : goal.returns
returns c =
    let a = c.args in
    let put = end-put a.records a.drawn c.word.ensures c.number.ensures.put c.number-2.ensures.put in
    let both = in-room c.if-out-lt-LONGEST_LINE.false put (search rules) in
    record { value = both.0; out_after = both.1; in_bounds = both.2 }
