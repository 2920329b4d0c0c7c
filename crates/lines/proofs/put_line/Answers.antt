-- `put_line`: the record is drawn into the room, and its answer and its widths are written.
-- Assumes nothing.
use Rattle.std.proofs.Common.{rules}
use Rattle.lines.proofs.Texts.{room-holds, record-put}
use Rattle.lines.proofs.put_line.Goals as goal

pub put_strip-requires : goal.put_strip-requires
put_strip-requires c =
    let a = c.args in
    let room = room-holds a.number a.symbology _ a.count a.field.now c.draw_field-answer.result c.from-said.result
    c.draw_field-answer.new.out c.draw_field-answer.ensures.value c.draw_field-answer.ensures.out_after c.from-said.ensures in
    record { longest_in_bounds = (search rules, search rules); count_le_longest = room.0; by_index = room.1 }

pub returns : goal.returns
returns c =
    let a = c.args in
    let both = record-put a.number a.symbology a.mode a.count a.field.now c.draw_field-answer.result c.from-said.result
    c.draw_field-answer.new.out c.draw_field-answer.ensures.value c.draw_field-answer.ensures.out_after c.from-said.ensures
    c.put_said.ensures.put c.put_strip.ensures (search rules) in
    record { put = both.0; drawn_value = both.1 }
