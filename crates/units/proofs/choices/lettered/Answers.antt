-- `lettered`: what stands at both ends is a letter, and less 16 its row's number.
-- Assumes nothing.
use Rattle.std.proofs.Common.{◌∙◌, ap, arith, true}
use Rattle.symbologies.specs.Parts.{lowered}
use Rattle.units.proofs.Choosing.{copied}
use Rattle.units.proofs.choices.lettered.Goals as goal

pub overflow_sub-rows : goal.overflow_sub-rows
overflow_sub-rows c = (copied c.copy_from_slice.new.self _ c.args.chars.now c.copy_from_slice.ensures.after (omega arith) c.requires.1.1).0.first

pub overflow_sub-rows-3 : goal.overflow_sub-rows-3
overflow_sub-rows-3 c = (copied c.copy_from_slice.new.self _ c.args.chars.now c.copy_from_slice.ensures.after (omega arith) c.requires.1.1).0.last

pub returns : goal.returns
returns c =
    let t = copied c.copy_from_slice.new.self _ c.args.chars.now c.copy_from_slice.ensures.after (omega arith) c.requires.1.1 in
    t.0.low ∙ ap (lowered true) t.1
