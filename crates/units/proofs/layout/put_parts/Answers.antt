-- `put_parts`: a part a turn, in its order, until none is left.
-- Assumes nothing.
use Rattle.std.proofs.Common.{arith, ◌∙◌, ap, take, drop, ℕ}
use Rattle.units.proofs.Parts.{started, turn}
use Rattle.units.proofs.layout.put_parts.Goals as goal

pub loop-i-init : goal.loop-i-init
loop-i-init c = started c.args.symbology c.args.n c.args.choices.now c.args.out.now c.requires.fits c.requires.choices_in_bounds

pub split_at-requires : goal.split_at-requires
split_at-requires c =
    let t = turn c.args.symbology c.args.n c.args.sets.now c.part_of-part.result c.loop-i.invariant (omega (arith, c.part_count-i-end.ensures)) c.part_of-part.ensures c.requires.sets_value in
    omega (arith, t.few, c.count_in.ensures)

pub put_part-at-requires : goal.put_part-at-requires
put_part-at-requires c =
    let t = turn c.args.symbology c.args.n c.args.sets.now c.part_of-part.result c.loop-i.invariant (omega (arith, c.part_count-i-end.ensures)) c.part_of-part.ensures c.requires.sets_value in
    let u = c.split_at.ensures in
    let f = u.front ∙ ap (λ (k : ℕ). take k c.loop-i.rest.now) c.count_in.ensures in
    record { part_value = (t.good, λ h. t.some (omega (arith, u.front_len, c.count_in.ensures))); choices_value = rw f t.below; choices_in_bounds = rw f t.reach }

pub loop-i-preserved : goal.loop-i-preserved
loop-i-preserved c =
    let t = turn c.args.symbology c.args.n c.args.sets.now c.part_of-part.result c.loop-i.invariant (omega (arith, c.part_count-i-end.ensures)) c.part_of-part.ensures c.requires.sets_value in
    let u = c.split_at.ensures in
    let f = u.front ∙ ap (λ (k : ℕ). take k c.loop-i.rest.now) c.count_in.ensures in
    let g = u.back ∙ ap (λ (k : ℕ). drop k c.loop-i.rest.now) c.count_in.ensures in
    rw g (t.next (rw f at c.put_part-at.ensures))
