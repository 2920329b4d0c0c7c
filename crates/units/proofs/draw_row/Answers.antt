-- `draw_row`: the strip in the room, and its first elements copied.
-- Assumes nothing.
use Rattle.std.proofs.Common.{refl, arith, rules, ap, ◌++◌, drop, length-take}
use Rattle.units.proofs.Drawn.{drawing, room-long, too_short, laid}
use Rattle.units.proofs.draw_row.Goals as goal

pub returns-then-out-count : goal.returns-then-out-count
returns-then-out-count c =
    let d = drawing c.args.symbology c.args.row (search rules) c.requires c.elements_of-count.ensures in
    let both = too_short d c.args.out.now (omega arith) in
    record { value = both.0; out_after = both.1 }

pub shared_ref_as_front-build : goal.shared_ref_as_front-build
shared_ref_as_front-build c = (drawing c.args.symbology c.args.row (search rules) c.requires c.elements_of-count.ensures).few

pub build-requires-clause-chars_in_bounds : goal.build-requires-clause-chars_in_bounds
build-requires-clause-chars_in_bounds c =
    let d = drawing c.args.symbology c.args.row (search rules) c.requires c.elements_of-count.ensures in
    omega (arith, d.count, d.within)

pub slice_bounds-room-end : goal.slice_bounds-room-end
slice_bounds-room-end c =
    let d = drawing c.args.symbology c.args.row (search rules) c.requires c.elements_of-count.ensures in
    omega (arith, room-long d _ _ refl c.build.ensures, d.within)

pub slice_bounds-copy_from_slice-end-3 : goal.slice_bounds-copy_from_slice-end-3
slice_bounds-copy_from_slice-end-3 c =
    let d = drawing c.args.symbology c.args.row (search rules) c.requires c.elements_of-count.ensures in
    omega (arith, room-long d _ _ refl c.build.ensures, d.within, length-take c.elements_of-count.result c.build.new.out)

pub copy_from_slice-requires : goal.copy_from_slice-requires
copy_from_slice-requires c =
    let d = drawing c.args.symbology c.args.row (search rules) c.requires c.elements_of-count.ensures in
    let n = c.elements_of-count.result in
    omega (arith, room-long d _ _ refl c.build.ensures, d.within, length-take n c.args.out.now, length-take n c.build.new.out)

pub returns : goal.returns
returns c =
    let d = drawing c.args.symbology c.args.row (search rules) c.requires c.elements_of-count.ensures in
    let u = c.build in
    let n = c.elements_of-count.result in
    let next = c.copy_from_slice.new.self ++ drop n c.args.out.now in
    let both = laid d c.args.out.now _ u.new.out next c.modules_of-modules.result c.if-out-count.false c.modules_of-modules.ensures (room-long d _ _ refl u.ensures) u.ensures
    (ap (λ t. t ++ drop n c.args.out.now) c.copy_from_slice.ensures.after) in
    record { value = both.0; out_after = both.1 }
