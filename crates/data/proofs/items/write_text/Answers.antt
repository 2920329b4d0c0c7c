-- `write_text` writes what is read back: the loop keeps what `Writing` says, item by item.
-- Assumes nothing.
use Rattle.std.proofs.Common.{sym, ◌∙◌, arith}
use Rattle.data.proofs.Measures.{left, is-drawn, room, as_long, drawn, written_on, all-written}
use Rattle.data.proofs.items.write_text.Goals as goal

pub unwrap-item-requires : goal.unwrap-item-requires
unwrap-item-requires c =
    let d = rw left at c.item_of.ensures ∙ drawn _ _ _ _ _ _ c.requires c.loop-at.invariant c.loop-at-test.true in
    rw d

pub bounds-out-len : goal.bounds-out-len
bounds-out-len c =
    let s = c.loop-at.invariant in
    let r = (room _ _ _ _ _ _ c.requires s c.loop-at-test.true).1 in
    omega (arith, r, as_long _ _ _ _ _ _ c.requires s (omega (arith, r)))

pub loop-at-preserved : goal.loop-at-preserved
loop-at-preserved c =
    let d = is-drawn _ _ (sym (rw left at c.item_of.ensures) ∙ c.unwrap-item.ensures) in
    rw (d.1.1, d.1.0) (written_on _ _ _ _ _ _ c.requires c.loop-at.invariant c.loop-at-test.true)

pub returns : goal.returns
returns c = all-written _ _ _ _ _ _ c.requires c.loop-at.invariant c.loop-at-test.false
