-- `measure` reads back: the loop keeps what `Measuring` says, item by item.
-- Assumes nothing.
use Rattle.std.proofs.Common.{refl, sym, ◌∙◌, inl, arith, length}
use Rattle.symbologies.specs.Symbologies.{symbology_of}
use Rattle.symbologies.proofs.Proper.{proper}
use Rattle.sums.specs.Sums.{own_in}
use Rattle.sums.proofs.Sums.{begins}
use Rattle.data.proofs.Measures.{left, there, width-none, width-some, start, refused, left_out, taken-up, ended}
use Rattle.data.proofs.items.measure.Goals as goal
use Rattle.data.proofs.items.measure.Goals.{then-at-own, else-at-own}

pub loop-at-init : goal.loop-at-init
loop-at-init c = start _ _ _ _ (begins c.args.symbology _ _ c.start_of-sum.ensures c.own_of-own.result (inl refl)).small

pub returns-in_default : goal.returns-in_default
returns-in_default c =
    refused (symbology_of c.args.symbology) _ _ _ _ _ _ c.loop-at.invariant c.loop-at-test.true (width-none _ (sym (rw left at c.width_of.ensures) ∙ c.in_default.is))

pub loop-at-preserved : goal.loop-at-preserved
loop-at-preserved c =
    let s = c.loop-at.invariant in
    let h = c.loop-at-test.true in
    let item = width-some _ _ (sym (rw left at c.width_of.ensures) ∙ c.in-Some.is) in
    let z = item.0 in
    let o = c.own_of-own.ensures in
    let width = item.1 in
    rw width
    (elim c.if-at-own.branch [
      | then-at-own w ↦
          rw w.sum-is
          (taken-up (symbology_of c.args.symbology) _ _ _ _ _ _ s h _ z (λ q. rw q (proper c.args.symbology).ends) (λ q. w.if-at-own.true (q ∙ sym o)) _
          (rw (there, width) at (w.take_item-sum.ensures _ (omega (arith, h, c.requires)) s.small)))
      | else-at-own w ↦ rw w.sum-is (left_out (symbology_of c.args.symbology) _ _ _ _ _ _ s h _ z (w.if-at-own.false ∙ o))
    ])

pub returns : goal.returns
returns c =
    ended (symbology_of c.args.symbology) _ _ _ _ _ _ c.loop-at.invariant (begins c.args.symbology _ _ c.start_of-sum.ensures (own_in c.args.mode (length c.args.codes.now)) (inl (sym c.own_of-own.ensures))) c.loop-at-test.false
