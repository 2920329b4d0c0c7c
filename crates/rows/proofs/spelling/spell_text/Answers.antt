-- `spell_text` spells: the loop keeps what `Spelling` says, piece by piece.
-- Assumes nothing.
use Rattle.std.proofs.Common.{refl, sym, ◌∙◌, arith, inl}
use Rattle.symbologies.specs.Symbologies.{symbology_of}
use Rattle.symbologies.proofs.Proper.{proper}
use Rattle.sums.proofs.Sums.{begins}
use Rattle.rows.proofs.Spellings.{start, refused, taken-up, left_out, ended}
use Rattle.rows.proofs.spelling.spell_text.Goals as goal
use Rattle.rows.proofs.spelling.spell_text.Goals.{then-i-own, else-i-own}

pub loop-i-init : goal.loop-i-init
loop-i-init c = start _ _ _ _ _ c.requires.1 (begins c.args.symbology _ _ c.start_of-sum.ensures c.own_of-own.result (inl refl)).small

pub returns-then-is_nothing : goal.returns-then-is_nothing
returns-then-is_nothing c =
    refused (symbology_of c.args.symbology) _ _ _ _ _ _ c.loop-i.invariant c.loop-i-test.true
    c.drawn-piece.result c.drawn-piece.ensures _ c.is_nothing.ensures c.if-is_nothing.true

pub loop-i-preserved : goal.loop-i-preserved
loop-i-preserved c =
    let s = c.loop-i.invariant in
    let h = c.loop-i-test.true in
    let d = c.drawn-piece in
    let n = c.is_nothing.ensures in
    let t = c.if-is_nothing.false in
    let o = c.own_of-own.ensures in
    elim c.if-i-own.branch [
      | then-i-own w ↦
          taken-up (symbology_of c.args.symbology) _ _ _ _ _ _ s h d.result d.ensures _ n t _ c.put.ensures (λ q. w.if-i-own.true (q ∙ sym o)) _
          (rw w.sum-is (w.take_up-sum.ensures.by_index _ (omega (arith, h, c.requires.0.1)) s.small))
      | else-i-own w ↦
          rw w.sum-is
          (left_out (symbology_of c.args.symbology) _ _ _ _ _ _ s h d.result d.ensures _ n t _ c.put.ensures (λ q. rw q (proper c.args.symbology).ends) (w.if-i-own.false ∙ o))
    ]

pub returns : goal.returns
returns c =
    ended c.args.symbology _ _ c.requires.0.0 _ (λ k u. begins c.args.symbology _ _ c.start_of-sum.ensures k (rw c.own_of-own.ensures u)) _ _ _ c.loop-i.invariant (omega arith)
