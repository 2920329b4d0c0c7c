-- `digit_in` looks at one word a turn, and has found what stands among those behind it.
-- Assumes nothing.
use Rattle.std.proofs.Common.{ℕ, List, [], ◌≡◌, sym, get_or, arith, eq-eqb, ne_eqb}
use Rattle.shapes.specs.Searched.{digit_in}
use Rattle.search.proofs.Matches.{match-last, match-bound}
use Rattle.search.proofs.seek.digit_in.Goals as goal
use Rattle.search.proofs.seek.digit_in.Goals.{then-row-word, else-row-word}

pub returns-then-word-eq0 : goal.returns-then-word-eq0
unfolding digit_in
returns-then-word-eq0 c = rw c.if-word-eq0.true

pub loop-digit-preserved : goal.loop-digit-preserved
loop-digit-preserved c =
    let w = c.args.word in
    let d = c.loop-digit.digit in
    let ws : List ℕ = get_or c.args.sets.now c.args.set [] in
    let m = match-last w (ne_eqb 0 w (λ e. c.if-word-eq0.false (sym e))) ws d 0 in
    elim c.if-row-word.branch [
      | then-row-word q ↦ omega (arith, rw (eq-eqb (get_or ws d 0) w q.if-row-word.true) at m)
      | else-row-word q ↦ omega (arith, rw (ne_eqb (get_or ws d 0) w q.if-row-word.false) at m)
    ]

pub overflow_add-found-in-loop-digit : goal.overflow_add-found-in-loop-digit
overflow_add-found-in-loop-digit c =
    let b = match-bound 10 c.args.word (get_or c.args.sets.now c.args.set []) c.loop-digit.digit 0 (omega arith) in
    elim c.if-row-word.branch [ then-row-word q ↦ omega (arith, b) | else-row-word q ↦ omega (arith, b) ]

pub returns : goal.returns
unfolding digit_in
returns c =
    let e : c.loop-digit.digit ≡ 10 = omega arith in
    rw (ne_eqb c.args.word 0 c.if-word-eq0.false, ← e) c.loop-digit.invariant
