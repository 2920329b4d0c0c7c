-- `less_in`: two for each of Codabar's digits, - and $.
-- Assumes nothing.
use Rattle.std.proofs.Common.{rules, tests, ◌≡◌, ◌∙◌, sym, ap, ltb, count_by, ◌*◌}
use Rattle.symbologies.proofs.Measuring.{none-less, nothing-less, two-less}
use Rattle.symbologies.proofs.lengths.less_in.Goals as goal

pub returns-then-symbology-ne3 : goal.returns-then-symbology-ne3
returns-then-symbology-ne3 c = sym (nothing-less _ (none-less _ c.if-symbology-ne3.true) c.args.codes.now)

pub returns : goal.returns
returns c =
    let e : c.count.result ≡ count_by (λ v. ltb v 12) c.args.codes.now = search (rules, tests) in
    ap (λ n. 2 * n) e ∙ two-less _ c.if-symbology-ne3.false c.args.codes.now
