-- `first_digit` is the search in table 5.2's parities: the constant computes to the definition.
use Rattle.std.proofs.Common.{◌≡◌, ◌∙◌, ◌<◌, Some, sym, arith, rules}
use Rattle.laws.proofs.Search.{below-some}
use Rattle.tables.specs.Ean.{first_digit, parities, table52}
use Rattle.tables.proofs.ean.first_digit.Goals as goal

pub returns-in_err-index_in : goal.returns-in_err-index_in
unfolding first_digit parities table52
returns-in_err-index_in c = c.from_residual.ensures ∙ sym (c.in_err-index_in.was) ∙ c.index_in.ensures

pub returns : goal.returns
unfolding first_digit parities table52
returns c =
    let found = below-some 10 (first_digit c.args.parities) c.in_ok-index_in.field-0 (sym c.index_in.ensures ∙ c.in_ok-index_in.was) in
    let fits : c.in_ok-index_in.field-0 < 256 = omega arith in
    let given : c.ok.result ≡ Some c.in_ok-index_in.field-0 = search rules in
    given ∙ sym (c.in_ok-index_in.was) ∙ c.index_in.ensures
