-- `index_in` answers the first index at which x stands: what `position` finds.
use Rattle.std.proofs.Common.{◌≡◌, ◌∙◌, length, rules, tests}
use Rattle.std.proofs.lemmas.Iterator.{YieldsList-from_slice}
use Rattle.std.proofs.lemmas.Iterator.Search.{position_from_yields_List}
use Rattle.laws.specs.Search.{is, index_in, below}
use Rattle.laws.proofs.Search.{position-index}
use Rattle.laws.proofs.index_in.Goals as goal

pub returns : goal.returns
returns c =
    let e : c.position.result ≡ below (length c.args.table.now) (index_in c.args.table.now c.args.x)
    = position_from_yields_List (is c.args.x) _ _ c.position.result c.position.ensures.ran
    (YieldsList-from_slice c.args.table.now (cc))
    (λ x b q k. search (rules, tests))
    ∙ position-index c.args.table.now c.args.x in
    rw (← e) (search (rules, tests))
