-- `parities_of` gives table 5.2's parities: the constant computes to the definition.
use Rattle.std.proofs.Common.{◌∙◌}
use Rattle.laws.proofs.Search.{some-get}
use Rattle.tables.specs.Ean.{parities_of, parities, table52}
use Rattle.tables.proofs.ean.parities_of.Goals as goal

pub returns : goal.returns
unfolding parities_of parities table52
returns c = c.entry.ensures ∙ some-get parities c.args.first
