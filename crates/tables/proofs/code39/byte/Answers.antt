-- `byte` gives the table's characters: the constant computes to the definition.
use Rattle.std.proofs.Common.{◌∙◌}
use Rattle.laws.proofs.Search.{some-get}
use Rattle.tables.specs.Alphabet.{byte_of}
use Rattle.tables.specs.Code39.{alphabet39, chars39}
use Rattle.tables.proofs.code39.byte.Goals as goal

pub returns : goal.returns
unfolding byte_of alphabet39 chars39
returns c = c.entry.ensures ∙ some-get alphabet39.chars c.args.value
