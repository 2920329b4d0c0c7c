-- `byte` gives the table's characters: the constant computes to the definition.
use Rattle.std.proofs.Common.{◌∙◌}
use Rattle.laws.proofs.Search.{some-get}
use Rattle.tables.specs.Alphabet.{byte_of}
use Rattle.tables.specs.Codabar.{alphabet_codabar, table41}
use Rattle.tables.proofs.codabar.byte.Goals as goal

pub returns : goal.returns
unfolding byte_of alphabet_codabar table41
returns c = c.entry.ensures ∙ some-get alphabet_codabar.chars c.args.value
