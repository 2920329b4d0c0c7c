-- `byte` gives the table's characters: the constant computes to the definition.
use Rattle.std.proofs.Common.{◌∙◌}
use Rattle.laws.proofs.Search.{some-get}
use Rattle.tables.specs.Alphabet.{byte_of}
use Rattle.tables.specs.TwoOfFive.{alphabet_digits, table44}
use Rattle.tables.proofs.two_of_five.byte.Goals as goal

pub returns : goal.returns
unfolding byte_of alphabet_digits table44
returns c = c.entry.ensures ∙ some-get alphabet_digits.chars c.args.value
