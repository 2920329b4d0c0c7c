-- `value` gives the digits: each arm of the match is one test over the bytes that it takes.
use Rattle.std.proofs.Common.{Some, None, ◌-◌, [], refl, arith}
use Rattle.laws.specs.Search.{below, index_in}
use Rattle.laws.proofs.Arms.{same-there}
use Rattle.tables.specs.Alphabet.{value_of}
use Rattle.tables.specs.TwoOfFive.{alphabet_digits, table44}
use Rattle.tables.proofs.two_of_five.value.Goals as goal

pub returns-in-48-to-57 : goal.returns-in-48-to-57
unfolding value_of alphabet_digits table44 index_in
returns-in-48-to-57 c = same-there [] 48 10 (λ b. Some (b - 48)) (λ b. below 10 (value_of alphabet_digits b)) refl _ (omega arith) (omega arith) tt

pub returns-in_default : goal.returns-in_default
unfolding value_of alphabet_digits table44 index_in
returns-in_default c = same-there [] 0 48 (λ b. None) (λ b. below 10 (value_of alphabet_digits b)) refl _ (omega arith) (omega arith) tt

pub returns-in_default-2 : goal.returns-in_default-2
unfolding value_of alphabet_digits table44 index_in
returns-in_default-2 c = same-there [] 58 198 (λ b. None) (λ b. below 10 (value_of alphabet_digits b)) refl _ (omega arith) (omega arith) tt
