-- `value` gives table 4.3: each arm of the match is one test over the bytes that it takes.
use Rattle.std.proofs.Common.{Some, None, ℕ, List, [], ◌∷◌, ◌+◌, ◌-◌, refl, arith, rules}
use Rattle.laws.specs.Search.{below, index_in}
use Rattle.laws.proofs.Arms.{same-there}
use Rattle.tables.specs.Alphabet.{value_of}
use Rattle.tables.specs.Code39.{alphabet39, chars39}
use Rattle.tables.proofs.code39.value.Goals as goal

-- the single characters, the last arm first
abbrev keys : List ℕ
keys = 37 ∷ 43 ∷ 47 ∷ 36 ∷ 32 ∷ 46 ∷ 45 ∷ []

pub returns-in-45 : goal.returns-in-45
unfolding value_of alphabet39 chars39 index_in
returns-in-45 c = rw c.in-45.is

pub returns-in-46 : goal.returns-in-46
unfolding value_of alphabet39 chars39 index_in
returns-in-46 c = rw c.in-46.is

pub returns-in-32 : goal.returns-in-32
unfolding value_of alphabet39 chars39 index_in
returns-in-32 c = rw c.in-32.is

pub returns-in-36 : goal.returns-in-36
unfolding value_of alphabet39 chars39 index_in
returns-in-36 c = rw c.in-36.is

pub returns-in-47 : goal.returns-in-47
unfolding value_of alphabet39 chars39 index_in
returns-in-47 c = rw c.in-47.is

pub returns-in-43 : goal.returns-in-43
unfolding value_of alphabet39 chars39 index_in
returns-in-43 c = rw c.in-43.is

pub returns-in-37 : goal.returns-in-37
unfolding value_of alphabet39 chars39 index_in
returns-in-37 c = rw c.in-37.is

pub returns-in-48-to-57 : goal.returns-in-48-to-57
unfolding value_of alphabet39 chars39 index_in
returns-in-48-to-57 c = same-there keys 45 13 (λ b. Some (b - 48)) (λ b. below 43 (value_of alphabet39 b)) refl _ (omega arith) (omega arith) (search rules)

pub returns-in-65-to-90 : goal.returns-in-65-to-90
unfolding value_of alphabet39 chars39 index_in
returns-in-65-to-90 c = same-there [] 65 26 (λ b. Some (b - 65 + 10)) (λ b. below 43 (value_of alphabet39 b)) refl _ (omega arith) (omega arith) tt

pub returns-in_default : goal.returns-in_default
unfolding value_of alphabet39 chars39 index_in
returns-in_default c = same-there keys 0 45 (λ b. None) (λ b. below 43 (value_of alphabet39 b)) refl _ (omega arith) (omega arith) (search rules)

pub returns-in_default-2 : goal.returns-in_default-2
unfolding value_of alphabet39 chars39 index_in
returns-in_default-2 c = same-there [] 58 7 (λ b. None) (λ b. below 43 (value_of alphabet39 b)) refl _ (omega arith) (omega arith) tt

pub returns-in_default-3 : goal.returns-in_default-3
unfolding value_of alphabet39 chars39 index_in
returns-in_default-3 c = same-there [] 91 165 (λ b. None) (λ b. below 43 (value_of alphabet39 b)) refl _ (omega arith) (omega arith) tt
