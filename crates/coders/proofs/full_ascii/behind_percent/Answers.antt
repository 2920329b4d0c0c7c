-- `behind_percent` gives the bytes of the pairs with %: each arm of the match is one test over the characters that it takes.
-- Assumes nothing.
use Rattle.std.proofs.Common.{rules, refl, List, [], ◌∷◌, ℕ, ◌+◌, ◌-◌, arith}
use Rattle.laws.specs.Search.{index_in}
use Rattle.tables.specs.Alphabet.{value_of}
use Rattle.tables.specs.Code39.{alphabet39, chars39}
use Rattle.tables.specs.FullAscii.{drawing, ranges}
use Rattle.symbologies.specs.Coders.{full_coder}
use Rattle.symbologies.proofs.Coders.{back}
use Rattle.coders.proofs.Items.{own, owns, lost}
use Rattle.coders.proofs.full_ascii.behind_percent.Goals as goal

-- the single characters, the last arm first
abbrev keys : List ℕ
keys = 32 ∷ 31 ∷ []

pub returns-in-31 : goal.returns-in-31
returns-in-31 c = rw c.in-31.is (own 64 42 (31 ∷ []) refl (unfold full_coder value_of alphabet39 chars39 index_in drawing ranges in refl))

pub returns-in-32 : goal.returns-in-32
returns-in-32 c = rw c.in-32.is (own 96 42 (32 ∷ []) refl (unfold full_coder value_of alphabet39 chars39 index_in drawing ranges in refl))

pub returns-in-15-to-19 : goal.returns-in-15-to-19
unfolding full_coder value_of alphabet39 chars39 index_in drawing ranges
returns-in-15-to-19 c = owns [] 15 5 (λ v. 42) (λ v. v ∷ []) (λ v. v - 15 + 59) refl _ (omega arith) (omega arith) tt

pub returns-in-20-to-24 : goal.returns-in-20-to-24
unfolding full_coder value_of alphabet39 chars39 index_in drawing ranges
returns-in-20-to-24 c = owns [] 20 5 (λ v. 42) (λ v. v ∷ []) (λ v. v - 20 + 91) refl _ (omega arith) (omega arith) tt

pub returns-in-25-to-29 : goal.returns-in-25-to-29
unfolding full_coder value_of alphabet39 chars39 index_in drawing ranges
returns-in-25-to-29 c = owns [] 25 5 (λ v. 42) (λ v. v ∷ []) (λ v. v - 25 + 123) refl _ (omega arith) (omega arith) tt

pub returns-in_default : goal.returns-in_default
unfolding back
returns-in_default c = lost [] 0 15 (λ v. 42) (λ v. v ∷ []) refl _ (omega arith) (omega arith) tt

pub returns-in_default-2 : goal.returns-in_default-2
unfolding back
returns-in_default-2 c = lost keys 30 226 (λ v. 42) (λ v. v ∷ []) refl _ (omega arith) (search rules) (search rules)
