-- `behind_slash` gives the bytes of the pairs with /: each arm of the match is one test over the characters that it takes.
-- Assumes nothing.
use Rattle.std.proofs.Common.{rules, refl, List, [], ◌∷◌, ℕ, ◌+◌, ◌-◌, arith}
use Rattle.laws.specs.Search.{index_in}
use Rattle.tables.specs.Alphabet.{value_of}
use Rattle.tables.specs.Code39.{alphabet39, chars39}
use Rattle.tables.specs.FullAscii.{drawing, ranges}
use Rattle.symbologies.specs.Coders.{full_coder}
use Rattle.symbologies.proofs.Coders.{back}
use Rattle.coders.proofs.Items.{own, owns, lost}
use Rattle.coders.proofs.full_ascii.behind_slash.Goals as goal

-- the single characters, the last arm first
abbrev keys : List ℕ
keys = 35 ∷ 24 ∷ []

pub returns-in-24 : goal.returns-in-24
returns-in-24 c = rw c.in-24.is (own 47 40 (24 ∷ []) refl (unfold full_coder value_of alphabet39 chars39 index_in drawing ranges in refl))

pub returns-in-35 : goal.returns-in-35
returns-in-35 c = rw c.in-35.is (own 58 40 (35 ∷ []) refl (unfold full_coder value_of alphabet39 chars39 index_in drawing ranges in refl))

pub returns-in-10-to-21 : goal.returns-in-10-to-21
unfolding full_coder value_of alphabet39 chars39 index_in drawing ranges
returns-in-10-to-21 c = owns [] 10 12 (λ v. 40) (λ v. v ∷ []) (λ v. v - 10 + 33) refl _ (omega arith) (omega arith) tt

pub returns-in_default : goal.returns-in_default
unfolding back
returns-in_default c = lost [] 0 10 (λ v. 40) (λ v. v ∷ []) refl _ (omega arith) (omega arith) tt

pub returns-in_default-2 : goal.returns-in_default-2
unfolding back
returns-in_default-2 c = lost keys 22 234 (λ v. 40) (λ v. v ∷ []) refl _ (omega arith) (search rules) (search rules)
