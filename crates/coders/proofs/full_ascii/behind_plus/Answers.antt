-- `behind_plus` gives the bytes of the pairs with +: each arm of the match is one test over the characters that it takes.
-- Assumes nothing.
use Rattle.std.proofs.Common.{rules, refl, [], ◌∷◌, ◌+◌, ◌-◌, arith}
use Rattle.laws.specs.Search.{index_in}
use Rattle.tables.specs.Alphabet.{value_of}
use Rattle.tables.specs.Code39.{alphabet39, chars39}
use Rattle.tables.specs.FullAscii.{drawing, ranges}
use Rattle.symbologies.specs.Coders.{full_coder}
use Rattle.symbologies.proofs.Coders.{back}
use Rattle.coders.proofs.Items.{owns, lost}
use Rattle.coders.proofs.full_ascii.behind_plus.Goals as goal

pub returns-in-10-to-35 : goal.returns-in-10-to-35
unfolding full_coder value_of alphabet39 chars39 index_in drawing ranges
returns-in-10-to-35 c = owns [] 10 26 (λ v. 41) (λ v. v ∷ []) (λ v. v - 10 + 97) refl _ (omega arith) (omega arith) tt

pub returns-in_default : goal.returns-in_default
unfolding back
returns-in_default c = lost [] 0 10 (λ v. 41) (λ v. v ∷ []) refl _ (omega arith) (omega arith) tt

pub returns-in_default-2 : goal.returns-in_default-2
unfolding back
returns-in_default-2 c = lost [] 36 220 (λ v. 41) (λ v. v ∷ []) refl _ (omega arith) (search rules) tt
