-- `drawn` gives the drawing codes: each arm of the match is one test over the bytes that it takes.
-- Assumes nothing.
use Rattle.std.proofs.Common.{rules, ◌≡◌, refl, true, List, [], ◌∷◌, ℕ, ◌+◌, ◌-◌, ◌<◌, ◌≤◌, arith, leb, w8, Fits, leb-true}
use Rattle.laws.specs.Search.{index_in}
use Rattle.laws.proofs.Arms.{alike-there}
use Rattle.tables.specs.Alphabet.{value_of}
use Rattle.tables.specs.Code39.{alphabet39, chars39}
use Rattle.tables.specs.FullAscii.{drawing, ranges}
use Rattle.symbologies.specs.Coders.{full_coder}
use Rattle.coders.specs.Pieces.{edge}
use Rattle.coders.proofs.full_ascii.drawn.Goals as goal

-- the single bytes, the last arm first
abbrev keys : List ℕ
keys = 96 ∷ 64 ∷ 58 ∷ 47 ∷ 46 ∷ 45 ∷ 32 ∷ []

-- a byte from a letter on, and room for it behind another
reaches : (n b : ℕ) → n - b ≡ 0 → n ≤ b
reaches n b e = omega arith

fits : (b from to most : ℕ) → b < most → leb (most + to) 256 ≡ true → Fits w8 (b - from + to)
fits b from to most h t = omega (arith, leb-true (most + to) 256 t)

pub returns-in-58 : goal.returns-in-58
returns-in-58 c = rw c.in-58.is (unfold full_coder value_of alphabet39 chars39 index_in drawing ranges in refl)

pub returns-in-33-to-44 : goal.returns-in-33-to-44
unfolding full_coder value_of alphabet39 chars39 index_in drawing ranges
returns-in-33-to-44 c = alike-there keys 32 13 (λ b. 40 ∷ (b - 33 + 10) ∷ []) (full_coder.drawn edge) refl _ (omega arith) (omega arith) (search rules)

pub returns-in-48-to-57 : goal.returns-in-48-to-57
unfolding full_coder value_of alphabet39 chars39 index_in drawing ranges
returns-in-48-to-57 c = alike-there keys 45 13 (λ b. (b - 48) ∷ []) (full_coder.drawn edge) refl _ (omega arith) (omega arith) (search rules)

pub returns-in-59-to-63 : goal.returns-in-59-to-63
unfolding full_coder value_of alphabet39 chars39 index_in drawing ranges
returns-in-59-to-63 c = alike-there keys 58 6 (λ b. 42 ∷ (b - 59 + 15) ∷ []) (full_coder.drawn edge) refl _ (omega arith) (omega arith) (search rules)

pub returns-in-65-to-90 : goal.returns-in-65-to-90
unfolding full_coder value_of alphabet39 chars39 index_in drawing ranges
returns-in-65-to-90 c = alike-there keys 64 27 (λ b. (b - 65 + 10) ∷ []) (full_coder.drawn edge) refl _ (omega arith) (omega arith) (search rules)

pub returns-in-91-to-95 : goal.returns-in-91-to-95
unfolding full_coder value_of alphabet39 chars39 index_in drawing ranges
returns-in-91-to-95 c = alike-there keys 91 5 (λ b. 42 ∷ (b - 91 + 20) ∷ []) (full_coder.drawn edge) refl _ (omega arith) (omega arith) (search rules)

pub returns-in-97-to-122 : goal.returns-in-97-to-122
unfolding full_coder value_of alphabet39 chars39 index_in drawing ranges
returns-in-97-to-122 c = alike-there keys 96 27 (λ b. 41 ∷ (b - 97 + 10) ∷ []) (full_coder.drawn edge) refl _ (omega arith) (omega arith) (search rules)

pub returns-in-123-to-127 : goal.returns-in-123-to-127
unfolding full_coder value_of alphabet39 chars39 index_in drawing ranges
returns-in-123-to-127 c = alike-there keys 123 5 (λ b. 42 ∷ (b - 123 + 25) ∷ []) (full_coder.drawn edge) refl _ (omega arith) (omega arith) (search rules)

pub returns-in_default : goal.returns-in_default
unfolding full_coder value_of alphabet39 chars39 index_in drawing ranges
returns-in_default c = alike-there keys 0 32 (λ b. []) (full_coder.drawn edge) refl c.args.byte (omega arith) (omega arith) (search rules)

pub returns-in_default-2 : goal.returns-in_default-2
unfolding full_coder value_of alphabet39 chars39 index_in drawing ranges
returns-in_default-2 c = alike-there [] 128 128 (λ b. []) (full_coder.drawn edge) refl c.args.byte (omega arith) (search rules) tt
