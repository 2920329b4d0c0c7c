-- `part_count`: two of each symbology but four, which have three; each arm is one test over the numbers that it takes.
-- Assumes nothing.
use Rattle.std.proofs.Common.{refl, [], ◌∷◌, ℕ, arith, rules, length}
use Rattle.laws.proofs.Arms.{agree}
use Rattle.symbologies.specs.Parts.{starred, lettering, industrial, interleaved, matrix, halved}
use Rattle.symbologies.specs.Symbologies.{symbologies, symbology_of}
use Rattle.shapes.proofs.parts.part_count.Goals as goal

abbrev parts : ℕ → ℕ
parts s = length (symbology_of s).parts

pub returns-in-1 : goal.returns-in-1
unfolding symbology_of symbologies starred lettering industrial interleaved matrix halved
returns-in-1 c = agree (3 ∷ []) 1 6 (λ s. 2) parts refl _ (omega arith) (omega arith) (search rules)

pub returns-in_default : goal.returns-in_default
unfolding symbology_of symbologies
returns-in_default c = agree [] 0 1 (λ s. 0) parts refl _ (omega arith) (omega arith) tt

pub returns-in_default-2 : goal.returns-in_default-2
unfolding symbology_of symbologies
returns-in_default-2 c = agree [] 10 246 (λ s. 0) parts refl _ (omega arith) (search rules) tt

pub returns-in-3 : goal.returns-in-3
unfolding symbology_of symbologies lettering
returns-in-3 c = rw c.in-3.is

pub returns-in-3-2 : goal.returns-in-3-2
unfolding symbology_of symbologies halved
returns-in-3-2 c = agree [] 7 3 (λ s. 3) parts refl _ (omega arith) (omega arith) tt
