-- `alone` gives the bytes that stand for themselves: one test over the characters that do, and none of the others.
-- Assumes nothing.
use Rattle.std.proofs.Common.{rules, refl, ◌∙◌, [], arith, lt-ltb}
use Rattle.laws.specs.Search.{index_in}
use Rattle.tables.specs.Alphabet.{value_of, byte_of}
use Rattle.tables.specs.Code39.{alphabet39, chars39}
use Rattle.tables.specs.FullAscii.{drawing, ranges}
use Rattle.symbologies.specs.Coders.{full_coder}
use Rattle.symbologies.proofs.Coders.{back}
use Rattle.coders.proofs.Items.{owns, lost}
use Rattle.coders.proofs.full_ascii.alone.Goals as goal

pub returns-then-value-lt39 : goal.returns-then-value-lt39
unfolding byte_of full_coder value_of alphabet39 chars39 index_in drawing ranges
returns-then-value-lt39 c = rw (lt-ltb c.args.value 43 (omega arith)) at c.byte.ensures ∙ owns [] 0 39 (λ v. v) (λ v. []) (byte_of alphabet39) refl _ (omega arith) c.if-value-lt39.true tt

pub returns-else-value-lt39 : goal.returns-else-value-lt39
unfolding back
returns-else-value-lt39 c = lost [] 39 217 (λ v. v) (λ v. []) refl _ c.if-value-lt39.false (search rules) tt
