-- An answer as a caller from C gets it.
--
--   four     number, place, count and total, in this order
--   four_of   those of an answer (words, `said_of`)
use Rattle.std.specs.Prelude.{List, [], ◌∷◌, ℕ}
use Rattle.words.specs.declared.Answer.{Answer}
use Rattle.words.specs.declared.Said.{Said}
use Rattle.words.specs.Said.{said_of}

abbrev pub four : Said → List ℕ
four s = s.number ∷ s.place ∷ s.count ∷ s.total ∷ []

abbrev pub four_of : Answer → List ℕ
four_of a = four (said_of a)
