-- How drawn characters stand in the structs of src/, and by which symbology a place is drawn.
--
--   piece_list   the characters of a piece; is_nil, whether there are none
--   listed       the one character, or none
--   drawn_as     the number of the symbology whose characters stand at a place: full ASCII's last byte is, in mode 1, a raw character of
--               Code 39
--   edge        a place that is the first and the last; full ASCII draws the same at every place
use Rattle.std.specs.Prelude.{Bool, true, false, Option, Some, None, List, [], ◌∷◌, ℕ, eqb}
use Rattle.laws.specs.Search.{pick}
use Rattle.laws.specs.Spelling.{Place}
use Rattle.coders.specs.declared.Piece.{Piece}
use Rattle.coders.specs.declared.Piece.TheVariants.{Alone, Pair, Nothing}

abbrev pub piece_list : Piece → List ℕ
piece_list (Alone c) = c ∷ []
piece_list (Pair c d) = c ∷ d ∷ []
piece_list Nothing = []

abbrev pub is_nil : List ℕ → Bool
is_nil [] = true
is_nil (c ∷ cs) = false

abbrev pub listed : Option ℕ → List ℕ
listed (Some c) = c ∷ []
listed None = []

abbrev pub drawn_as : ℕ → ℕ → Bool → ℕ
drawn_as s m last = pick (eqb s 2) (pick (eqb m 1) (pick last 1 2) 2) s

abbrev pub edge : Place
edge = record { first = true; last = true }
