-- The kinds of a job record (document 01, "Job file"): the kind byte fixes the length of what follows it.
--
--   symbology_of   the symbology that a kind draws: at the base the same number. A function of its own, since the two part ways
--                 when a kind with a longer field comes
--   fields, field_of    the length of the data field; 0 for a byte that is no kind
--   known         whether a byte is a kind
--   body_of        the bytes behind the kind byte: mode, count and field; 0 for a byte that is no kind
use Rattle.std.specs.Prelude.{Bool, ◌&&◌, List, [], ◌∷◌, ℕ, ◌+◌, leb, get_or}
use Rattle.laws.specs.Search.{pick}

abbrev pub symbology_of : ℕ → ℕ
symbology_of kind = kind

-- "32 bytes (kinds 1, 2, 4, 5, 6), 34 (3), 13 (7), 8 (8) or 12 (9)"
unfoldable pub fields : List ℕ
fields = 0 ∷ 32 ∷ 32 ∷ 34 ∷ 32 ∷ 32 ∷ 32 ∷ 13 ∷ 8 ∷ 12 ∷ []

unfoldable pub field_of : ℕ → ℕ
field_of kind = get_or fields kind 0

unfoldable pub known : ℕ → Bool
known kind = leb 1 kind && leb kind 9

unfoldable pub body_of : ℕ → ℕ
body_of kind = pick (known kind) (2 + field_of kind) 0
