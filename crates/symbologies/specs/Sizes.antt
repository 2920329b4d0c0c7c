-- The sizes, by name, each said once here and once in src/sizes.rt.
--
--   places    the places of a row (document 01, "the drawn characters stand as a row of 34 places with their number")
--   longest   the elements of the longest strip (document 01, "a room of 339 elements": Code 39, 32 characters)
use Rattle.std.specs.Prelude.{ℕ}

abbrev pub places : ℕ
places = 34

abbrev pub longest : ℕ
longest = 339
