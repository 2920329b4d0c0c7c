-- What the calls answer, in the structs of src/.
--
--   pad, row_in       a list in a row: its first entries as far as there are places, zeros behind them, and its length
--   Rowed, told      an outcome as the code holds it: whether a row is given, and the row; one that is not is empty
--   filled_as         the same of a lent row
--   judged           a value behind checks: the first that applies turns it away; limits_for, 1, 2, a symbology's limits
--   judged_field      1, 2, 3, 13, or nothing against it; judged_drawn, 5, 6; judged_count, 1, 2, 9: whether a mode of a symbology can give so many
--                    drawn characters
--   elements_within, modules_within    the elements of n characters, and the modules of a row; 0 where there are no such places
use Rattle.std.specs.Prelude.{List, [], ◌∷◌, Result, Ok, Err, ℕ, zero, suc, leb, length, take}
use Rattle.laws.specs.Search.{pick}
use Rattle.words.specs.declared.Answer.{Answer}
use Rattle.words.specs.Order.{Check, first_of, Outcome, gives, turned}
use Rattle.symbologies.specs.declared.limits.Limits.{Limits}
use Rattle.symbologies.specs.declared.row.Row.{Row}
use Rattle.symbologies.specs.Sizes.{places}
use Rattle.symbologies.specs.Symbologies.{symbology_of}
use Rattle.symbologies.specs.Rows.{offers, field_checks, drawn_checks, count_checks}
use Rattle.symbologies.specs.Strips.{elements_of, modules_of}

abbrev pub pad : ℕ → List ℕ → List ℕ
pad zero cs = []
pad (suc n) [] = 0 ∷ pad n []
pad (suc n) (c ∷ cs) = c ∷ pad n cs

abbrev pub row_in : List ℕ → Row
row_in cs = record { codes = pad places cs; len = length cs }

pub record Rowed : Type 0 where
  pub verdict : Result (Unit {0}) Answer
  pub row : Row

abbrev pub told : Outcome → Rowed
told (gives cs) = record { verdict = Ok tt; row = row_in cs }
told (turned a) = record { verdict = Err a; row = row_in [] }

abbrev pub filled_as : Result (Unit {0}) Answer → Row → Rowed
filled_as v row = record { verdict = v; row = row }

abbrev pub judged : {A : Type 0} → List Check → A → Result A Answer
judged cs x = first_of Err cs (Ok x)

unfoldable pub limits_for : ℕ → ℕ → Result Limits Answer
limits_for s m = judged (offers (symbology_of s) m) (symbology_of s).limits

unfoldable pub judged_field : ℕ → ℕ → ℕ → List ℕ → Result (Unit {0}) Answer
judged_field s m count field = judged (field_checks (symbology_of s) m count field) tt

unfoldable pub judged_drawn : ℕ → ℕ → Result (Unit {0}) Answer
judged_drawn s n = judged (drawn_checks (symbology_of s) n) tt

unfoldable pub judged_count : ℕ → ℕ → ℕ → Result (Unit {0}) Answer
judged_count s m n = judged (count_checks (symbology_of s) m n) tt

unfoldable pub elements_within : ℕ → ℕ → ℕ
elements_within s n = pick (leb n places) (elements_of s n) 0

unfoldable pub modules_within : ℕ → Row → ℕ
modules_within s row = pick (leb row.len places) (modules_of s (take row.len row.codes)) 0
