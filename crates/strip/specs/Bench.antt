-- The rows that document 01, "What the bench compares", marks P, in its order; Industrial 10417 gets 3 by ticket 1 of document 02.
-- proofs/Bench.antt: all of them hold.
--
--   Says      what a row says: `draws-strip`, the strip and its total of modules; `draws`, the drawn characters, the check
--             among them; `gets`, the check that is drawn behind the data
--   Row       symbology number, mode, data, and what the row says of them
--   bench     the table
--   widths_of  the widths that digits print
--   chars_of   the drawn characters as bytes
--   is_strip   whether drawn characters have this strip and total
--   bears     whether drawn characters are as is said; answers, whether a request is drawn at all, and so
--   holds     whether a row is true; all_hold, whether every row of a table is
use Rattle.std.specs.Prelude.{Bool, true, false, ◌&&◌, List, [], ◌∷◌, ◌++◌, map, ℕ, ◌-◌, eqb, length}
use Prim.Native.Char.{Char, code}
use Prim.Native.String.{String}
use Rattle.laws.specs.Elements.{alike, sum}
use Rattle.tables.specs.Printed.{text}
use Rattle.tables.specs.Alphabet.{byte_of}
use Rattle.words.specs.Order.{Outcome, gives, turned}
use Rattle.symbologies.specs.Symbologies.{symbology_of}
use Rattle.symbologies.specs.Rows.{row_of}
use Rattle.symbologies.specs.Strips.{elements_of, modules_of, strip_of}

pub data Says : Type 0 where
  draws-strip : String → ℕ → Says
  draws : String → Says
  gets : Char → Says

pub record Row : Type 0 where
  pub symbology : ℕ
  pub mode : ℕ
  pub bytes : List ℕ
  pub says : Says

abbrev pub row : ℕ → ℕ → String → Says → Row
row s m d w = record { symbology = s; mode = m; bytes = text d; says = w }

unfoldable pub bench : List Row
bench =
    row 5 0 "17" (draws-strip "11113111111333311" 27)
    ∷ row 3 0 "A5B" (draws-strip "11331311311113111313113" 39)
    ∷ row 6 0 "4" (draws-strip "31111111313131111" 25)
    ∷ row 4 0 "0" (draws-strip "313111111131311131113" 33)
    ∷ row 5 2 "417" (draws "4176")
    ∷ row 5 2 "00417" (draws "004176")
    ∷ row 4 2 "0123456789" (gets "5")
    ∷ row 4 2 "10417" (gets "3")
    ∷ row 7 2 "107622135746" (gets "8")
    ∷ row 8 2 "1076221" (gets "9")
    ∷ row 7 2 "000000000000" (gets "0")
    ∷ row 9 2 "00000000417" (gets "6")
    ∷ row 1 2 "W00417" (gets "1")
    ∷ row 1 2 "Z8" (gets "0")
    ∷ row 2 2 "a1" (draws "+A19")
    ∷ []

-- ---- what a row says

abbrev pub widths_of : String → List ℕ
widths_of t = map (λ b. b - code "0") (text t)

abbrev pub chars_of : ℕ → List ℕ → List ℕ
chars_of s r = map (byte_of (symbology_of s).alphabet) r

-- the strip of the drawn characters r is this one; its length is the table's number of elements, and both the total and its sum
-- are the modules
abbrev pub is_strip : ℕ → List ℕ → List ℕ → ℕ → Bool
is_strip s r widths modules =
    alike (strip_of s r) widths
    && eqb (length (strip_of s r)) (elements_of s (length r))
    && eqb (modules_of s r) modules
    && eqb (sum (strip_of s r)) modules

-- of symbology s, data d and the drawn characters r
abbrev pub bears : ℕ → List ℕ → List ℕ → Says → Bool
bears s d r (draws-strip t modules) = is_strip s r (widths_of t) modules
bears s d r (draws t) = alike (chars_of s r) (text t)
bears s d r (gets c) = alike (chars_of s r) (d ++ (code c ∷ []))

-- a request that is turned away is not drawn
abbrev pub answers : ℕ → List ℕ → Outcome → Says → Bool
answers s d (gives r) w = bears s d r w
answers s d (turned a) w = false

abbrev pub holds : Row → Bool
holds x = answers x.symbology x.bytes (row_of x.symbology x.mode x.bytes) x.says

abbrev pub all_hold : List Row → Bool
all_hold [] = true
all_hold (x ∷ xs) = holds x && all_hold xs
