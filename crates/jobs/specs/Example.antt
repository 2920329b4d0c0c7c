-- Document 01's example of a job file: "Two Interleaved records, mode 0, data 17 and 417, print exactly".
--
--   record32   a record of a kind whose field is 32 long: kind, mode, count, the data and zeros behind them
--   example    the two records
--   printed    the three lines
use Rattle.std.specs.Prelude.{List, [], ◌∷◌, ◌++◌, ℕ, ◌-◌, length, replicate}
use Prim.Native.String.{String}
use Rattle.tables.specs.Printed.{text}

abbrev pub record32 : ℕ → ℕ → String → List ℕ
record32 kind mode d = kind ∷ mode ∷ length (text d) ∷ (text d ++ replicate (32 - length (text d)) 0)

unfoldable pub example : List ℕ
example = record32 5 0 "17" ++ record32 5 0 "417"

unfoldable pub printed : List ℕ
printed =
    text "1 0 0 17 27 11113111111333311" ++ (10 ∷ [])
    ++ (text "2 5 0 0 0 -" ++ (10 ∷ []))
    ++ (text "end 2 1" ++ (10 ∷ []))
