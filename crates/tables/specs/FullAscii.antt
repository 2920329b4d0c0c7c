-- Full ASCII for symbology 2: source 004, 10.1.3, as document 01 words its drawing codes ("Full ASCII"), in its order.
--
--   Range     bytes from .. to .., and what each draws: `itself`, or shifted, a shift character and the letters from one on
--   ranges    a line to a range of bytes
--   within, drawn_in    whether a range holds a byte, and what the first that does draws
--   drawing   the characters that are drawn for a byte: itself, or a shift character and a letter; none where it is refused
--   printed   the same from 20h on, as the source prints it: a column to a line (proofs/FullAscii.antt: the two agree)
use Rattle.std.specs.Prelude.{Bool, ◌&&◌, List, [], ◌∷◌, ℕ, ◌+◌, ◌-◌, leb}
use Prim.Native.Char.{Char, code}
use Prim.Native.String.{String}
use Rattle.laws.specs.Search.{pick}

pub record Range : Type 0 where
  pub from : ℕ
  pub to : ℕ
  pub drawn : ℕ → List ℕ

abbrev pub itself : Char → Char → Range
itself a z = record { from = code a; to = code z; drawn = λ b. b ∷ [] }

abbrev pub shifted : ℕ → ℕ → Char → Char → Range
shifted a z shift letter = record { from = a; to = z; drawn = λ b. code shift ∷ (code letter + (b - a)) ∷ [] }

unfoldable pub ranges : List Range
ranges =
    itself " " " "
    ∷ itself "0" "9"
    ∷ itself "A" "Z"
    ∷ itself "-" "-"
    ∷ itself "." "."
    ∷ shifted 0x21 0x2C "/" "A"
    ∷ shifted 0x2F 0x2F "/" "O"
    ∷ shifted 0x3A 0x3A "/" "Z"
    ∷ shifted 0x3B 0x3F "%" "F"
    ∷ shifted 0x40 0x40 "%" "V"
    ∷ shifted 0x5B 0x5F "%" "K"
    ∷ shifted 0x60 0x60 "%" "W"
    ∷ shifted 0x61 0x7A "+" "A"
    ∷ shifted 0x7B 0x7F "%" "P"
    ∷ []

abbrev pub within : Range → ℕ → Bool
within r b = leb r.from b && leb b r.to

abbrev pub drawn_in : List Range → ℕ → List ℕ
drawn_in [] b = []
drawn_in (r ∷ rs) b = let rest = drawn_in rs b in pick (within r b) (r.drawn b) rest

unfoldable pub drawing : ℕ → List ℕ
drawing b = drawn_in ranges b

unfoldable pub printed : List String
printed =
    " " ∷ "/A" ∷ "/B" ∷ "/C" ∷ "/D" ∷ "/E" ∷ "/F" ∷ "/G" ∷ "/H" ∷ "/I" ∷ "/J" ∷ "/K" ∷ "/L" ∷ "-" ∷ "." ∷ "/O"
    ∷ "0" ∷ "1" ∷ "2" ∷ "3" ∷ "4" ∷ "5" ∷ "6" ∷ "7" ∷ "8" ∷ "9" ∷ "/Z" ∷ "%F" ∷ "%G" ∷ "%H" ∷ "%I" ∷ "%J"
    ∷ "%V" ∷ "A" ∷ "B" ∷ "C" ∷ "D" ∷ "E" ∷ "F" ∷ "G" ∷ "H" ∷ "I" ∷ "J" ∷ "K" ∷ "L" ∷ "M" ∷ "N" ∷ "O"
    ∷ "P" ∷ "Q" ∷ "R" ∷ "S" ∷ "T" ∷ "U" ∷ "V" ∷ "W" ∷ "X" ∷ "Y" ∷ "Z" ∷ "%K" ∷ "%L" ∷ "%M" ∷ "%N" ∷ "%O"
    ∷ "%W" ∷ "+A" ∷ "+B" ∷ "+C" ∷ "+D" ∷ "+E" ∷ "+F" ∷ "+G" ∷ "+H" ∷ "+I" ∷ "+J" ∷ "+K" ∷ "+L" ∷ "+M" ∷ "+N" ∷ "+O"
    ∷ "+P" ∷ "+Q" ∷ "+R" ∷ "+S" ∷ "+T" ∷ "+U" ∷ "+V" ∷ "+W" ∷ "+X" ∷ "+Y" ∷ "+Z" ∷ "%P" ∷ "%Q" ∷ "%R" ∷ "%S" ∷ "%T"
    ∷ []
