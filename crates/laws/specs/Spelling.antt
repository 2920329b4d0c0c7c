-- Spelling: data bytes as drawn characters, one or two to a byte, and the way back.
--
--   Place      where a byte stands in the data, or a character in its row: whether it is the first, and whether it is the last
--   stands     the place of what has these behind it; ends, whether nothing stands behind
--   is_end      whether a place is the first or the last
--   fitting    whether each character of a row may stand where it stands
--   Coder      what a byte draws where it stands: no character where it is not allowed there; and which characters begin a pair
--              where a pair would be the last item or not
--   join       characters before a reading; took, none where a byte at this index drew none
--   spell      the characters of data, or the index of the first byte that is not allowed
--   counted    n numbers from i on
--   byte_for    the byte that draws an item, 256 where none does
--   gave       a byte before a reading, or the index where there is none
--   unspell    the data that characters spell, or the index of the character where the first failing item begins
use Rattle.std.specs.Prelude.{Bool, true, false, ◌&&◌, List, [], ◌∷◌, ℕ, zero, suc, ltb}
use Rattle.laws.specs.Search.{pick, first}
use Rattle.laws.specs.Elements.{alike}
use Rattle.laws.specs.Units.{Reading, found, stopped, push}

pub record Place : Type 0 where
  pub first : Bool
  pub last : Bool

abbrev pub ends : List ℕ → Bool
ends [] = true
ends (x ∷ xs) = false

abbrev pub stands : Bool → List ℕ → Place
stands start rest = record { first = start; last = ends rest }

abbrev pub is_end : Place → Bool
is_end p = pick p.last true p.first

abbrev pub fitting : (Place → ℕ → Bool) → Bool → List ℕ → Bool
fitting allowed start [] = true
fitting allowed start (c ∷ cs) =
    let rest = fitting allowed false cs in
    allowed (stands start cs) c && rest

pub record Coder : Type 0 where
  pub drawn : Place → ℕ → List ℕ
  pub shift : Bool → ℕ → Bool

abbrev pub join : List ℕ → Reading → Reading
join [] rest = rest
join (c ∷ cs) rest = push c (join cs rest)

abbrev pub took : ℕ → List ℕ → Reading → Reading
took at [] rest = stopped at
took at (c ∷ cs) rest = join (c ∷ cs) rest

abbrev pub spell : Coder → Bool → ℕ → List ℕ → Reading
spell k start at [] = found []
spell k start at (b ∷ bs) =
    let rest = spell k false (suc at) bs in
    took at (k.drawn (stands start bs) b) rest

abbrev pub counted : ℕ → ℕ → List ℕ
counted i zero = []
counted i (suc n) = i ∷ counted (suc i) n

unfoldable pub byte_for : Coder → Place → List ℕ → ℕ
byte_for k p item = first (λ b. alike (k.drawn p b) item) (counted 0 256)

abbrev pub gave : ℕ → ℕ → Reading → Reading
gave at b rest = pick (ltb b 256) (push b rest) (stopped at)

abbrev pub unspell : Coder → Bool → ℕ → List ℕ → Reading
unspell k start at [] = found []
unspell k start at (c ∷ []) = gave at (byte_for k (stands start []) (c ∷ [])) (found [])
unspell k start at (c ∷ d ∷ cs) =
    let two = gave at (byte_for k (stands start cs) (c ∷ d ∷ [])) (unspell k false (suc (suc at)) cs) in
    let one = gave at (byte_for k (stands start (d ∷ cs)) (c ∷ [])) (unspell k false (suc at) (d ∷ cs)) in
    pick (k.shift (ends cs) c) two one
