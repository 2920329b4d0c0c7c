-- `several`: elements are the bytes of their word, with zeros behind them.
-- Assumes nothing.
use Rattle.std.proofs.Common.{List, [], ◌∷◌, ℕ, ◌≤◌, ◌≡◌, ◌∙◌, length, get_or, w64, arith}
use lib.ListN.{get_or-eq_default}
use Rattle.std.specs.Int.{from_le_bytes}
use Rattle.shapes.specs.Sets.{low}
use Rattle.search.proofs.word.several.Goals as goal

short : (xs : List ℕ) → length xs ≤ 8
    → from_le_bytes w64 (get_or xs 0 0 ∷ get_or xs 1 0 ∷ get_or xs 2 0 ∷ get_or xs 3 0 ∷ get_or xs 4 0 ∷ get_or xs 5 0 ∷ get_or xs 6 0 ∷ get_or xs 7 0 ∷ []) ≡ low xs
short [] l = omega arith
short (a ∷ []) l = omega arith
short (a ∷ b ∷ []) l = omega arith
short (a ∷ b ∷ c ∷ []) l = omega arith
short (a ∷ b ∷ c ∷ d ∷ []) l = omega arith
short (a ∷ b ∷ c ∷ d ∷ e ∷ []) l = omega arith
short (a ∷ b ∷ c ∷ d ∷ e ∷ f ∷ []) l = omega arith
short (a ∷ b ∷ c ∷ d ∷ e ∷ f ∷ g ∷ []) l = omega arith
short (a ∷ b ∷ c ∷ d ∷ e ∷ f ∷ g ∷ h ∷ []) l = omega arith
short (a ∷ b ∷ c ∷ d ∷ e ∷ f ∷ g ∷ h ∷ i ∷ xs) l = absurd (omega arith)

pub returns-in-len6 : goal.returns-in-len6
returns-in-len6 c =
    let xs = c.args.elements.now in
    let y : get_or xs 6 0 ≡ 0 = get_or-eq_default xs 0 {n = 6} (omega (arith, c.in-len6.len_below)) in
    let z : get_or xs 7 0 ≡ 0 = get_or-eq_default xs 0 {n = 7} (omega (arith, c.in-len6.len_below)) in
    c.from_le_bytes-in-len6.ensures ∙ rw (y, z) at (short xs c.requires)

pub returns-in-len7 : goal.returns-in-len7
returns-in-len7 c =
    let xs = c.args.elements.now in
    let z : get_or xs 7 0 ≡ 0 = get_or-eq_default xs 0 {n = 7} (omega (arith, c.in-len7.len_below)) in
    c.from_le_bytes-in-len7.ensures ∙ rw z at (short xs c.requires)

pub returns-in-len8-up : goal.returns-in-len8-up
returns-in-len8-up c = c.from_le_bytes-in-len8-up.ensures ∙ short c.args.elements.now c.requires
