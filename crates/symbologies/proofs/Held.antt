-- A list in a row: its places, and the list again.
--
--   length-pad     so many places, whatever the list
--   set-pad        one entry more, stored behind the others
--   get_or-pad       an entry, where it has a place
--   take-pad       a list that has places is taken out again
--   row-long       of a row that holds a list: its places
--
-- Assumes nothing.
use Rattle.std.proofs.Common.{◌≡◌, refl, ap, ◌∙◌, List, [], ◌∷◌, ◌++◌, ℕ, zero, suc, ◌<◌, ◌≤◌, arith, length, get_or, take, set}
use Rattle.symbologies.specs.declared.row.Row.{Row}
use Rattle.symbologies.specs.Sizes.{places}
use Rattle.symbologies.specs.Told.{pad, row_in}

pub length-pad : (n : ℕ) (r : List ℕ) → length (pad n r) ≡ n
length-pad zero r = refl
length-pad (suc n) [] = ap suc (length-pad n [])
length-pad (suc n) (c ∷ cs) = ap suc (length-pad n cs)

pub set-pad : (n : ℕ) (r : List ℕ) (v : ℕ) → set (pad n r) (length r) v ≡ pad n (r ++ (v ∷ []))
set-pad zero r v = refl
set-pad (suc n) [] v = refl
set-pad (suc n) (c ∷ cs) v = ap (λ (l : List ℕ). c ∷ l) (set-pad n cs v)

pub get_or-pad : (n : ℕ) (r : List ℕ) (i : ℕ) → i < n → get_or (pad n r) i 0 ≡ get_or r i 0
get_or-pad zero r i h = absurd (omega arith)
get_or-pad (suc n) [] zero h = refl
get_or-pad (suc n) [] (suc i) h = get_or-pad n [] i (omega arith)
get_or-pad (suc n) (c ∷ cs) zero h = refl
get_or-pad (suc n) (c ∷ cs) (suc i) h = get_or-pad n cs i (omega arith)

pub take-pad : (n : ℕ) (r : List ℕ) → length r ≤ n → take (length r) (pad n r) ≡ r
take-pad n [] h = refl
take-pad zero (c ∷ cs) h = absurd (omega arith)
take-pad (suc n) (c ∷ cs) h = ap (λ (l : List ℕ). c ∷ l) (take-pad n cs (omega arith))

-- ---- of a row that holds a list

module _ (row : Row) (r : List ℕ) (e : row ≡ row_in r) where
  pub row-long : length row.codes ≡ places
  row-long = ap (λ (x : Row). length x.codes) e ∙ length-pad places r
