-- Laws of rows as words.
--
--   bytes-length    k bytes are k
--   bytes-add       bytes behind others are the bytes of what is left when those are shifted out
--   row-length      a row of three to nine elements has so many; pair-length, a pair ten
--
-- Assumes nothing.
use Rattle.std.proofs.Common.{◌≡◌, refl, ap, ◌∙◌, Bool, true, false, List, [], ◌∷◌, ◌++◌, ℕ, zero, suc, ◌+◌, ◌*◌, ◌/◌, ◌%◌, ◌^◌, ◌≤◌, arith, suc-add, zero-add, ltb, length, shr-shr, ltb-false}
use Rattle.laws.specs.Search.{pick}
use Rattle.tables.specs.Bits.{weave}
use Rattle.shapes.specs.Sets.{bytes, top, row_of}

pub bytes-length : (k w : ℕ) → length (bytes k w) ≡ k
bytes-length zero w = refl
bytes-length (suc k) w = ap suc (bytes-length k (w / 256))

pub bytes-add : (j k w : ℕ) → bytes (j + k) w ≡ bytes j w ++ bytes k (w / 2 ^ (8 * j))
bytes-add zero k w =
    let e : w / 2 ^ (8 * 0) ≡ w = omega arith in
    rw (zero-add k, e)
bytes-add (suc j) k w =
    let e : 8 + 8 * j ≡ 8 * suc j = omega arith in
    rw (suc-add j k) (ap (λ (l : List ℕ). (w % 256) ∷ l) (bytes-add j k (w / 256) ∙ rw (← e, ← shr-shr w 8 (8 * j))))

pub row-length : (k w : ℕ) → k ≤ 9 → length (row_of k w) ≡ k
row-length k w h = go (ltb k 9) refl
  where
    go : (b : Bool) → ltb k 9 ≡ b → length (pick b (bytes k w) (bytes 8 (w % top) ++ (w / top ∷ []))) ≡ k
    go true e = bytes-length k w
    go false e = omega (arith, ltb-false k 9 e)

pub pair-length : (a b : ℕ) → length (weave (bytes 5 a) (bytes 5 b)) ≡ 10
pair-length a b = refl
