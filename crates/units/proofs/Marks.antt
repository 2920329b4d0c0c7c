-- What the code's descriptions draw (shapes, specs/Described.antt): a mark is a parting space and a row, and so is a unit.
--
--   mark-some     a mark that has elements draws the space and its row; mark-sized, of three to nine elements
--   unit-shows      a unit draws the space and the row of its choice
--   row-in, pair-in    that row, of up to nine elements and of ten; shown-length, its length
--
-- Assumes nothing.
use Rattle.std.proofs.Common.{◌≡◌, refl, ap, ◌∙◌, ◌≢◌, Bool, true, false, ◌||◌, List, [], ◌∷◌, ◌++◌, map, append-nil, ℕ, ◌/◌, ◌%◌, ◌<◌, ◌≤◌, arith, eqb, ltb, leb, length, get_or, leb-true, ltb-true, ltb-false, lt-ltb, le-ltb, ne_eqb}
use Rattle.laws.specs.Units.{strip, fixed, free}
use Rattle.laws.specs.Spelling.{counted}
use Rattle.laws.proofs.Finite.{both_left, both_right}
use Rattle.laws.proofs.Spelling.{numbered}
use Rattle.tables.specs.Bits.{weave}
use Rattle.shapes.specs.declared.parts.Mark.{Mark}
use Rattle.shapes.specs.declared.parts.Unit.{Unit}
use Rattle.shapes.specs.Sets.{bytes, row_of, word_at}
use Rattle.shapes.proofs.Words.{row-length}
use Rattle.shapes.specs.Described.{gap_in, mark_in, row_in, unit_in, sizeable}

sized : (most k : ℕ) → sizeable most k ≡ true → (3 ≤ k) × (k ≤ most)
sized most k e = (leb-true 3 k (both_left (leb 3 k) (leb k most) e), leb-true k most (both_right (leb 3 k) (leb k most) e))

-- ---- marks

module _ (m : Mark) where
  pub mark-some : m.elements ≢ 0 → strip (mark_in m) [] ≡ strip (gap_in m.gap) [] ++ row_of m.elements m.word
  mark-some n = rw (ne_eqb m.elements 0 n) (go m.gap)
    where
      go : (g : Bool) → strip (gap_in g ++ (fixed (row_of m.elements m.word) ∷ [])) [] ≡ strip (gap_in g) [] ++ row_of m.elements m.word
      go true = ap (λ (l : List ℕ). 1 ∷ l) (append-nil _)
      go false = append-nil _

  pub mark-sized : (eqb m.elements 0 || sizeable 9 m.elements) ≡ true → m.elements ≢ 0 → (3 ≤ m.elements) × (m.elements ≤ 9)
  mark-sized e n = sized 9 m.elements (rw (ne_eqb m.elements 0 n) at e)

-- ---- units

module _ (sets : List (List ℕ)) (u : Unit) (c : ℕ) (h : c < u.size) where
  pub unit-shows : strip (unit_in sets u) (c ∷ []) ≡ strip (gap_in u.gap) [] ++ row_in sets u c
  unit-shows = go u.gap
    where
      row : get_or (map (row_in sets u) (counted 0 u.size)) c [] ≡ row_in sets u c
      row = numbered (row_in sets u) 0 u.size c h ∙ ap (row_in sets u) (omega arith)

      go : (g : Bool) → strip (gap_in g ++ (free (map (row_in sets u) (counted 0 u.size)) ∷ [])) (c ∷ []) ≡ strip (gap_in g) [] ++ row_in sets u c
      go true = ap (λ (l : List ℕ). 1 ∷ l) (append-nil _ ∙ row)
      go false = append-nil _ ∙ row

  pub row-in : u.elements < 10 → row_in sets u c ≡ row_of u.elements (word_at sets u.set c)
  row-in n = rw (lt-ltb u.elements 10 n)

  pub pair-in : 10 ≤ u.elements → row_in sets u c ≡ weave (bytes 5 (word_at sets u.set (c / 10))) (bytes 5 (word_at sets u.set (c % 10)))
  pair-in n = rw (le-ltb u.elements 10 n)

  pub shown-length : sizeable 10 u.elements ≡ true → length (row_in sets u c) ≡ u.elements
  shown-length z = go (ltb u.elements 10) refl
    where
      go : (b : Bool) → ltb u.elements 10 ≡ b → length (row_in sets u c) ≡ u.elements
      go true e = rw (row-in (ltb-true u.elements 10 e)) (row-length u.elements (word_at sets u.set c) (omega (arith, ltb-true u.elements 10 e)))
      go false e =
          let n : 10 ≤ u.elements = ltb-false u.elements 10 e in
          rw (pair-in n) (omega (arith, (sized 10 u.elements z).1))
