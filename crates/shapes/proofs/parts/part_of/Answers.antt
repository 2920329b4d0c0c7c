-- `part_of`: the arms are the lines of each symbology; these mean its parts by computation, and where no arm is, there is none.
-- Assumes nothing.
-- ---- the lines of each symbology
-- ---- what they mean
-- ---- an arm, and none
use Rattle.std.proofs.Common.{rules, ◌≡◌, refl, sym, ◌∙◌, inl, inr, ◌⊎◌, Bool, true, false, List, [], ◌∷◌, map, ℕ, zero, suc, zero-le, ◌<◌, ◌≤◌, arith, length, get_or}
use lib.ListN.{get_or-eq_default}
use Rattle.tables.specs.Alphabet.{rows_of, bits_of}
use Rattle.tables.specs.Code39.{rows39, star39, alphabet39, chars39, table42}
use Rattle.tables.specs.Codabar.{inner_rows, letter_rows, alphabet_codabar, table41}
use Rattle.tables.specs.TwoOfFive.{digit_rows, industrial_rows, industrial_start, industrial_stop, interleaved_rows, interleaved_start, interleaved_stop, matrix_rows, matrix_ends, alphabet_digits, table44}
use Rattle.tables.specs.Ean.{left_rows, odd_rows, even_rows, right_rows, patterns, table52, guard, centre}
use Rattle.symbologies.specs.Parts.{starred, lettering, industrial, interleaved, matrix, halved}
use Rattle.symbologies.specs.Symbologies.{symbologies, symbology_of}
use Rattle.shapes.specs.declared.parts.Mark.{Mark}
use Rattle.shapes.specs.declared.parts.Unit.{Unit}
use Rattle.shapes.specs.declared.parts.Count.{Count}
use Rattle.shapes.specs.declared.parts.Count.TheVariants.{Of, All, Inner, Half}
use Rattle.shapes.specs.declared.parts.Part.{Part as Line}
use Rattle.shapes.specs.Sets.{sets39, sets_codabar, sets_industrial, sets_digits, sets_ean, sets_of}
use Rattle.shapes.specs.Searched.{digit_in, ten_of}
use Rattle.shapes.specs.Described.{part_in, sound, closed, nothing, line_at, halves, readable, Describes}
use Rattle.shapes.proofs.Lines.{all_lines, described}
use Rattle.shapes.proofs.parts.part_of.Goals as goal
use Rattle.shapes.proofs.parts.part_of.Goals.{in_default-via-in-3+in_default, in_default-via-in-4+in_default, in_default-via-in-5+in_default, in_default-via-in-6+in_default, in_default-via-in-7+in_default, in_default-via-in-8+in_default, in_default-via-in-9+in_default, in_default-via-in_default+then-this-lt1, in_default-via-in_default+else-this-lt1+then-this-lt3+in_default-this-7, in_default-via-in_default+else-this-lt1+else-this-lt3}

abbrev mark : Bool → ℕ → ℕ → Mark
mark g k w = record { gap = g; elements = k; word = w }

abbrev unit : Bool → ℕ → ℕ → ℕ → Unit
unit g k s n = record { gap = g; elements = k; set = s; size = n }

abbrev between : Mark → Count → Unit → Mark → List Line
between m c u stop = record { mark = m; count = c; unit = u } ∷ closed stop ∷ []

abbrev lines39 : List Line
lines39 = between (mark false 9 0x1103010301010301) All (unit true 9 0 43) (mark true 9 0x1103010301010301)

abbrev letters : Count → Unit → Line
letters c u = record { mark = mark false 0 0; count = c; unit = u }

abbrev all_of : List (List Line)
all_of =
    []
    ∷ lines39
    ∷ lines39
    ∷ (letters (Of 1) (unit false 7 2 4) ∷ letters Inner (unit true 7 0 16) ∷ letters (Of 1) (unit true 7 2 4) ∷ [])
    ∷ between (mark false 5 0x0101030103) All (unit true 9 0 10) (mark true 5 0x0301010103)
    ∷ between (mark false 4 0x01010101) Half (unit false 10 0 100) (mark false 3 0x010103)
    ∷ between (mark false 5 0x0101010103) All (unit true 5 0 10) (mark true 5 0x0101010103)
    ∷ halves 6 20
    ∷ halves 4 10
    ∷ halves 6 10
    ∷ []

unfoldable lines_of : ℕ → List Line
lines_of s = get_or all_of s []

abbrev Meant : ℕ → Type 0
Meant s = (i : ℕ) → Describes (sets_of s) (symbology_of s).parts i (line_at (lines_of s) i)

by : (s : ℕ) → map (part_in (sets_of s)) (lines_of s) ≡ (symbology_of s).parts → all_lines (sound (length (sets_of s))) (lines_of s) ≡ true
    → all_lines (readable (sets_of s)) (lines_of s) ≡ true → Meant s
by s m t u i = described (sets_of s) (lines_of s) (symbology_of s).parts i (line_at (lines_of s) i) refl m t u

means : (s : ℕ) → Meant s
unfolding lines_of sets_of sets39 sets_codabar sets_industrial sets_digits sets_ean symbology_of symbologies starred lettering industrial interleaved matrix halved digit_in ten_of rows_of bits_of rows39 star39 alphabet39 chars39 table42 inner_rows letter_rows alphabet_codabar table41 digit_rows industrial_rows industrial_start industrial_stop interleaved_rows interleaved_start interleaved_stop matrix_rows matrix_ends alphabet_digits table44 left_rows odd_rows even_rows right_rows patterns table52 guard centre
means zero = by 0 refl refl refl
means (suc zero) = by 1 refl refl refl
means (suc (suc zero)) = by 2 refl refl refl
means (suc (suc (suc zero))) = by 3 refl refl refl
means (suc (suc (suc (suc zero)))) = by 4 refl refl refl
means (suc (suc (suc (suc (suc zero))))) = by 5 refl refl refl
means (suc (suc (suc (suc (suc (suc zero)))))) = by 6 refl refl refl
means (suc (suc (suc (suc (suc (suc (suc zero))))))) = by 7 refl refl refl
means (suc (suc (suc (suc (suc (suc (suc (suc zero)))))))) = by 8 refl refl refl
means (suc (suc (suc (suc (suc (suc (suc (suc (suc zero))))))))) = by 9 refl refl refl
means (suc (suc (suc (suc (suc (suc (suc (suc (suc (suc s)))))))))) = by (suc (suc (suc (suc (suc (suc (suc (suc (suc (suc s)))))))))) refl refl refl

arm : (s i k j : ℕ) (r : Line) → s ≡ k → i ≡ j → r ≡ line_at (lines_of k) j → Describes (sets_of s) (symbology_of s).parts i r
arm s i k j r e f q = rw (e, f, q) (means k j)

-- Code 39 with full ASCII and without
starred-arm : (s i j : ℕ) (r : Line) → 1 ≤ s → s < 3 → i ≡ j → r ≡ line_at lines39 j → Describes (sets_of s) (symbology_of s).parts i r
unfolding lines_of
starred-arm zero i j r l h f q = absurd (omega arith)
starred-arm (suc zero) i j r l h f q = arm 1 i 1 j r refl f q
starred-arm (suc (suc zero)) i j r l h f q = arm 2 i 2 j r refl f q
starred-arm (suc (suc (suc s))) i j r l h f q = absurd (omega arith)

none : (s i k : ℕ) (r : Line) → s ≡ k → length (lines_of k) ≤ i → r ≡ nothing → Describes (sets_of s) (symbology_of s).parts i r
unfolding line_at
none s i k r e h q =
    let f : r ≡ line_at (lines_of k) i = q ∙ sym (get_or-eq_default (lines_of k) nothing h) in
    arm s i k i r e refl f

starred-none : (s i : ℕ) (r : Line) → 1 ≤ s → s < 3 → 2 ≤ i → r ≡ nothing → Describes (sets_of s) (symbology_of s).parts i r
unfolding line_at
starred-none s i r l h m q = starred-arm s i i r l h refl (q ∙ sym (get_or-eq_default lines39 nothing m))

beyond : (s i : ℕ) (r : Line) → 10 ≤ s → r ≡ nothing → Describes (sets_of s) (symbology_of s).parts i r
unfolding lines_of
beyond s i r h q =
    let e : lines_of s ≡ [] = get_or-eq_default all_of [] h in
    none s i s r refl (rw e zero-le) q

pub returns-in-3-eq0 : goal.returns-in-3-eq0
unfolding line_at lines_of
returns-in-3-eq0 c = arm _ _ 3 0 _ c.in-3-eq0.is-0 c.in-3-eq0.is-1 (rw (c.new.ensures, c.new-in-3-eq0.ensures) at c.line.ensures)

pub returns-in-3-eq1 : goal.returns-in-3-eq1
unfolding line_at lines_of
returns-in-3-eq1 c = arm _ _ 3 1 _ c.in-3-eq1.is-0 c.in-3-eq1.is-1 (rw (c.new-in-3-eq1.ensures, c.parted.ensures, c.new-in-3-eq1-2.ensures) at c.line-in-3-eq1.ensures)

pub returns-in-3-eq2 : goal.returns-in-3-eq2
unfolding line_at lines_of
returns-in-3-eq2 c = arm _ _ 3 2 _ c.in-3-eq2.is-0 c.in-3-eq2.is-1 (rw (c.new-in-3-eq2.ensures, c.parted-in-3-eq2.ensures, c.new-in-3-eq2-2.ensures) at c.line-in-3-eq2.ensures)

pub returns-in-4-eq0 : goal.returns-in-4-eq0
unfolding line_at lines_of
returns-in-4-eq0 c = arm _ _ 4 0 _ c.in-4-eq0.is-0 c.in-4-eq0.is-1 (rw (c.new-in-4-eq0.ensures, c.parted-in-4-eq0.ensures, c.new-in-4-eq0-2.ensures) at c.line-in-4-eq0.ensures)

pub returns-in-4-eq1 : goal.returns-in-4-eq1
unfolding line_at lines_of
returns-in-4-eq1 c = arm _ _ 4 1 _ c.in-4-eq1.is-0 c.in-4-eq1.is-1 (rw (c.parted-in-4-eq1.ensures, c.new-in-4-eq1.ensures) at c.close.ensures)

pub returns-in-5-eq0 : goal.returns-in-5-eq0
unfolding line_at lines_of
returns-in-5-eq0 c = arm _ _ 5 0 _ c.in-5-eq0.is-0 c.in-5-eq0.is-1 (rw (c.new-in-5-eq0.ensures, c.new-in-5-eq0-2.ensures) at c.line-in-5-eq0.ensures)

pub returns-in-5-eq1 : goal.returns-in-5-eq1
unfolding line_at lines_of
returns-in-5-eq1 c = arm _ _ 5 1 _ c.in-5-eq1.is-0 c.in-5-eq1.is-1 (rw c.new-in-5-eq1.ensures at c.close-in-5-eq1.ensures)

pub returns-in-6-eq0 : goal.returns-in-6-eq0
unfolding line_at lines_of
returns-in-6-eq0 c = arm _ _ 6 0 _ c.in-6-eq0.is-0 c.in-6-eq0.is-1 (rw (c.new-in-6-eq0.ensures, c.parted-in-6-eq0.ensures, c.new-in-6-eq0-2.ensures) at c.line-in-6-eq0.ensures)

pub returns-in-6-eq1 : goal.returns-in-6-eq1
unfolding line_at lines_of
returns-in-6-eq1 c = arm _ _ 6 1 _ c.in-6-eq1.is-0 c.in-6-eq1.is-1 (rw (c.parted-in-6-eq1.ensures, c.new-in-6-eq1.ensures) at c.close-in-6-eq1.ensures)

pub returns-in-7-eq0 : goal.returns-in-7-eq0
unfolding line_at lines_of
returns-in-7-eq0 c = arm _ _ 7 0 _ c.in-7-eq0.is-0 c.in-7-eq0.is-1 (rw (c.new-in-7-eq0.ensures, c.new-in-7-eq0-2.ensures) at c.line-in-7-eq0.ensures)

pub returns-in-8-eq0 : goal.returns-in-8-eq0
unfolding line_at lines_of
returns-in-8-eq0 c = arm _ _ 8 0 _ c.in-8-eq0.is-0 c.in-8-eq0.is-1 (rw (c.new-in-8-eq0.ensures, c.new-in-8-eq0-2.ensures) at c.line-in-8-eq0.ensures)

pub returns-in-8-eq1 : goal.returns-in-8-eq1
unfolding line_at lines_of
returns-in-8-eq1 c = arm _ _ 8 1 _ c.in-8-eq1.is-0 c.in-8-eq1.is-1 (rw (c.new-in-8-eq1.ensures, c.new-in-8-eq1-2.ensures) at c.line-in-8-eq1.ensures)

pub returns-in-9-eq0 : goal.returns-in-9-eq0
unfolding line_at lines_of
returns-in-9-eq0 c = arm _ _ 9 0 _ c.in-9-eq0.is-0 c.in-9-eq0.is-1 (rw (c.new-in-9-eq0.ensures, c.new-in-9-eq0-2.ensures) at c.line-in-9-eq0.ensures)

pub returns-in-1-eq0 : goal.returns-in-1-eq0
unfolding line_at lines_of
returns-in-1-eq0 c = starred-arm _ _ 0 _ (omega arith) (omega arith) (omega arith) (rw (c.new-in-1-eq0.ensures, c.parted-in-1-eq0.ensures, c.new-in-1-eq0-2.ensures) at c.line-in-1-eq0.ensures)

pub returns-in-1-eq1 : goal.returns-in-1-eq1
unfolding line_at lines_of
returns-in-1-eq1 c = starred-arm _ _ 1 _ (omega arith) (omega arith) (omega arith) (rw (c.parted-in-1-eq1.ensures, c.new-in-1-eq1.ensures) at c.close-in-1-eq1.ensures)

pub returns-in-7-eq2 : goal.returns-in-7-eq2
unfolding line_at lines_of
returns-in-7-eq2 c =
    let e = (rw c.new-in-7-eq2.ensures at c.close-in-7-eq2.ensures) in
    let k : (c.args.symbology ≡ 7) ⊎ ((c.args.symbology ≡ 8) ⊎ (c.args.symbology ≡ 9)) = search rules in
    let i : c.args.i ≡ 2 = search rules in
    elim k [ inl f ↦ arm _ _ 7 2 _ f i e | inr g ↦ elim g [ inl f ↦ arm _ _ 8 2 _ f i e | inr f ↦ arm _ _ 9 2 _ f i e ] ]

pub returns-in-7-eq1 : goal.returns-in-7-eq1
unfolding line_at lines_of
returns-in-7-eq1 c =
    let e = (rw (c.new-in-7-eq1.ensures, c.new-in-7-eq1-2.ensures) at c.line-in-7-eq1.ensures) in
    let k : (c.args.symbology ≡ 7) ⊎ (c.args.symbology ≡ 9) = search rules in
    let i : c.args.i ≡ 1 = search rules in
    elim k [ inl f ↦ arm _ _ 7 1 _ f i e | inr f ↦ arm _ _ 9 1 _ f i e ]

pub returns-in_default : goal.returns-in_default
unfolding lines_of
returns-in_default c =
    let e = rw c.new-in_default.ensures at c.close-in_default.ensures in
    elim c.in_default.branch [
      | in_default-via-in-3+in_default w ↦ none _ _ 3 _ (omega arith) (omega arith) e
      | in_default-via-in-4+in_default w ↦ none _ _ 4 _ (omega arith) (omega arith) e
      | in_default-via-in-5+in_default w ↦ none _ _ 5 _ (omega arith) (omega arith) e
      | in_default-via-in-6+in_default w ↦ none _ _ 6 _ (omega arith) (omega arith) e
      | in_default-via-in-7+in_default w ↦ none _ _ 7 _ (omega arith) (omega arith) e
      | in_default-via-in-8+in_default w ↦ none _ _ 8 _ (omega arith) (omega arith) e
      | in_default-via-in-9+in_default w ↦ none _ _ 9 _ (omega arith) (omega arith) e
      | in_default-via-in_default+then-this-lt1 w ↦ none _ _ 0 _ (omega arith) (omega arith) e
      | in_default-via-in_default+else-this-lt1+then-this-lt3+in_default-this-7 w ↦ starred-none _ _ _ (omega arith) (omega arith) (omega arith) e
      | in_default-via-in_default+else-this-lt1+else-this-lt3 w ↦ beyond _ _ _ (omega arith) e
    ]
