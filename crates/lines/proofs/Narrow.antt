-- No element that a record's drawing leaves in its room is wider than 4 modules, so that each is a digit.
--
--   all            a test that every entry of a list passes; `all-at`, `all_both`, `all_drop`
--   narrow         no width of a row is above 4
--   narrow-strip, narrow-parts, narrow-lines    so it is for strips whose kinds' rows are narrow, for parts of such, and for every symbology
--   narrow-room    so it is for every record's room
--
-- Assumes nothing.
use Rattle.std.proofs.Common.{◌≡◌, refl, Bool, true, ◌&&◌, List, [], ◌∷◌, ◌++◌, ℕ, zero, suc, ◌≤◌, leb, length, get_or, take, drop, replicate, leb-true}
use Rattle.laws.specs.Units.{Kind, fixed, free, strip}
use Rattle.laws.specs.Shapes.{many}
use Rattle.laws.proofs.Finite.{both_left, both_right, both_true}
use Rattle.laws.proofs.Shapes.{holds-many}
use Rattle.tables.specs.Alphabet.{bits_of, rows_of}
use Rattle.tables.specs.Code39.{table42, chars39, alphabet39, rows39, star39}
use Rattle.tables.specs.Codabar.{table41, alphabet_codabar, inner_rows, letter_rows}
use Rattle.tables.specs.TwoOfFive.{table44, alphabet_digits, digit_rows, industrial_rows, industrial_start, industrial_stop, interleaved_rows, interleaved_start, interleaved_stop, matrix_rows, matrix_ends}
use Rattle.tables.specs.Ean.{table52, patterns, odd_rows, even_rows, left_rows, right_rows, guard, centre}
use Rattle.words.proofs.Order.{first-each}
use Rattle.symbologies.specs.Sizes.{longest}
use Rattle.symbologies.specs.Limits.{unknown}
use Rattle.symbologies.specs.Checks.{no_check}
use Rattle.symbologies.specs.Parts.{Part, each, part_units, starred, lettering, industrial, interleaved, matrix, halved}
use Rattle.symbologies.specs.Symbologies.{Symbology, digits, symbologies, symbology_of}
use Rattle.symbologies.specs.Rows.{row_drawn}
use Rattle.symbologies.specs.Strips.{elements_of, units_of, strip_of}
use Rattle.strip.specs.Drawing.{Call, refused, drawn, drawing_checks, draw_field}
use Rattle.lines.specs.Line.{call_of}

module _ {A : Type 0} (f : A → Bool) where
  abbrev all : List A → Bool
  all [] = true
  all (x ∷ xs) = let rest = all xs in f x && rest

  all-at : (xs : List A) (d : A) → all xs ≡ true → f d ≡ true → (i : ℕ) → f (get_or xs i d) ≡ true
  all-at [] d e g i = g
  all-at (x ∷ xs) d e g zero = both_left (f x) (all xs) e
  all-at (x ∷ xs) d e g (suc i) = all-at xs d (both_right (f x) (all xs) e) g i

  all_both : (xs ys : List A) → all xs ≡ true → all ys ≡ true → all (xs ++ ys) ≡ true
  all_both [] ys p q = q
  all_both (x ∷ xs) ys p q = both_true (f x) (all (xs ++ ys)) (both_left (f x) (all xs) p) (all_both xs ys (both_right (f x) (all xs) p) q)

  all_drop : (n : ℕ) (xs : List A) → all xs ≡ true → all (drop n xs) ≡ true
  all_drop zero xs p = p
  all_drop (suc n) [] p = p
  all_drop (suc n) (x ∷ xs) p = all_drop n xs (both_right (f x) (all xs) p)

-- ---- strips

abbrev narrow : List ℕ → Bool
narrow row = all (λ w. leb w 4) row

abbrev narrow_kind : Kind → Bool
narrow_kind (fixed r) = narrow r
narrow_kind (free k) = all narrow k

abbrev narrow_part : Part → Bool
narrow_part p = all narrow_kind p.mark && all narrow_kind p.unit

narrow-strip : (ks : List Kind) (cs : List ℕ) → all narrow_kind ks ≡ true → narrow (strip ks cs) ≡ true
narrow-strip [] cs e = refl
narrow-strip (fixed r ∷ ks) cs e =
    all_both (λ w. leb w 4) r (strip ks cs) (both_left (narrow r) (all narrow_kind ks) e) (narrow-strip ks cs (both_right (narrow r) (all narrow_kind ks) e))
narrow-strip (free k ∷ ks) [] e = refl
narrow-strip (free k ∷ ks) (c ∷ cs) e =
    all_both (λ w. leb w 4) (get_or k c []) (strip ks cs) (all-at narrow k [] (both_left (all narrow k) (all narrow_kind ks) e) refl c)
    (narrow-strip ks cs (both_right (all narrow k) (all narrow_kind ks) e))

narrow-parts : (n : ℕ) (ps : List Part) → all narrow_part ps ≡ true → all narrow_kind (part_units n ps) ≡ true
narrow-parts n [] e = refl
narrow-parts n (p ∷ ps) e =
    let h : narrow_part p ≡ true = both_left (narrow_part p) (all narrow_part ps) e in
    all_both narrow_kind p.mark (many (p.count n) p.unit (part_units n ps)) (both_left (all narrow_kind p.mark) (all narrow_kind p.unit) h)
    (holds-many (λ ks. all narrow_kind ks ≡ true) (all_both narrow_kind) (p.count n) p.unit (part_units n ps) (both_right (all narrow_kind p.mark) (all narrow_kind p.unit) h)
    (narrow-parts n ps (both_right (narrow_part p) (all narrow_part ps) e)))

-- every row of every table
narrow-lines : all (λ (y : Symbology). all narrow_part y.parts) symbologies ≡ true
unfolding symbologies starred lettering industrial interleaved matrix halved rows39 star39 inner_rows letter_rows digit_rows industrial_rows industrial_start industrial_stop interleaved_rows interleaved_start interleaved_stop matrix_rows matrix_ends odd_rows even_rows left_rows right_rows guard centre patterns rows_of bits_of alphabet39 chars39 table42 alphabet_codabar table41 alphabet_digits table44 table52
narrow-lines = refl

narrow-drawn : (s : ℕ) (r : List ℕ) → narrow (strip_of s r) ≡ true
unfolding strip_of units_of symbology_of
narrow-drawn s r =
    narrow-strip (units_of s (length r)) ((symbology_of s).shows.choices r)
    (narrow-parts (length r) (symbology_of s).parts (all-at (λ (y : Symbology). all narrow_part y.parts) symbologies (digits unknown no_check [] each) narrow-lines refl s))

-- ---- rooms

abbrev zeros : List ℕ
zeros = replicate longest 0

narrow-call : (s m count : ℕ) (field : List ℕ) → narrow (draw_field s m count field zeros).buffer ≡ true
unfolding draw_field
narrow-call s m count field =
    first-each (λ (c : Call). narrow c.buffer ≡ true) (refused zeros) (drawing_checks s m count field zeros) (drawn s r zeros) (λ a. refl)
    (all_both (λ w. leb w 4) (strip_of s r) (drop (elements_of s (length r)) zeros) (narrow-drawn s r) (all_drop (λ w. leb w 4) (elements_of s (length r)) zeros refl))
  where
    r : List ℕ
    r = row_drawn (symbology_of s) m (take count field)

pub narrow-room : (symbology mode count : ℕ) (field : List ℕ) (i : ℕ) → get_or (call_of symbology mode count field).buffer i 0 ≤ 4
unfolding call_of
narrow-room symbology mode count field i =
    leb-true (get_or (call_of symbology mode count field).buffer i 0) 4 (all-at (λ w. leb w 4) (call_of symbology mode count field).buffer 0 (narrow-call symbology mode count field) refl i)
