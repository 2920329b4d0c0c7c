-- The calls' answers are those of the lists that their definitions are made of (demand 1: "Bad input is turned away with the number that
-- the table in document 01 gives for it, in the order given there").
--
--   read-numbers, draw-numbers    the lists' numbers, in the document's words
--   read_first, draw-first        the first that applies is the answer, and none is given otherwise
--   read-refusals, draw-refusals  none of these numbers is 0
--   draw-none, read_none          so an answer of number 0 passed every check
--   kept                          and every other leaves the buffer as it was
--
-- Assumes nothing.
use Rattle.std.proofs.Common.{◌≡◌, refl, ◌≢◌, Bool, true, false, List, [], ◌∷◌, map, ℕ, arith, take}
use Rattle.laws.specs.Search.{pick}
use Rattle.words.specs.Said.{said_of}
use Rattle.words.specs.Order.{Check, first_of}
use Rattle.words.proofs.Order.{first-through, None, Refusals, zero-none}
use Rattle.strip.specs.Drawing.{Call, refused, drawing_checks, draw_field, drawn_answer}
use Rattle.strip.specs.Reading.{reading_checks, read_strip, handed_answer}

-- "Reading checks 1, 2, 9, 10, 11, 12, 7, 8."
pub read-numbers : (s m : ℕ) (t out : List ℕ) → map (λ (c : Check). (said_of c.answer).number) (reading_checks s m t out) ≡ 1 ∷ 2 ∷ 9 ∷ 10 ∷ 11 ∷ 12 ∷ 7 ∷ 8 ∷ []
unfolding reading_checks
read-numbers s m t out = refl

-- "Drawing checks 1, 2, 3, 13, 4, 5, 6, 7, 8 in that order."
pub draw-numbers : (s m count : ℕ) (field out : List ℕ)
    → map (λ (c : Check). (said_of c.answer).number) (drawing_checks s m count field out) ≡ 1 ∷ 2 ∷ 3 ∷ 13 ∷ 4 ∷ 5 ∷ 6 ∷ 7 ∷ 8 ∷ []
unfolding drawing_checks
draw-numbers s m count field out = refl

-- ---- the first that applies

pub read_first : (s m : ℕ) (t out : List ℕ) → (read_strip s m t out).answer ≡ first_of (λ a. a) (reading_checks s m t out) (handed_answer s m t)
unfolding read_strip handed_answer
read_first s m t out = first-through (refused out) (λ (c : Call). c.answer) (reading_checks s m t out) _

pub draw-first : (s m count : ℕ) (field out : List ℕ)
    → (draw_field s m count field out).answer ≡ first_of (λ a. a) (drawing_checks s m count field out) (drawn_answer s m (take count field))
unfolding draw_field drawn_answer
draw-first s m count field out = first-through (refused out) (λ (c : Call). c.answer) (drawing_checks s m count field out) _

-- ---- numbers other than 0

abbrev Some : List ℕ → Type 0
Some [] = Unit {0}
Some (n ∷ ns) = (n ≢ 0) × Some ns

refusals : (cs : List Check) (ns : List ℕ) → map (λ (c : Check). (said_of c.answer).number) cs ≡ ns → Some ns → Refusals cs
refusals [] ns e s = tt
refusals (c ∷ cs) [] e s = let z : ◌≡◌ {A = ℕ} 0 1 = cc in absurd (omega arith)
refusals (c ∷ cs) (n ∷ ns) e s =
    let p : (said_of c.answer).number ≡ n = cc in
    let q : map (λ (c : Check). (said_of c.answer).number) cs ≡ ns = cc in
    (rw p s.0, refusals cs ns q s.1)

read-refusals : (s m : ℕ) (t out : List ℕ) → Refusals (reading_checks s m t out)
read-refusals s m t out =
    refusals (reading_checks s m t out) _ (read-numbers s m t out)
    (omega arith, (omega arith, (omega arith, (omega arith, (omega arith, (omega arith, (omega arith, (omega arith, tt))))))))

draw-refusals : (s m count : ℕ) (field out : List ℕ) → Refusals (drawing_checks s m count field out)
draw-refusals s m count field out =
    refusals (drawing_checks s m count field out) _ (draw-numbers s m count field out)
    (omega arith, (omega arith, (omega arith, (omega arith, (omega arith, (omega arith, (omega arith, (omega arith, (omega arith, tt)))))))))

pub draw-none : (s m count : ℕ) (field out : List ℕ) → (said_of (draw_field s m count field out).answer).number ≡ 0 → None (drawing_checks s m count field out)
draw-none s m count field out e = zero-none (drawing_checks s m count field out) _ (draw-refusals s m count field out) (rw (draw-first s m count field out) at e)

pub read_none : (s m : ℕ) (t out : List ℕ) → (said_of (read_strip s m t out).answer).number ≡ 0 → None (reading_checks s m t out)
read_none s m t out e = zero-none (reading_checks s m t out) _ (read-refusals s m t out) (rw (read_first s m t out) at e)

-- ---- the buffer

pub kept : (out : List ℕ) (cs : List Check) (z : Call) → (said_of z.answer).number ≡ 0 → (said_of (first_of (refused out) cs z).answer).number ≢ 0 → (first_of (refused out) cs z).buffer ≡ out
kept out [] z e n = absurd (n e)
kept out (c ∷ cs) z e n = go c.applies (kept out cs z e) n
  where
    go : (b : Bool) → ((said_of (first_of (refused out) cs z).answer).number ≢ 0 → (first_of (refused out) cs z).buffer ≡ out)
        → (said_of (pick b (refused out c.answer) (first_of (refused out) cs z)).answer).number ≢ 0 → (pick b (refused out c.answer) (first_of (refused out) cs z)).buffer ≡ out
    go true f n = refl
    go false f n = f n
