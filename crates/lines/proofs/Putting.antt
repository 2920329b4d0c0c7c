-- Numbers and widths, written digit by digit.
--
--   digits-start, digits-more    the loop over a number's digits, from the last
--   widths-more    the loop over widths
--
-- Assumes nothing.
use Rattle.std.proofs.Common.{◌≡◌, sym, ap, ◌∙◌, List, ◌∷◌, ◌++◌, append-nil, append_assoc, ℕ, suc, ◌+◌, ◌/◌, ◌%◌, ◌<◌, arith, add-one, length, get_or, take, drop, set, drop_of_length-le, take-suc, drop_at, take-suc-set, length-take-le}
use Rattle.std.proofs.lemmas.List.{map-append, set_split}
use Rattle.lines.specs.Text.{decimal, widths}
use Rattle.lines.proofs.Digits.{fixed, digits-fixed}

-- ---- digits, from the last: what is to come stands before what is written

drop-set : (l : List ℕ) (i a : ℕ) → i < length l → drop i (set l i a) ≡ a ∷ drop (suc i) l
drop-set l i a h = ap (drop i) (set_split l i a h) ∙ drop_at (take i l) (a ∷ drop (suc i) l) i (length-take-le i l (omega arith))

pub digits-start : (digits : List ℕ) (n : ℕ) → length digits ≡ length (decimal n) → fixed (length digits) n ++ drop (length digits) digits ≡ decimal n
digits-start digits n e = rw (drop_of_length-le digits {i = length digits} (omega arith), append-nil, e) (sym (digits-fixed n))

pub digits-more : (digits goal : List ℕ) (i left : ℕ) → i < length digits → fixed (suc i) left ++ drop (suc i) digits ≡ goal
    → fixed i (left / 10) ++ drop i (set digits i (48 + left % 10)) ≡ goal
digits-more digits goal i left h e = rw (drop-set digits i (48 + left % 10) h) (rw append_assoc at e)

-- ---- widths, from the first

pub widths-more : (digits strip : List ℕ) (i : ℕ) → i < length digits → i < length strip → take i digits ≡ widths (take i strip)
    → take (i + 1) (set digits i (48 + get_or strip i 0)) ≡ widths (take (i + 1) strip)
widths-more digits strip i h l e =
    rw (add-one i, take-suc-set digits i (48 + get_or strip i 0) h, take-suc strip i 0 l, map-append, e)
