-- Document 01's table: the modes of a symbology, how many data bytes each takes, which drawn counts there are, and how many elements
-- they have.
--
--   _to_, none      a count from .. to .., and a mode that is not offered
--   takes           what modes 0, 1 and 2 take, whether the drawn count must be even (5), how many characters may be drawn (6), and the
--                   elements and modules as step and base: a strip of n characters has one element less than step * n + more, and one
--                   module less than so many for each character and the rest
--   unknown         no symbology
--   least_of, most_of    the data bytes that a mode takes, at least and at most
--   offered         2: whether a mode is offered
--   holds           3: whether a mode takes so many data bytes
--   odd             5: whether the count must be even and is not
--   added           the check that mode 2 adds to the data
--   drawable        9: whether a mode can give so many drawn characters, where a byte draws one
--   elements_in      the elements of n characters; count_in, the characters of so many elements, 0 where no number of characters has them
use Rattle.std.specs.Prelude.{Bool, true, false, ◌&&◌, not, [], ◌∷◌, ℕ, ◌+◌, ◌*◌, ◌-◌, ◌/◌, ◌%◌, eqb, ltb, leb, get_or}
use Rattle.laws.specs.Search.{pick}
use Rattle.symbologies.specs.declared.limits.Limits.{Limits}
use Rattle.symbologies.specs.Sizes.{places}

infix 80 ◌to◌
abbrev pub ◌to◌ : ℕ → ℕ → ℕ × ℕ
least to most = (least, most)

abbrev pub none : ℕ × ℕ
none = 0 to 0

abbrev pub takes : ℕ × ℕ → ℕ × ℕ → ℕ × ℕ → Bool → ℕ → ℕ × ℕ → ℕ × ℕ → Limits
takes a b c even room elements modules = record {
  known = true;
  modes = a ∷ b ∷ c ∷ [];
  even = even;
  room = room;
  step = elements.0;
  more = elements.1;
  each = modules.0;
  rest = modules.1;
}

abbrev pub unknown : Limits
unknown = record { known = false; modes = none ∷ none ∷ none ∷ []; even = false; room = places; step = 1; more = 1; each = 0; rest = 0 }

abbrev pub least_of : Limits → ℕ → ℕ
least_of l m = (get_or l.modes m none).0

abbrev pub most_of : Limits → ℕ → ℕ
most_of l m = (get_or l.modes m none).1

abbrev pub offered : Limits → ℕ → Bool
offered l m = ltb 0 (most_of l m)

abbrev pub holds : Limits → ℕ → ℕ → Bool
holds l m n = leb (least_of l m) n && leb n (most_of l m)

abbrev pub odd : Limits → ℕ → Bool
odd l n = l.even && eqb (n % 2) 1

abbrev pub added : ℕ → ℕ
added m = pick (eqb m 2) 1 0

abbrev pub drawable : Limits → ℕ → ℕ → Bool
drawable l m n = holds l m (n - added m) && not (odd l n)

abbrev pub elements_in : Limits → ℕ → ℕ
elements_in l n = l.step * n + l.more - 1

unfoldable pub count_in : Limits → ℕ → ℕ
count_in l long =
    let n = (long + 1 - l.more) / l.step in
    pick (eqb (l.step * n + l.more) (long + 1)) n 0
