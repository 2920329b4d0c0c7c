-- What each byte draws where it stands, as values of its alphabet, and what may stand there (document 01, "What is drawn and what is
-- read", "Two-width strips", "Full ASCII").
--
--   single         a character, if the test passes
--   anywhere       the allowed set is the whole alphabet, at every place
--   placed         Codabar's places: at the ends the letters A, B, C, D, inside the others; lettered, by the place
--   alphabetic     each character of an alphabet draws itself, where it may stand
--   plain          everywhere
--   codabar_coder   by Codabar's places
--   shifts         / + and %, which begin a pair
--   full_coder      full ASCII: the drawing codes of 10.1.3
--   raw_coder       the same but for the last byte, which is a raw character; no pair reaches it
--   full           in mode 1 the last byte is the check, a raw character
use Rattle.std.specs.Prelude.{Bool, false, ◌&&◌, not, List, [], ◌∷◌, map, ℕ, eqb, ltb, leb}
use Rattle.laws.specs.Search.{pick, index_in}
use Rattle.laws.specs.Spelling.{Place, is_end, Coder}
use Rattle.tables.specs.Printed.{text}
use Rattle.tables.specs.Alphabet.{Alphabet, size, value_of}
use Rattle.tables.specs.Code39.{alphabet39}
use Rattle.tables.specs.Codabar.{alphabet_codabar}
use Rattle.tables.specs.FullAscii.{drawing}

abbrev pub single : Bool → ℕ → List ℕ
single ok v = pick ok (v ∷ []) []

abbrev pub anywhere : Alphabet → Place → ℕ → Bool
anywhere a p v = ltb v (size a)

abbrev pub placed : Bool → ℕ → Bool
placed end v = pick end (leb 16 v && ltb v 20) (ltb v 16)

abbrev pub lettered : Place → ℕ → Bool
lettered p v = placed (is_end p) v

abbrev pub alphabetic : Alphabet → (Place → ℕ → Bool) → Coder
alphabetic a allowed = record { drawn = λ p b. single (allowed p (value_of a b)) (value_of a b); shift = λ end c. false }

unfoldable pub plain : Alphabet → Coder
plain a = alphabetic a (anywhere a)

unfoldable pub codabar_coder : Coder
codabar_coder = alphabetic alphabet_codabar lettered

unfoldable pub shifts : List ℕ
shifts = map (value_of alphabet39) (text "/+%")

unfoldable pub full_coder : Coder
full_coder = record {
  drawn = λ p b. map (value_of alphabet39) (drawing b);
  shift = λ end c. ltb (index_in shifts c) 3;
}

unfoldable pub raw_coder : Coder
raw_coder = record {
  drawn = λ p b. pick p.last ((plain alphabet39).drawn p b) (full_coder.drawn p b);
  shift = λ end c. not end && full_coder.shift end c;
}

abbrev pub full : ℕ → Coder
full m = pick (eqb m 1) raw_coder full_coder
