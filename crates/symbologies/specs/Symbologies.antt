-- The nine symbologies, a line of document 01's table each: a symbology is data.
--
--   Symbology     what its modes take, which counts may be drawn and how many elements they have (`Limits`); its alphabet; what may stand
--                 at a place of its row; what a byte draws where it stands, by mode; its check rule; the parts of its strip; which row each
--                 free unit shows; and what a character has less than the most modules
--   code39, digits   the two of Code 39, and those that draw digits
--   symbologies, symbology_of   by number; any other number is unknown
use Rattle.std.specs.Prelude.{Bool, true, false, List, [], ◌∷◌, ℕ, ltb, get_or}
use Rattle.laws.specs.Search.{pick}
use Rattle.laws.specs.Spelling.{Place, Coder}
use Rattle.laws.specs.Rules.{Rule}
use Rattle.tables.specs.Alphabet.{Alphabet}
use Rattle.tables.specs.Code39.{alphabet39}
use Rattle.tables.specs.Codabar.{alphabet_codabar}
use Rattle.tables.specs.TwoOfFive.{alphabet_digits}
use Rattle.tables.specs.Ean.{odd_rows, left_rows}
use Rattle.symbologies.specs.declared.limits.Limits.{Limits}
use Rattle.symbologies.specs.Sizes.{places}
use Rattle.symbologies.specs.Limits.{◌to◌, none, takes, unknown}
use Rattle.symbologies.specs.Coders.{anywhere, lettered, plain, codabar_coder, full}
use Rattle.symbologies.specs.Checks.{by43, right10, no_check}
use Rattle.symbologies.specs.Parts.{Part, starred, lettering, industrial, interleaved, matrix, halved, Shows, each, letters, pairs, parity}

pub record Symbology : Type 0 where
  pub limits : Limits
  pub alphabet : Alphabet
  pub allowed : Place → ℕ → Bool
  pub coder : ℕ → Coder
  pub rule : Rule
  pub parts : List Part
  pub shows : Shows
  pub less : ℕ → ℕ

abbrev pub code39 : Limits → (ℕ → Coder) → Symbology
code39 l k = record { limits = l; alphabet = alphabet39; allowed = anywhere alphabet39; coder = k; rule = by43; parts = starred; shows = each; less = λ c. 0 }

-- 12 modules for each digit, - or $, whose values are 0 to 11, 14 for each other character, less 1
abbrev pub codabar : Symbology
codabar = record {
  limits = takes (3 to 34) none none false places (8, 0) (14, 0);
  alphabet = alphabet_codabar;
  allowed = lettered;
  coder = λ m. codabar_coder;
  rule = no_check;
  parts = lettering;
  shows = letters;
  less = λ c. pick (ltb c 12) 2 0;
}

abbrev pub digits : Limits → Rule → List Part → Shows → Symbology
digits l r ps f = record {
  limits = l;
  alphabet = alphabet_digits;
  allowed = anywhere alphabet_digits;
  coder = λ m. plain alphabet_digits;
  rule = r;
  parts = ps;
  shows = f;
  less = λ c. 0;
}

-- 10n+19 elements and 16(n+2)-1 modules; 8n-1; 10n+11 and 14n+19; 5n+7 and 9n+9; 6n+11 and 10n+15; and for the 13, 8 and 12 characters of
-- EAN-13, EAN-8 and UPC-A 59, 43, 59 and 95, 67, 95 (proofs/Corners.antt)
unfoldable pub symbologies : List Symbology
symbologies =
    digits unknown no_check [] each
    ∷ code39 (takes (1 to 32) (2 to 32) (1 to 31) false places (10, 20) (16, 32)) (λ m. plain alphabet39)
    ∷ code39 (takes (1 to 32) (2 to 32) (1 to 31) false 32 (10, 20) (16, 32)) full
    ∷ codabar
    ∷ digits (takes (1 to 32) (2 to 32) (1 to 31) false places (10, 12) (14, 20)) right10 industrial each
    ∷ digits (takes (1 to 32) (2 to 32) (1 to 31) true places (5, 8) (9, 10)) right10 interleaved pairs
    ∷ digits (takes (1 to 32) (2 to 32) (1 to 31) false places (6, 12) (10, 16)) right10 matrix each
    ∷ digits (takes none (13 to 13) (12 to 12) false places (4, 8) (7, 5)) right10 (halved 6 left_rows) parity
    ∷ digits (takes none (8 to 8) (7 to 7) false places (4, 12) (7, 12)) right10 (halved 4 odd_rows) each
    ∷ digits (takes none (12 to 12) (11 to 11) false places (4, 12) (7, 12)) right10 (halved 6 odd_rows) each
    ∷ []

unfoldable pub symbology_of : ℕ → Symbology
symbology_of s = get_or symbologies s (digits unknown no_check [] each)
