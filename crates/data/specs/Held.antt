-- How lists stand in the structs of src/.
--
--   Front, front_of   the item that characters begin with: its byte, 256 where none draws it, and its width
--   held, item_of     the same as the code holds it, if a byte draws it; width_of, its width alone; paired_at, whether it is a pair
--   MeasuredAs       what characters spell, as the code holds it, or where they stop; Written, they spell data that fit
--   read_data         the data of a row whose count is given, behind 12, 7
--   data_of_row        a row's data: of its first `len` places
--   handed_of, written    the answer, 8 where the lent buffer has less room, and the buffer afterwards
use Rattle.std.specs.Prelude.{◌≡◌, Bool, true, false, Option, Some, None, List, [], ◌∷◌, ◌++◌, Result, Ok, Err, ℕ, ◌≤◌, ltb, length, take, drop}
use Rattle.laws.specs.Search.{pick, some_if}
use Rattle.laws.specs.Units.{found, stopped}
use Rattle.laws.specs.Spelling.{ends, stands, Coder, byte_for, unspell}
use Rattle.words.specs.declared.Answer.{Answer}
use Rattle.words.specs.declared.Answer.TheVariants.{ShortForData}
use Rattle.words.specs.declared.Bytes.{Bytes}
use Rattle.words.specs.declared.CharPlace.{CharPlace}
use Rattle.words.specs.Order.{Outcome, gives, turned, outcome, byte_count}
use Rattle.symbologies.specs.declared.row.Row.{Row}
use Rattle.symbologies.specs.Symbologies.{Symbology}
use Rattle.symbologies.specs.Rows.{data_read, data_checks, data_of_count}
use Rattle.sums.specs.Sums.{others_in, Checks}
use Rattle.data.specs.declared.items.Item.{Item}
use Rattle.data.specs.declared.items.Measured.{Measured}

-- whether characters begin with a pair
abbrev pub paired_at : Coder → List ℕ → Bool
paired_at k [] = false
paired_at k (c ∷ []) = false
paired_at k (c ∷ d ∷ cs) = k.shift (ends cs) c

pub record Front : Type 0 where
  pub byte : ℕ
  pub width : ℕ

-- the item at the front of characters: its byte and its width
abbrev pub front_of : Coder → Bool → List ℕ → Front
front_of k start [] = record { byte = 256; width = 1 }
front_of k start (c ∷ []) = record { byte = byte_for k (stands start []) (c ∷ []); width = 1 }
front_of k start (c ∷ d ∷ cs) =
    pick (k.shift (ends cs) c) (record { byte = byte_for k (stands start cs) (c ∷ d ∷ []); width = 2 }) (record { byte = byte_for k (stands start (d ∷ cs)) (c ∷ []); width = 1 })

abbrev pub held : Front → Option Item
held f = pick (ltb f.byte 256) (Some (record { byte = f.byte; width = f.width })) None

abbrev pub item_of : Coder → Bool → List ℕ → Option Item
item_of k start cs = held (front_of k start cs)

-- how many characters it has, if a byte draws it
abbrev pub width_of : Coder → Bool → List ℕ → Option ℕ
width_of k start cs = some_if (ltb (front_of k start cs).byte 256) (front_of k start cs).width

pub record MeasuredAll (y : Symbology) (m : ℕ) (cs : List ℕ) (r : Measured) : Type 0 where
  pub text : List ℕ
  pub is : unspell (y.coder m) true 0 cs ≡ found text
  pub bytes : r.bytes ≡ length text
  pub sum : Checks y.rule (others_in m cs) r.sum

abbrev pub MeasuredAs : Symbology → ℕ → List ℕ → Result Measured CharPlace → Type 0
MeasuredAs y m cs (Ok r) = MeasuredAll y m cs r
MeasuredAs y m cs (Err at) = unspell (y.coder m) true 0 cs ≡ stopped at.0

pub record Written (k : Coder) (cs : List ℕ) (room : ℕ) : Type 0 where
  pub text : List ℕ
  pub is : unspell k true 0 cs ≡ found text
  pub fits : length text ≤ room

-- ---- what the calls answer

unfoldable pub read_data : Symbology → ℕ → List ℕ → Outcome
read_data y m r = outcome (data_checks y m r) (data_read y m r)

unfoldable pub data_of_row : ℕ → ℕ → Row → Outcome
data_of_row s m row = data_of_count s m row.len (take row.len row.codes)

abbrev pub handed_of : Outcome → ℕ → Result Bytes Answer
handed_of (gives d) room = pick (ltb room (length d)) (Err (ShortForData (byte_count (length d)))) (Ok (byte_count (length d)))
handed_of (turned a) room = Err a

-- the buffer afterwards: the data and what stood behind them, or, on every refusal, what stood there
abbrev pub written : Outcome → List ℕ → List ℕ
written (gives d) out = pick (ltb (length out) (length d)) out (d ++ drop (length d) out)
written (turned a) out = out
