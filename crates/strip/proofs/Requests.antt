-- Requests and the strips they draw, over the definitions that the calls promise: what `Demands.antt` says of the calls stands here of
-- the definitions.
--
--   Draws          an accepted request draws a strip
--   draw-given, draw-turned                                  drawing, by the row of a field
--   field-whole, draw-whole, drew-row, drawn-is, drawn-counts     demand 2, drawing
--   read-given, read-turned                                  reading, by the data that are seen; seen-data, seen_as, by the row
--   read-exactly, read_whole, read-drawn                     demand 2, reading (`read-exactly` for the reader: both directions in one)
--   same_bytes, one-element, one-character                   demand 3; relaid-seen, of rows that are laid out anew
--   draw-keeps, data-keeps, read_keeps                       demand 1
--
-- Assumes nothing.
use Rattle.std.proofs.Common.{◌≡◌, refl, sym, ap, ◌∙◌, ◌≢◌, ◌↔◌, true, List, [], ◌∷◌, ℕ, ◌<◌, ◌≤◌, length, get_or, take, drop, set, length-set, take_at, le-ltb, lt-ltb}
use Rattle.laws.specs.Elements.{sum}
use Rattle.laws.specs.Units.{Fits}
use Rattle.laws.proofs.Spelling.{Below, below_set}
use Rattle.laws.proofs.Fitting.{at}
use Rattle.laws.proofs.Elements.{dist-set}
use Rattle.laws.proofs.Strips.{strip-far}
use Rattle.words.specs.declared.Answer.{Answer}
use Rattle.words.specs.Said.{said_of}
use Rattle.words.specs.Order.{first_of, gives, turned, outcome}
use Rattle.words.proofs.Order.{None, none-on, none-split, given, first-given, first-turned}
use Rattle.tables.specs.Alphabet.{size}
use Rattle.symbologies.specs.Limits.{drawable}
use Rattle.symbologies.specs.Symbologies.{Symbology, symbology_of}
use Rattle.symbologies.specs.Rows.{row_drawn, row_checks, row_of_field, row_of, data_read, data_checks, data_of_count, data_of}
use Rattle.symbologies.specs.Strips.{elements_of, units_of, strip_of, counted, ready, count_for, row_read, seen_checks, row_seen}
use Rattle.symbologies.proofs.Proper.{proper, undo}
use Rattle.symbologies.proofs.Undo.{Reads, reads}
use Rattle.symbologies.proofs.Catches.{replaced}
use Rattle.symbologies.proofs.Ready.{ready-counted, ready-below, free-set, below-allowed, no-codabar, drawn-ready, ready-fits, all-good}
use Rattle.symbologies.proofs.Totals.{elements, modules}
use Rattle.symbologies.proofs.Counting.{same_count}
use Rattle.symbologies.proofs.Shown.{Shown, shown-row}
use Rattle.symbologies.proofs.Exact.{ready-seen, drawn-seen, seen-drawn}
use Rattle.strip.specs.Drawing.{refused, drawn, short_for, drawing_checks, draw_field, draw_data}
use Rattle.strip.specs.Reading.{data_in, data_seen_checks, data_seen, short_data, reading_checks, handed, read_strip}
use Rattle.strip.proofs.Fields.{field-data}
use Rattle.strip.proofs.Order.{draw-none, read_none, kept}

-- an accepted request of symbology s and mode m: its data d draw the strip t
pub record Draws (s m : ℕ) (d t : List ℕ) : Type 0 where
  pub row : List ℕ
  pub accepted : row_of s m d ≡ gives row
  pub drawing : strip_of s row ≡ t

-- ---- demand 2: "The strip drawn is the one that the tables and check rules of sources 001 and 004, as fixed in document 01, lay down":
-- `strip_of` the row of the data, and nothing else is drawn.

module _ (s m count : ℕ) (field out : List ℕ) where
  pub draw-given : (r : List ℕ) → row_of_field s m count field ≡ gives r → draw_field s m count field out ≡ first_of (refused out) (short_for s r out ∷ []) (drawn s r out)
  unfolding draw_field drawing_checks row_of_field
  draw-given r e =
      first-given (refused out) (row_checks (symbology_of s) m count field) (λ x. short_for s x out ∷ []) (λ x. drawn s x out) (row_drawn (symbology_of s) m (take count field)) r e

  pub draw-turned : (a : Answer) → row_of_field s m count field ≡ turned a → draw_field s m count field out ≡ refused out a
  unfolding draw_field drawing_checks row_of_field
  draw-turned a e =
      let r : List ℕ = row_drawn (symbology_of s) m (take count field) in
      first-turned (refused out) (row_checks (symbology_of s) m count field) (short_for s r out ∷ []) r a (drawn s r out) e

  pub field-whole : (r : List ℕ) → row_of_field s m count field ≡ gives r → elements_of s (length r) ≤ length out → draw_field s m count field out ≡ drawn s r out
  field-whole r e l = draw-given r e ∙ rw (le-ltb (length out) (elements_of s (length r)) l)

pub draw-whole : (s m : ℕ) (d r out : List ℕ) → row_of s m d ≡ gives r → elements_of s (length r) ≤ length out → draw_data s m d out ≡ drawn s r out
unfolding draw_data row_of
draw-whole s m d r out e l = field-whole s m (length d) d out r e l

-- a call that answers 0 drew the row of its data
pub record Drew (s m count : ℕ) (field out : List ℕ) : Type 0 where
  pub row : List ℕ
  pub given-row : row_of_field s m count field ≡ gives row
  pub whole : draw_field s m count field out ≡ drawn s row out

pub drew-row : (s m count : ℕ) (field out : List ℕ) → (said_of (draw_field s m count field out).answer).number ≡ 0 → Drew s m count field out
unfolding drawing_checks row_of_field draw_field
drew-row s m count field out e =
    let y : Symbology = symbology_of s in
    let r : List ℕ = row_drawn y m (take count field) in
    let n : None (drawing_checks s m count field out) = draw-none s m count field out e in
    record {
      row = r;
      given-row = none-on turned (row_checks y m count field) (gives r) (none-split (row_checks y m count field) (short_for s r out ∷ []) n).0;
      whole = none-on (refused out) (drawing_checks s m count field out) (drawn s r out) n;
    }

-- so its first elements are a strip that the field's data draw
pub drawn-is : (s m count : ℕ) (field out : List ℕ) → (said_of (draw_field s m count field out).answer).number ≡ 0
    → Draws s m (take count field) (take (said_of (draw_field s m count field out).answer).count (draw_field s m count field out).buffer)
drawn-is s m count field out e =
    let w : Drew s m count field out = drew-row s m count field out e in
    let f : row_of s m (take count field) ≡ gives w.row = field-data s m count field w.row w.given-row in
    let h : ready s w.row ≡ true = drawn-ready s m (take count field) w.row f in
    record {
      row = w.row;
      accepted = f;
      drawing = rw (w.whole, take_at (strip_of s w.row) (drop (elements_of s (length w.row)) out) (elements_of s (length w.row)) (elements s w.row h));
    }

-- and its answer counts their number and totals their modules
pub drawn-counts : (s m count : ℕ) (field out : List ℕ) → (said_of (draw_field s m count field out).answer).number ≡ 0
    → ((said_of (draw_field s m count field out).answer).count
    ≡ length (take (said_of (draw_field s m count field out).answer).count (draw_field s m count field out).buffer))
    × ((said_of (draw_field s m count field out).answer).total
    ≡ sum (take (said_of (draw_field s m count field out).answer).count (draw_field s m count field out).buffer))
drawn-counts s m count field out e =
    let w : Drew s m count field out = drew-row s m count field out e in
    let h : ready s w.row ≡ true = drawn-ready s m (take count field) w.row (field-data s m count field w.row w.given-row) in
    let n : length (strip_of s w.row) ≡ elements_of s (length w.row) = elements s w.row h in
    rw (w.whole, take_at (strip_of s w.row) (drop (elements_of s (length w.row)) out) (elements_of s (length w.row)) n)
    (sym n, sym (modules s w.row h))

-- "The reader, told symbology and mode and lent room enough, hands back the data of the request that draws this strip,
-- and turns a strip away exactly if no accepted request of that symbology and mode draws it."

module _ (s m : ℕ) (t out : List ℕ) where
  pub read-given : (d : List ℕ) → data_seen s m t ≡ gives d → read_strip s m t out ≡ first_of (refused out) (short_data d out ∷ []) (handed t d out)
  unfolding read_strip reading_checks data_seen
  read-given d e = first-given (refused out) (data_seen_checks s m t) (λ x. short_data x out ∷ []) (λ x. handed t x out) (data_in s m t) d e

  pub read-turned : (a : Answer) → data_seen s m t ≡ turned a → read_strip s m t out ≡ refused out a
  unfolding read_strip reading_checks data_seen
  read-turned a e = first-turned (refused out) (data_seen_checks s m t) (short_data (data_in s m t) out ∷ []) (data_in s m t) a (handed t (data_in s m t) out) e

-- the data of a strip whose row is seen
pub seen-data : (s m : ℕ) (t r : List ℕ) → row_seen s m t ≡ gives r → data_seen s m t ≡ outcome (data_checks (symbology_of s) m r) (data_read (symbology_of s) m r)
unfolding row_seen data_seen
seen-data s m t r e =
    first-given turned (seen_checks s m t) (data_checks (symbology_of s) m) (λ x. gives (data_read (symbology_of s) m x)) (row_read s t) r e

-- 1, 2 and 9 have nothing against it
shown-data : (s m : ℕ) (t r : List ℕ) → Shown s m t r → data_of s m r ≡ outcome (data_checks (symbology_of s) m r) (data_read (symbology_of s) m r)
unfolding data_of data_of_count
shown-data s m t r w = rw (w.known, w.offers, w.can)

pub seen_as : (s m : ℕ) (t r : List ℕ) → row_seen s m t ≡ gives r → data_seen s m t ≡ data_of s m r
seen_as s m t r e = seen-data s m t r e ∙ sym (shown-data s m t r (shown-row s m t r e))

read_back : (s m : ℕ) (d t : List ℕ) → Draws s m d t → data_seen s m t ≡ gives d
read_back s m d t w = seen_as s m t w.row (rw (← w.drawing) (drawn-seen s m d w.row w.accepted)) ∙ (undo s m d w.row).0 w.accepted

draws-back : (s m : ℕ) (d t : List ℕ) → data_seen s m t ≡ gives d → Draws s m d t
unfolding data_seen
draws-back s m d t e =
    let n : None (seen_checks s m t) = (none-split (seen_checks s m t) (data_checks (symbology_of s) m (row_read s t)) (given (data_seen_checks s m t) _ d e).0).0 in
    let q : row_seen s m t ≡ gives (row_read s t) = unfold row_seen in none-on turned (seen_checks s m t) _ n in
    record {
      row = row_read s t;
      accepted = (undo s m d (row_read s t)).1 (sym (seen_as s m t (row_read s t) q) ∙ e);
      drawing = (seen-drawn s m t (row_read s t) q).1;
    }

pub read-exactly : (s m : ℕ) (d t : List ℕ) → (data_seen s m t ≡ gives d) ↔ Draws s m d t
read-exactly s m d t = (draws-back s m d t, read_back s m d t)

pub read_whole : (s m : ℕ) (d t out : List ℕ) → Draws s m d t → length d ≤ length out → read_strip s m t out ≡ handed t d out
read_whole s m d t out w l = read-given s m t out d (read_back s m d t w) ∙ rw (le-ltb (length out) (length d) l)

-- what is answered with 0 is a strip that a request draws
pub read-drawn : (s m : ℕ) (t out : List ℕ) → (said_of (read_strip s m t out).answer).number ≡ 0 → (d : List ℕ) × Draws s m d t
unfolding reading_checks data_seen
read-drawn s m t out e =
    let n : None (data_seen_checks s m t) = (none-split (data_seen_checks s m t) (short_data (data_in s m t) out ∷ []) (read_none s m t out e)).0 in
    (data_in s m t, draws-back s m (data_in s m t) t (none-on turned (data_seen_checks s m t) (gives (data_in s m t)) n))

-- ---- demand 3: "Within one symbology and mode two accepted requests draw the same strip only if their bytes are the same, zeros at the
-- front counted."

pub same_bytes : (s m : ℕ) (d e t : List ℕ) → Draws s m d t → Draws s m e t → d ≡ e
same_bytes s m d e t v w = let q : gives d ≡ gives e = sym (read_back s m d t v) ∙ read_back s m e t w in cc

-- "Any one element of a drawn strip changed to any other width: refused."

same-long : (s : ℕ) (q r : List ℕ) → ready s q ≡ true → ready s r ≡ true → length (strip_of s q) ≡ length (strip_of s r) → length q ≡ length r
same-long s q r h k e =
    let l : elements_of s (length q) ≡ elements_of s (length r) = sym (elements s q h) ∙ e ∙ elements s r k in
    sym (same_count s (length q) (ready-counted s q h)) ∙ ap (count_for s) l ∙ same_count s (length r) (ready-counted s r k)

pub one-element : (s m : ℕ) (d e t : List ℕ) (i w : ℕ) → Draws s m d t → i < length t → w ≢ get_or t i 0 → Draws s m e (set t i w) → ⊥
unfolding strip_of
one-element s m d e t i w v l n x =
    let h : ready s v.row ≡ true = drawn-ready s m d v.row v.accepted in
    let k : ready s x.row ≡ true = drawn-ready s m e x.row x.accepted in
    let o : length (strip_of s x.row) ≡ length (strip_of s v.row) = ap length x.drawing ∙ length-set t i w ∙ sym (ap length v.drawing) in
    let p : length x.row ≡ length v.row = same-long s x.row v.row k h o in
    let f : Fits (units_of s (length v.row)) ((symbology_of s).shows.choices x.row) = rw p at (ready-fits s x.row k) in
    strip-far (units_of s (length v.row)) ((symbology_of s).shows.choices v.row) ((symbology_of s).shows.choices x.row) (all-good s (length v.row)) (ready-fits s v.row h) f
    (rw (v.drawing, ← p, x.drawing) (dist-set t i w l n))

-- "Where there is a check character, any one drawn character replaced by another of its set: refused."

-- a row of as many characters of the set, laid out anew, is seen
module _ (s m : ℕ) (d r q : List ℕ) (n : m ≢ 0) (e : row_of s m d ≡ gives r) (l : length q ≡ length r) (b : Below (size (symbology_of s).alphabet) q) where
  row-read : Reads (symbology_of s) m d r
  row-read = reads s m d r ((undo s m d r).0 e)

  relaid-ready : ready s q ≡ true
  unfolding ready
  relaid-ready =
      let c : counted s (length q) ≡ true = rw l (ready-counted s r (drawn-ready s m d r e)) in
      rw (c, below-allowed s (no-codabar s m row-read.offers n) true q b)

  pub relaid-seen : row_seen s m (strip_of s q) ≡ gives q
  relaid-seen =
      let p : drawable (symbology_of s).limits m (length q) ≡ true = rw (l, row-read.count, row-read.paired) in
      ready-seen s m q row-read.known row-read.offers p relaid-ready

pub one-character : (s m : ℕ) (d e t : List ℕ) (w : Draws s m d t) (i v : ℕ) → m ≢ 0 → i < length w.row → v < size (symbology_of s).alphabet → v ≢ get_or w.row i 0
    → Draws s m e (strip_of s (set w.row i v)) → ⊥
one-character s m d e t w i v n h k q x =
    let r : List ℕ = w.row in
    let a : Reads (symbology_of s) m d r = reads s m d r ((undo s m d r).0 w.accepted) in
    let c = no-codabar s m a.offers n in
    let b : Below (size (symbology_of s).alphabet) (set r i v) = below_set (size (symbology_of s).alphabet) r i v (ready-below s r c (drawn-ready s m d r w.accepted)) k in
    let f : row_seen s m (strip_of s (set r i v)) ≡ gives x.row = rw (← x.drawing) (drawn-seen s m e x.row x.accepted) in
    let g : gives (set r i v) ≡ gives x.row = sym (relaid-seen s m d r (set r i v) n w.accepted (length-set r i v) b) ∙ f in
    let same : x.row ≡ set r i v = cc in
    replaced (symbology_of s) (proper s) m d e r i v n a h (rw (free-set s c (at i (length r)) v) (lt-ltb v _ k)) q
    (rw same at (reads s m e x.row ((undo s m e x.row).0 x.accepted)))

-- ---- demand 1: "A call that turns something away changes no byte lent to it."

pub draw-keeps : (s m count : ℕ) (field out : List ℕ) → (said_of (draw_field s m count field out).answer).number ≢ 0 → (draw_field s m count field out).buffer ≡ out
unfolding draw_field
draw-keeps s m count field out n = kept out (drawing_checks s m count field out) _ refl n

pub data-keeps : (s m : ℕ) (d out : List ℕ) → (said_of (draw_data s m d out).answer).number ≢ 0 → (draw_data s m d out).buffer ≡ out
unfolding draw_data
data-keeps s m d out = draw-keeps s m (length d) d out

pub read_keeps : (s m : ℕ) (t out : List ℕ) → (said_of (read_strip s m t out).answer).number ≢ 0 → (read_strip s m t out).buffer ≡ out
unfolding read_strip
read_keeps s m t out n = kept out (reading_checks s m t out) _ refl n
