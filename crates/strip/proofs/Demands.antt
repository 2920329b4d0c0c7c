-- What the customer demands, in his own sentences, each with its statement below it. Who reads no proof reads the sentence and what stands
-- between `pub` and the line on which the name stands again: there its proof begins.
--
-- The statements are over the calls' own promises: `Draw.Learnt` is the contract of `draw` as it stands in src/lib.rt, so that no statement
-- can drift from it. `Draws s m d t` (Requests.antt): an accepted request of symbology s and mode m, with the data d, draws the strip t.
-- Demands 2 and 3 read with ticket 1 of document 02: symbologies 4 to 6 weigh their digits from the right, as 7 to 9 do.
--
--   Allowed     a call that a contract allows: its arguments, its answer, and the parameters after it. Of `draw` and of `read`:
--               symbology, mode, given (the data, or the strip), room and after (the lent buffer before the call and after it)
--   AllowedField    the same of `draw_field`: kind, mode-in, count, field, room_in, after-in
--   number      document 01's number of an answer; 0 is done
--
--   demand 1    one-answer-draw, one-buffer-draw, and so for -field and -read; draw-in-order, field-in-order, read-in-order; draw-five,
--               draw-six, draw-thirteen, field-five, field-six, read-eleven, read-twelve; draw-leaves, field-leaves, read-leaves
--   demand 2    draw-draws, draw-drew, draw-counts, field-draws, field-drew, field-counts; read-hands-back, read-turns-away,
--               read-wants-room; read-undoes-draw
--   demand 3    same-strip; element-refused; character-refused
--   ticket 2    digits-swapped; code39-swapped, check-swapped; swapped-handed-back, swapped-refused; full-swapped, full-check-swapped
--
-- Assumes nothing.
use Rattle.std.proofs.Common.{◌≡◌, refl, ap, ◌∙◌, ◌≢◌, ◌↔◌, ◌⊎◌, List, ◌++◌, ℕ, suc, ◌-◌, ◌<◌, ◌≤◌, arith, length, get_or, take, drop, set}
use lib.Seq.{take-length}
use borrow.Fn.Kinds.{Dens, res_t, ended_of, Out}
use contract.Lifetimes.{Lfts}
use denote.Triple.Clauses.{AtExit}
use Rattle.laws.specs.Elements.{sum}
use Rattle.laws.specs.Neighbours.{swapped, difference}
use Rattle.laws.specs.One.{One, OneBuffer}
use Rattle.words.specs.declared.Answer.{Answer}
use Rattle.words.specs.declared.Answer.TheVariants.{Drawn, HandedBack, BadCheck}
use Rattle.words.specs.Said.{said_of}
use Rattle.words.specs.Order.{first_of, gives, char_place, byte_count, element_count, module_count}
use Rattle.tables.specs.Alphabet.{size}
use Rattle.symbologies.specs.Symbologies.{symbology_of}
use Rattle.symbologies.specs.Rows.{row_of_field, row_of}
use Rattle.symbologies.specs.Strips.{elements_of, modules_of, strip_of}
use Rattle.strip.specs.Bench.{chars_of}
use Rattle.strip.specs.Drawing.{Call, drawing_checks, draw_field, draw_data, drawn_answer}
use Rattle.strip.specs.Reading.{reading_checks, handed_answer}
use Rattle.strip.proofs.Order.{draw-first, read_first}
use Rattle.strip.proofs.Alone.{five-alone, six-alone, no-thirteen, eleven-alone, twelve-alone}
use Rattle.strip.proofs.Requests.{Draws, field-whole, draw-whole, drawn-is, drawn-counts, draw-keeps, data-keeps, same_bytes, read_whole, read-drawn, one-element, one-character, read_keeps}
use Rattle.strip.proofs.Exchanges.{Exchanged, one, other, Named, digits-valid, before-valid, last-valid, handed-back, turned-back, full-before}
use Rattle.strip.proofs.Only as Only
use Rattle.strip.proofs.draw.Reads as Draw
use Rattle.strip.proofs.draw.Kinds as DrawKinds
use Rattle.strip.proofs.draw_field.Reads as DrawField
use Rattle.strip.proofs.draw_field.Kinds as DrawFieldKinds
use Rattle.strip.proofs.read.Reads as ReadStrip
use Rattle.strip.proofs.read.Kinds as ReadStripKinds

-- ---- a call

-- κs are the lifetimes of what is lent
pub record Allowed (contract : Out 2 DrawKinds.ps DrawKinds.r) : Type 0 where
  pub κs : Lfts 2
  pub arguments : Dens κs DrawKinds.ps
  pub answer : (res_t DrawKinds.r κs).Denot
  pub exit : AtExit (ended_of 2 DrawKinds.ps DrawKinds.r) κs
  pub allows : contract κs arguments answer exit

abbrev pub number : Answer → ℕ
number p = (said_of p).number

module _ {contract : Out 2 DrawKinds.ps DrawKinds.r} (c : Allowed contract) where
  abbrev pub symbology : ℕ
  symbology = c.arguments.0

  abbrev pub mode : ℕ
  mode = c.arguments.1.0

  abbrev pub given : List ℕ
  given = c.arguments.1.1.0.now

  abbrev pub room : List ℕ
  room = c.arguments.1.1.1.0.now

  abbrev pub after : List ℕ
  after = c.exit.1.1.1.0.now

pub record AllowedField : Type 0 where
  pub κs : Lfts 2
  pub arguments : Dens κs DrawFieldKinds.ps
  pub answer : (res_t DrawFieldKinds.r κs).Denot
  pub exit : AtExit (ended_of 2 DrawFieldKinds.ps DrawFieldKinds.r) κs
  pub allows : DrawField.Learnt κs arguments answer exit

module _ (c : AllowedField) where
  abbrev pub kind : ℕ
  kind = c.arguments.0

  abbrev pub mode-in : ℕ
  mode-in = c.arguments.1.0

  abbrev pub count : ℕ
  count = c.arguments.1.1.0

  abbrev pub field : List ℕ
  field = c.arguments.1.1.1.0.now

  abbrev pub room_in : List ℕ
  room_in = c.arguments.1.1.1.1.0.now

  abbrev pub after-in : List ℕ
  after-in = c.exit.1.1.1.1.0.now

-- ---- demand 1: "Every byte string, symbology number, mode and strip gets an answer": the calls have no `requires`, and two answers that
-- a contract allows for the same arguments are the same, as are two contents of the lent buffer.

pub one-answer-draw : One 2 DrawKinds.ps DrawKinds.r Draw.Learnt
one-answer-draw = Only.draw

pub one-buffer-draw : OneBuffer 2 DrawKinds.ps DrawKinds.r (λ κs x. x.1.1.1.0.now) Draw.Learnt
one-buffer-draw = Only.draw-buffer

pub one-answer-field : One 2 DrawFieldKinds.ps DrawFieldKinds.r DrawField.Learnt
one-answer-field = Only.draw-field

pub one-buffer-field : OneBuffer 2 DrawFieldKinds.ps DrawFieldKinds.r (λ κs x. x.1.1.1.1.0.now) DrawField.Learnt
one-buffer-field = Only.draw-field-buffer

pub one-answer-read : One 2 ReadStripKinds.ps ReadStripKinds.r ReadStrip.Learnt
one-answer-read = Only.read

pub one-buffer-read : OneBuffer 2 ReadStripKinds.ps ReadStripKinds.r (λ κs x. x.1.1.1.0.now) ReadStrip.Learnt
one-buffer-read = Only.read-buffer

-- ---- the call `draw`

data-field : (s m : ℕ) (d out : List ℕ) → draw_data s m d out ≡ draw_field s m (length d) d out
unfolding draw_data
data-field s m d out = refl

-- what is left where the answer is 0
drew : (s m count : ℕ) (field out next : List ℕ) (p : Answer) → p ≡ (draw_field s m count field out).answer → next ≡ (draw_field s m count field out).buffer → number p ≡ 0
    → Draws s m (take count field) (take (said_of p).count next)
drew s m count field out next p a b e = rw (a, b) (drawn-is s m count field out (rw a at e))

-- of this strip the answer counts the length and totals the widths
counts : (s m count : ℕ) (field out next : List ℕ) (p : Answer) → p ≡ (draw_field s m count field out).answer → next ≡ (draw_field s m count field out).buffer → number p ≡ 0
    → ((said_of p).count ≡ length (take (said_of p).count next)) × ((said_of p).total ≡ sum (take (said_of p).count next))
counts s m count field out next p a b e = rw (a, b) (drawn-counts s m count field out (rw a at e))

module _ (c : Allowed Draw.Learnt) where
  as-field : c.answer ≡ (draw_field (symbology c) (mode c) (length (given c)) (given c) (room c)).answer
  as-field = c.allows.0 ∙ ap (λ (z : Call). z.answer) (data-field (symbology c) (mode c) (given c) (room c))

  -- demand 1: "Bad input is turned away with the number and place that document 01's table gives, in its order": the answer is that of
  -- the first of `drawing_checks` (specs/Drawing.antt: 1, 2, 3, 13, 4, 5, 6, 7, 8) that applies, and 0 if none does
  pub draw-in-order : c.answer
      ≡ first_of (λ a. a) (drawing_checks (symbology c) (mode c) (length (given c)) (given c) (room c)) (drawn_answer (symbology c) (mode c) (take (length (given c)) (given c)))
  draw-in-order = as-field ∙ draw-first (symbology c) (mode c) (length (given c)) (given c) (room c)

  -- and what that table words for one symbology no other gets: 5 is Interleaved's
  pub draw-five : number c.answer ≡ 5 → symbology c ≡ 5
  draw-five e = five-alone (symbology c) (mode c) (length (given c)) (given c) (room c) (rw as-field at e)

  -- 6 is full ASCII's
  pub draw-six : number c.answer ≡ 6 → symbology c ≡ 2
  draw-six e = six-alone (symbology c) (mode c) (length (given c)) (given c) (room c) (rw as-field at e)

  -- 13 is a job record's
  pub draw-thirteen : number c.answer ≢ 13
  draw-thirteen e = no-thirteen (symbology c) (mode c) (given c) (room c) (rw as-field at e)

  -- demand 1: "A call that turns something away changes no byte lent to it."
  pub draw-leaves : number c.answer ≢ 0 → after c ≡ room c
  draw-leaves n = c.allows.1 ∙ data-keeps (symbology c) (mode c) (given c) (room c) (rw (← c.allows.0) n)

  -- demand 2: "The strip drawn is the one that the tables and check rules of sources 001 and 004, as fixed in document 01, lay down."
  pub draw-draws : (r : List ℕ) → row_of (symbology c) (mode c) (given c) ≡ gives r → elements_of (symbology c) (length r) ≤ length (room c)
      → (c.answer ≡ Drawn (element_count (elements_of (symbology c) (length r))) (module_count (modules_of (symbology c) r)))
      × (after c ≡ strip_of (symbology c) r ++ drop (elements_of (symbology c) (length r)) (room c))
  draw-draws r e l =
      let w = draw-whole (symbology c) (mode c) (given c) r (room c) e l in
      (c.allows.0 ∙ ap (λ (z : Call). z.answer) w, c.allows.1 ∙ ap (λ (z : Call). z.buffer) w)

  -- and where the answer is 0, the first elements of the buffer, as many as it counts, are the strip of the data
  pub draw-drew : number c.answer ≡ 0 → Draws (symbology c) (mode c) (given c) (take (said_of c.answer).count (after c))
  draw-drew e =
      rw (take-length (given c)) at
      (drew (symbology c) (mode c) (length (given c)) (given c) (room c) (after c) c.answer as-field
      (c.allows.1 ∙ ap (λ (z : Call). z.buffer) (data-field (symbology c) (mode c) (given c) (room c))) e)

  -- whose length it counts and whose widths it totals
  pub draw-counts : number c.answer ≡ 0
      → ((said_of c.answer).count ≡ length (take (said_of c.answer).count (after c))) × ((said_of c.answer).total ≡ sum (take (said_of c.answer).count (after c)))
  draw-counts =
      counts (symbology c) (mode c) (length (given c)) (given c) (room c) (after c) c.answer as-field
      (c.allows.1 ∙ ap (λ (z : Call). z.buffer) (data-field (symbology c) (mode c) (given c) (room c)))

-- ---- the call `draw_field`

module _ (c : AllowedField) where
  -- demand 1, of a job record's field: the same order
  pub field-in-order : c.answer ≡ first_of (λ a. a) (drawing_checks (kind c) (mode-in c) (count c) (field c) (room_in c)) (drawn_answer (kind c) (mode-in c) (take (count c) (field c)))
  field-in-order = c.allows.0 ∙ draw-first (kind c) (mode-in c) (count c) (field c) (room_in c)

  -- 5 is Interleaved's
  pub field-five : number c.answer ≡ 5 → kind c ≡ 5
  field-five e = five-alone (kind c) (mode-in c) (count c) (field c) (room_in c) (rw c.allows.0 at e)

  -- 6 is full ASCII's
  pub field-six : number c.answer ≡ 6 → kind c ≡ 2
  field-six e = six-alone (kind c) (mode-in c) (count c) (field c) (room_in c) (rw c.allows.0 at e)

  -- demand 1: "A call that turns something away changes no byte lent to it."
  pub field-leaves : number c.answer ≢ 0 → after-in c ≡ room_in c
  field-leaves n = c.allows.1 ∙ draw-keeps (kind c) (mode-in c) (count c) (field c) (room_in c) (rw (← c.allows.0) n)

  -- demand 2, of a field whose bytes behind the data are zero: the strip of its data, and what stood behind it in the buffer
  pub field-draws : (r : List ℕ) → row_of_field (kind c) (mode-in c) (count c) (field c) ≡ gives r → elements_of (kind c) (length r) ≤ length (room_in c)
      → (c.answer ≡ Drawn (element_count (elements_of (kind c) (length r))) (module_count (modules_of (kind c) r)))
      × (after-in c ≡ strip_of (kind c) r ++ drop (elements_of (kind c) (length r)) (room_in c))
  field-draws r e l =
      let w = field-whole (kind c) (mode-in c) (count c) (field c) (room_in c) r e l in
      (c.allows.0 ∙ ap (λ (z : Call). z.answer) w, c.allows.1 ∙ ap (λ (z : Call). z.buffer) w)

  -- and where the answer is 0, the first elements of the buffer, as many as it counts, are the strip of the field's data
  pub field-drew : number c.answer ≡ 0 → Draws (kind c) (mode-in c) (take (count c) (field c)) (take (said_of c.answer).count (after-in c))
  field-drew = drew (kind c) (mode-in c) (count c) (field c) (room_in c) (after-in c) c.answer c.allows.0 c.allows.1

  -- whose length it counts and whose widths it totals
  pub field-counts : number c.answer ≡ 0
      → ((said_of c.answer).count ≡ length (take (said_of c.answer).count (after-in c))) × ((said_of c.answer).total ≡ sum (take (said_of c.answer).count (after-in c)))
  field-counts = counts (kind c) (mode-in c) (count c) (field c) (room_in c) (after-in c) c.answer c.allows.0 c.allows.1

-- ---- the call `read`

module _ (c : Allowed ReadStrip.Learnt) where
  -- demand 1, of reading: the first of `reading_checks` (specs/Reading.antt: 1, 2, 9, 10, 11, 12, 7, 8) that applies, and 0 if none does
  pub read-in-order : c.answer ≡ first_of (λ a. a) (reading_checks (symbology c) (mode c) (given c) (room c)) (handed_answer (symbology c) (mode c) (given c))
  read-in-order = c.allows.0 ∙ read_first (symbology c) (mode c) (given c) (room c)

  -- 11 is EAN-13's
  pub read-eleven : number c.answer ≡ 11 → symbology c ≡ 7
  read-eleven e = eleven-alone (symbology c) (mode c) (given c) (room c) (rw c.allows.0 at e)

  -- 12 is full ASCII's
  pub read-twelve : number c.answer ≡ 12 → symbology c ≡ 2
  read-twelve e = twelve-alone (symbology c) (mode c) (given c) (room c) (rw c.allows.0 at e)

  -- demand 1: "A call that turns something away changes no byte lent to it."
  pub read-leaves : number c.answer ≢ 0 → after c ≡ room c
  read-leaves n = c.allows.1 ∙ read_keeps (symbology c) (mode c) (given c) (room c) (rw (← c.allows.0) n)

  -- demand 2: "The reader, told symbology and mode and lent room enough, hands back the data of the request that draws this strip"
  pub read-hands-back : (d : List ℕ) → Draws (symbology c) (mode c) d (given c) → length d ≤ length (room c)
      → (c.answer ≡ HandedBack (byte_count (length d)) (module_count (sum (given c)))) × (after c ≡ d ++ drop (length d) (room c))
  read-hands-back d w l =
      let z = read_whole (symbology c) (mode c) d (given c) (room c) w l in
      (c.allows.0 ∙ ap (λ (z : Call). z.answer) z, c.allows.1 ∙ ap (λ (z : Call). z.buffer) z)

  -- demand 2: "and turns a strip away exactly if no accepted request of that symbology and mode draws it."
  pub read-turns-away : ((d : List ℕ) → Draws (symbology c) (mode c) d (given c) → ⊥) → number c.answer ≢ 0
  read-turns-away n e = let w = read-drawn (symbology c) (mode c) (given c) (room c) (rw c.allows.0 at e) in n w.0 w.1

  -- and a strip that a request draws is turned away for want of room alone
  pub read-wants-room : number c.answer ≢ 0 → (d : List ℕ) → Draws (symbology c) (mode c) d (given c) → length d ≤ length (room c) → ⊥
  read-wants-room n d w l = n (ap number (read-hands-back d w l).0)

  -- demand 3: "Any one element of a drawn strip changed to any other width: refused."
  pub element-refused : (d t : List ℕ) (i w : ℕ) → Draws (symbology c) (mode c) d t → i < length t → w ≢ get_or t i 0 → given c ≡ set t i w → number c.answer ≢ 0
  element-refused d t i w v l n e = read-turns-away (λ f y. one-element (symbology c) (mode c) d f t i w v l n (rw (← e) y))

  -- demand 3: "Where there is a check character, any one drawn character replaced by another of its set: refused."
  pub character-refused : (d t : List ℕ) (v : Draws (symbology c) (mode c) d t) (i x : ℕ) → mode c ≢ 0 → i < length v.row
      → x < size (symbology_of (symbology c)).alphabet → x ≢ get_or v.row i 0 → given c ≡ strip_of (symbology c) (set v.row i x) → number c.answer ≢ 0
  character-refused d t v i x n l k q e = read-turns-away (λ f y. one-character (symbology c) (mode c) d f t v i x n l k q (rw (← e) y))

-- ---- ticket 2 of document 02: two neighbours exchanged

-- a call of `read`, lent room enough, with the strip that an accepted row has when two neighbouring drawn characters of it, `one x` and `other x`,
-- are exchanged and it is laid out anew (Exchanges.antt); the last character of `x.row` is the check. "Proved once over the modulus and the two
-- weights": `exchanged`, in proofs/Neighbours.antt of the crate laws
module _ (c : Allowed ReadStrip.Learnt) (d : List ℕ) (x : Exchanged (symbology c) (mode c) d (given c)) (n : mode c ≢ 0) (l : length d ≤ length (room c)) where
  -- "For symbologies 4 to 9, modes 1 and 2: swapping two neighbouring drawn characters, the check included, of an accepted row is read as valid
  -- exactly if they are equal or differ by 5."
  pub digits-swapped : 4 ≤ symbology c → symbology c ≤ 9 → (number c.answer ≡ 0) ↔ ((one x ≡ other x) ⊎ (difference (one x) (other x) ≡ 5))
  digits-swapped lo hi = rw c.allows.0 (digits-valid (symbology c) (mode c) d (given c) (room c) x n l lo hi)

  -- "For Code 39, symbology 1, in modes 1 and 2: swapping two neighbours before the check is always read as valid,
  pub code39-swapped : symbology c ≡ 1 → suc (suc x.place) < length x.row → number c.answer ≡ 0
  code39-swapped e k = rw c.allows.0 (before-valid (symbology c) (mode c) d (given c) (room c) x n l e k)

  -- and swapping the last of them with the check only if they are equal."
  pub check-swapped : symbology c ≡ 1 → suc (suc x.place) ≡ length x.row → (number c.answer ≡ 0) ↔ (one x ≡ other x)
  check-swapped e k = rw c.allows.0 (last-valid (symbology c) (mode c) d (given c) (room c) x n l (omega arith) (omega arith) k)

  -- in these symbologies, `Named`, what is read as valid hands back the data of the exchanged row: its characters as bytes (`chars_of`, specs/Bench.antt), as many as the request
  -- had; and a request with just these data draws it
  pub swapped-handed-back : Named (symbology c) → number c.answer ≡ 0
      → (c.answer ≡ HandedBack (byte_count (length d)) (module_count (sum (given c))))
      × (after c ≡ chars_of (symbology c) (take (length d) (swapped x.row x.place)) ++ drop (length d) (room c))
      × Draws (symbology c) (mode c) (chars_of (symbology c) (take (length d) (swapped x.row x.place))) (given c)
  swapped-handed-back s e =
      let z = handed-back (symbology c) (mode c) d (given c) (room c) x n l s (rw c.allows.0 at e) in
      (c.allows.0 ∙ ap (λ (z : Call). z.answer) z.0, c.allows.1 ∙ ap (λ (z : Call). z.buffer) z.0, z.1)

  -- and what is not is refused with 7, at the check
  pub swapped-refused : Named (symbology c) → number c.answer ≢ 0 → c.answer ≡ BadCheck (char_place (length x.row - 1))
  swapped-refused s f =
      c.allows.0 ∙ ap (λ (z : Call). z.answer) (turned-back (symbology c) (mode c) d (given c) (room c) x n l s (rw c.allows.0 at f))

  -- full ASCII, symbology 2, of which the ticket does not speak, has the same check: two neighbours before it exchanged, read with room for as many
  -- bytes as the row has characters, are read as valid or, where a pair breaks up, refused with 12,
  pub full-swapped : symbology c ≡ 2 → suc (suc x.place) < length x.row → length x.row ≤ length (room c)
      → (number c.answer ≡ 0) ⊎ (number c.answer ≡ 12)
  full-swapped e k h = rw c.allows.0 (full-before (symbology c) (mode c) d (given c) (room c) x n l e k h)

  -- and the last of them and the check are read as valid exactly if they are equal
  pub full-check-swapped : symbology c ≡ 2 → suc (suc x.place) ≡ length x.row → (number c.answer ≡ 0) ↔ (one x ≡ other x)
  full-check-swapped e k = rw c.allows.0 (last-valid (symbology c) (mode c) d (given c) (room c) x n l (omega arith) (omega arith) k)

-- ---- two calls

carried : {s u m n : ℕ} {d t v : List ℕ} → s ≡ u → m ≡ n → t ≡ v → Draws s m d t → Draws u n d v
carried e f g w = rw (← e, ← f, ← g) w

module _ (c : Allowed Draw.Learnt) (e : number c.answer ≡ 0) where
  -- demand 2: what was drawn, read with room enough, gives the data back
  pub read-undoes-draw : (b : Allowed ReadStrip.Learnt) → symbology c ≡ symbology b → mode c ≡ mode b
      → take (said_of c.answer).count (after c) ≡ given b → length (given c) ≤ length (room b)
      → (b.answer ≡ HandedBack (byte_count (length (given c))) (module_count (sum (given b)))) × (after b ≡ given c ++ drop (length (given c)) (room b))
  read-undoes-draw b s m t l = read-hands-back b (given c) (carried s m t (draw-drew c e)) l

  -- demand 3: "Within one symbology and mode two accepted requests draw the same strip only if their bytes are the same, zeros at the
  -- front counted."
  pub same-strip : (b : Allowed Draw.Learnt) → number b.answer ≡ 0 → symbology c ≡ symbology b → mode c ≡ mode b
      → take (said_of c.answer).count (after c) ≡ take (said_of b.answer).count (after b) → given c ≡ given b
  same-strip b f s m t = same_bytes (symbology b) (mode b) _ _ _ (carried s m t (draw-drew c e)) (draw-drew b f)
