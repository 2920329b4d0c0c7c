-- The lines, put together from what each call writes.
--
--   joined         two texts, one behind the other; `reworded`, a text in other words
--   said-text      five numbers, each with a blank behind it
--   drawn-shown, refused-shown    the widths of a strip, or -, and the newline
--   line-text      both are the line of a record
--   line-most      no line is longer than the longest
--   room-holds     a drawing's room is what writing its widths wants
--   record-put     the line of a record, from the calls that write it
--   end-put, stop-put    the last lines
--   in-room        a line and the buffer that it is for
--
-- Assumes nothing.
use Rattle.std.proofs.Common.{◌≡◌, refl, ap, ◌∙◌, Bool, true, false, List, [], ◌∷◌, ◌++◌, append_assoc, ℕ, ◌≤◌, arith, eqb, length, get_or, take, replicate, length-append, length-take, le-ltb, eq-eqb, ne_eqb, eqb-true}
use Rattle.std.proofs.lemmas.List.{length-map}
use Rattle.laws.specs.Search.{pick}
use Rattle.words.specs.declared.Said.{Said}
use Rattle.words.specs.Said.{said_of}
use Rattle.words.specs.declared.Answer.{Answer}
use Rattle.strip.specs.Drawing.{draw_field}
use Rattle.tables.specs.Printed.{text}
use Rattle.symbologies.specs.Sizes.{longest}
use Rattle.lines.specs.Sizes.{longest_line}
use Rattle.laws.specs.Writing.{Put, front}
use Rattle.lines.specs.Text.{decimal, widths, spaced, roomy}
use Rattle.lines.specs.declared.text.Line.{Line}
use Rattle.lines.specs.Wrote.{Wrote}
use Rattle.lines.specs.Line.{call_of, said_for, is_drawn, shown, line_said, line_of, end_line, stop_line}
use Rattle.lines.proofs.Digits.{few}
use Rattle.lines.proofs.Narrow.{narrow-room}
use Rattle.lines.proofs.Fits.{drawn-room}
use Rattle.laws.proofs.Writing.{then, same_text, at_front}

pub joined : {a b c : Line} {t u : List ℕ} → Wrote a t b → Wrote b u c → Wrote a (t ++ u) c
joined x y = record { same = y.same ∙ x.same; put = then x.put y.put }

pub reworded : {a b : Line} {t u : List ℕ} → t ≡ u → Wrote a t b → Wrote a u b
reworded e x = rw e at x

-- ---- the line of a record

pub said-text : (a b c d e : ℕ) → decimal a ++ (32 ∷ []) ++ (decimal b ++ (32 ∷ [])) ++ (decimal c ++ (32 ∷ [])) ++ (decimal d ++ (32 ∷ [])) ++ (decimal e ++ (32 ∷ []))
    ≡ spaced (a ∷ b ∷ c ∷ d ∷ e ∷ [])
said-text a b c d e = simp append_assoc

pub drawn-shown : {a b c : Line} (said : Said) (room : List ℕ) → said.number ≡ 0 → Wrote a (widths (take said.count room)) b
    → Wrote b (10 ∷ []) c → Wrote a (shown said room ++ (10 ∷ [])) c
drawn-shown said room z x y = rw (eq-eqb said.number 0 z) (joined x y)

pub refused-shown : {a b c : Line} (said : Said) (room : List ℕ) → (said.number ≡ 0 → ⊥) → Wrote a (45 ∷ []) b
    → Wrote b (10 ∷ []) c → Wrote a (shown said room ++ (10 ∷ [])) c
refused-shown said room z x y = rw (ne_eqb said.number 0 z) (joined x y)

line-text : (number : ℕ) (said : Said) (room : List ℕ)
    → spaced (number ∷ said.number ∷ said.place ∷ said.count ∷ said.total ∷ []) ++ (shown said room ++ (10 ∷ [])) ≡ line_said number said room
line-text number said room = simp append_assoc

shown_by : (b : Bool) (n : ℕ) (room : List ℕ) → (b ≡ true → n ≤ longest) → length (pick b (widths (take n room)) (text "-")) ≤ longest
shown_by true n room h = rw (length-map, length-take) (omega (arith, h refl))
shown_by false n room h = omega arith

-- No line is longer than the longest: where so many bytes are left, the next line fits.
pub line-most : (number symbology mode count : ℕ) (field : List ℕ) → length (line_of number symbology mode count field) ≤ longest_line
unfolding line_of
line-most number symbology mode count field =
    let said : Said = said_for symbology mode count field in
    let room : List ℕ = (call_of symbology mode count field).buffer in
    let w : length (shown said room) ≤ longest
    = shown_by (eqb said.number 0) said.count room (λ e. drawn-room symbology mode count field (eqb-true said.number 0 e)) in
    simp length-append (omega (arith, few number, few said.number, few said.place, few said.count, few said.total))

-- the calls' answers: `answer`, `room` and `said` are those of the drawing
module _ (number symbology mode count : ℕ) (field : List ℕ) (answer : Answer) (said : Said) (room : List ℕ)
    (a : answer ≡ (draw_field symbology mode count field (replicate longest 0)).answer) (r : room ≡ (draw_field symbology mode count field (replicate longest 0)).buffer)
    (s : said ≡ said_of answer) where
  room-is : room ≡ (call_of symbology mode count field).buffer
  unfolding call_of
  room-is = r

  said-is : said ≡ said_for symbology mode count field
  unfolding call_of
  said-is = s ∙ rw a

  pub room-holds : (said.number ≡ 0 → said.count ≤ longest) × ((i : ℕ) → get_or room i 0 ≤ 4)
  room-holds = (λ z. rw said-is (drawn-room symbology mode count field (rw said-is at z)), λ i. rw room-is (narrow-room symbology mode count field i))

  pub record-put : {b c d : Line} {s : List ℕ} → Wrote b (spaced (number ∷ said.number ∷ said.place ∷ said.count ∷ said.total ∷ [])) c
      → Wrote c (shown said room ++ (10 ∷ [])) d → s ≡ d.out.now
      → Put b.out.now b.at (line_of number symbology mode count field) s d.at × (eqb said.number 0 ≡ is_drawn symbology mode count field)
  unfolding line_of
  record-put x y e =
      (rw e (same_text (line-text number said room ∙ rw (said-is, room-is)) (joined x y).put), ap (λ (z : Said). eqb z.number 0) said-is)

-- ---- the last lines

pub end-put : {a b c d : Line} (records drawn : ℕ) → Wrote a (text "end ") b → Wrote b (decimal records ++ (32 ∷ [])) c → Wrote c (decimal drawn ++ (10 ∷ [])) d
    → Put a.out.now a.at (end_line records drawn) d.out.now d.at
unfolding end_line
end-put records drawn x y z = same_text (simp append_assoc) (joined (joined x y) z).put

pub stop-put : {a b c : Line} (records : ℕ) → Wrote a (text "stop ") b → Wrote b (decimal records ++ (10 ∷ [])) c → Put a.out.now a.at (stop_line records) c.out.now c.at
unfolding stop_line
stop-put records x y = (joined x y).put

-- ---- rooms

pub in-room : {out text p q : List ℕ} {next : ℕ} → longest_line ≤ length out → Put out 0 text p next → q ≡ p
    → (next ≡ length (roomy (length out) text)) × (q ≡ front (roomy (length out) text) out) × (next ≤ length out)
in-room {out} {text} {p} {q} {next} h w e =
    let front-is = at_front w in
    let fits : next ≤ length out = omega (arith, w.behind, w.fits) in
    rw (le-ltb (length out) longest_line h, e) (front-is.0, front-is.1, fits)
