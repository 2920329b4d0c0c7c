-- What was read before never changes what is printed: however an input is cut into pieces, and whatever room each call has, the loop
-- prints `run` of the whole input. A call's text is the beginning of what the held bytes print, and what it leaves prints the rest.
--
--   Why, Halts   what a call's end says: `same`, its text and the run over what is left are the run over all; `why`, how what is
--                left begins; `within`, no more is taken than is held
--   halts        so it is for every call; left_none, and where it ended for another reason than want of room no record is left
--   goes_on, stops-there     the text of a call, before bytes that are still to come
--   left_over    what is left where more is wanted
--   full-takes   a call with room for a line takes a record before it is full
--   run-held     what the loop prints from held bytes on
--   run-pieces   what it prints for an input in pieces
--   loop-ends    the loop ends
--
-- Assumes nothing.
use Rattle.std.proofs.Common.{◌≡◌, ◌≢◌, refl, sym, ap, ◌∙◌, Bool, true, false, ◌⊎◌, inl, inr, List, [], ◌∷◌, ◌++◌, append-nil, append_assoc, ℕ, zero, suc, ◌+◌, ◌-◌, ◌<◌, ◌≤◌, arith, leb, ltb, length, get_or, take, drop, length-append, length-drop, drop-drop, leb-false, le-leb, le-ltb, Some}
use lib.ListN.{get_or-append}
use Rattle.std.proofs.lemmas.List.{drop-append-le, take-append-le}
use Rattle.laws.specs.Search.{pick}
use Rattle.lines.specs.Sizes.{longest_line}
use Rattle.lines.specs.Line.{stop_line}
use Rattle.jobs.specs.declared.run.Ended.{Ended}
use Rattle.jobs.specs.declared.run.Ended.TheVariants.{More, Full, Stopped}
use Rattle.jobs.specs.Kinds.{field_of, known, body_of}
use Rattle.jobs.specs.Run.{Job, Front, nothing, unknown, cut, whole, job_of, front_of, counted, line_for, drawn_for, run_from, run, Held, ends, behind, held_run}
use Rattle.jobs.specs.Found.{why_none}
use Rattle.jobs.specs.Loop.{joined, closing, Prints, full, more, over, stop}
use Rattle.jobs.proofs.Bodies.{body-field, body-most}
use Rattle.jobs.proofs.Runs.{whole_is, whole-rest, shorter, run_step, held-step}

-- ---- bytes behind

unknown-by : (kind : ℕ) (b c : Bool) (x : Front) → known kind ≡ b → pick b (pick c x cut) unknown ≡ unknown → (x ≡ unknown → ⊥) → known kind ≡ false
unknown-by kind false c x p e n = p
unknown-by kind true true x p e n = absurd (n e)
unknown-by kind true false x p e n = let z : ◌≡◌ {A = ℕ} 0 1 = cc in absurd (omega arith)

unknown-more : (bytes f : List ℕ) → front_of bytes ≡ unknown → front_of (bytes ++ f) ≡ unknown
unknown-more [] f e = let z : ◌≡◌ {A = ℕ} 0 1 = cc in absurd (omega arith)
unknown-more (kind ∷ body) f e =
    rw (unknown-by kind (known kind) (leb (body_of kind) (length body)) (whole (job_of kind body) (drop (body_of kind) body)) refl e (λ q. let z : ◌≡◌ {A = ℕ} 0 1 = cc in omega arith))

whole-more : (bytes f : List ℕ) (x : Job) (rest : List ℕ) → front_of bytes ≡ whole x rest → front_of (bytes ++ f) ≡ whole x (rest ++ f)
whole-more [] f x rest e = let z : ◌≡◌ {A = ℕ} 0 1 = cc in absurd (omega arith)
whole-more (kind ∷ body) f x rest e =
    let w = whole_is kind body x rest e in
    let n : body_of kind ≡ 2 + field_of kind = body-field kind w.is_known in
    let l : body_of kind ≤ length body = w.holds in
    let m : leb (body_of kind) (length (body ++ f)) ≡ true = le-leb (body_of kind) (length (body ++ f)) (rw length-append (omega arith)) in
    let p : get_or (body ++ f) 0 0 ≡ get_or body 0 0 = get_or-append body f 0 0 (omega arith) in
    let q : get_or (body ++ f) 1 0 ≡ get_or body 1 0 = get_or-append body f 0 1 (omega arith) in
    let k : drop 2 (body ++ f) ≡ drop 2 body ++ f = drop-append-le 2 body f (omega arith) in
    let u : take (field_of kind) (drop 2 body ++ f) ≡ take (field_of kind) (drop 2 body) = take-append-le (field_of kind) (drop 2 body) f (rw length-drop (omega arith)) in
    let v : drop (body_of kind) (body ++ f) ≡ drop (body_of kind) body ++ f = drop-append-le (body_of kind) body f l in
    rw (w.is_known, m, p, q, k, u, v, w.job, w.left)

-- ---- a call

-- how what is left begins, by why a call ended
abbrev pub Why : Ended → List ℕ → Type 0
Why More left = (left ≡ []) ⊎ (front_of left ≡ cut)
Why Full left = (x : Job) × (rest : List ℕ) × (front_of left ≡ whole x rest)
Why Stopped left = front_of left ≡ unknown

pub record Halts (records drawn : ℕ) (bytes : List ℕ) (h : Held) : Type 0 where
  pub same : (f : List ℕ) → run_from records drawn (bytes ++ f) ≡ h.text ++ run_from h.records h.drawn (drop h.taken bytes ++ f)
  pub why : Why h.ended (drop h.taken bytes)
  pub within : h.taken ≤ length bytes

here : (records drawn : ℕ) (bytes : List ℕ) (w : Ended) → Why w bytes → Halts records drawn bytes (ends records drawn w)
here r d bytes w y = record { same = λ f. refl; why = y; within = omega arith }

empty-front : (bytes : List ℕ) → front_of bytes ≡ nothing → bytes ≡ []
empty-front [] e = refl
empty-front (kind ∷ body) e = absurd (go (known kind) (leb (body_of kind) (length body)) e)
  where
    go : (b c : Bool) → pick b (pick c (whole (job_of kind body) (drop (body_of kind) body)) cut) unknown ≡ nothing → ⊥
    go true true q = let z : ◌≡◌ {A = ℕ} 0 1 = cc in omega arith
    go true false q = let z : ◌≡◌ {A = ℕ} 0 1 = cc in omega arith
    go false c q = let z : ◌≡◌ {A = ℕ} 0 1 = cc in omega arith

-- a record and its line, and then a call that halts
onward : (records drawn : ℕ) (bytes : List ℕ) (x : Job) (rest : List ℕ) (h : Held) → front_of bytes ≡ whole x rest → Halts (counted records) (drawn_for drawn x) rest h
    → Halts records drawn bytes (behind (suc (body_of x.kind)) (line_for (counted records) x) h)
onward r d bytes x rest h e g =
    let k : drop (suc (body_of x.kind) + h.taken) bytes ≡ drop h.taken rest
    = sym (drop-drop h.taken (suc (body_of x.kind)) bytes) ∙ ap (drop h.taken) (sym (whole-rest bytes x rest e).1) in
    record {
      same = λ f. run_step r d (bytes ++ f) ∙ rw (whole-more bytes f x rest e, g.same f, k, append_assoc);
      why = rw k g.why;
      within =
          let w = whole-rest bytes x rest e in
          omega (arith, w.0, g.within, ap length w.1 ∙ length-drop (suc (body_of x.kind)) bytes);
    }

-- a call, by how the bytes begin; `ih` is the call over the rest
module _ (room records drawn : ℕ) (bytes : List ℕ)
    (ih : (x : Job) (rest : List ℕ) → front_of bytes ≡ whole x rest
    → Halts (counted records) (drawn_for drawn x) rest (held_run (room - length (line_for (counted records) x)) (counted records) (drawn_for drawn x) rest)) where
  halts-room : (x : Job) (rest : List ℕ) (b : Bool) → front_of bytes ≡ whole x rest
      → Halts records drawn bytes
      (pick b (ends records drawn Full)
      (behind (suc (body_of x.kind)) (line_for (counted records) x) (held_run (room - length (line_for (counted records) x)) (counted records) (drawn_for drawn x) rest)))
  halts-room x rest true e = here records drawn bytes Full (x, rest, e)
  halts-room x rest false e = onward records drawn bytes x rest _ e (ih x rest e)

  halts_front : (z : Front) → front_of bytes ≡ z → Halts records drawn bytes (held_run room records drawn bytes)
  halts_front nothing e = rw (held-step, e) (here records drawn bytes More (inl (empty-front bytes e)))
  halts_front unknown e = rw (held-step, e) (here records drawn bytes Stopped e)
  halts_front cut e = rw (held-step, e) (here records drawn bytes More (inr e))
  halts_front (whole x rest) e = rw (held-step, e) (halts-room x rest (ltb room longest_line) e)

halts_by : (n room records drawn : ℕ) (bytes : List ℕ) → length bytes < n → Halts records drawn bytes (held_run room records drawn bytes)
halts_by zero m r d bytes h = absurd (omega arith)
halts_by (suc n) m r d bytes h =
    halts_front m r d bytes
    (λ x rest e. halts_by n (m - length (line_for (counted r) x)) (counted r) (drawn_for d x) rest (omega (arith, shorter bytes x rest e)))
    (front_of bytes) refl

pub halts : (room records drawn : ℕ) (bytes : List ℕ) → Halts records drawn bytes (held_run room records drawn bytes)
halts m r d bytes = halts_by (suc (length bytes)) m r d bytes (omega arith)

left_by : (why : Ended) (left : List ℕ) → why ≢ Full → Why why left → why_none (front_of left) ≡ Some why
left_by More left n (inl e) = rw e
left_by More left n (inr e) = rw e
left_by Full left n w = absurd (n refl)
left_by Stopped left n e = rw e

pub left_none : (room records drawn : ℕ) (bytes : List ℕ) → let h : Held = held_run room records drawn bytes in
    h.ended ≢ Full → why_none (front_of (drop h.taken bytes)) ≡ Some h.ended
left_none m r d bytes n = left_by _ _ n (halts m r d bytes).why

-- ---- what is printed, whatever bytes are still to come

-- A call's text, and then what the bytes that it left print with those still to come, is what all of them print.
pub goes_on : (room records drawn : ℕ) (bytes f : List ℕ) → let h : Held = held_run room records drawn bytes in
    run_from records drawn (bytes ++ f) ≡ h.text ++ run_from h.records h.drawn (drop h.taken bytes ++ f)
goes_on m r d bytes f = (halts m r d bytes).same f

stop-front : (records drawn : ℕ) (left f : List ℕ) → front_of left ≡ unknown → run_from records drawn (left ++ f) ≡ stop_line records
stop-front r d left f e = run_step r d (left ++ f) ∙ rw (unknown-more left f e)

stop-why : (records drawn : ℕ) (left f : List ℕ) (w : Ended) → w ≡ Stopped → Why w left → run_from records drawn (left ++ f) ≡ stop_line records
stop-why r d left f More q y = let z : ◌≡◌ {A = ℕ} 0 1 = cc in absurd (omega arith)
stop-why r d left f Full q y = let z : ◌≡◌ {A = ℕ} 0 1 = cc in absurd (omega arith)
stop-why r d left f Stopped q y = stop-front r d left f y

-- Where a call stopped at an unknown kind, its text and the stop line are all that is printed, whatever follows.
pub stops-there : (room records drawn : ℕ) (bytes f : List ℕ) → let h : Held = held_run room records drawn bytes in
    h.ended ≡ Stopped → run_from records drawn (bytes ++ f) ≡ h.text ++ stop_line h.records
stops-there m r d bytes f q =
    let h : Held = held_run m r d bytes in
    goes_on m r d bytes f ∙ ap (λ (t : List ℕ). h.text ++ t) (stop-why h.records h.drawn (drop h.taken bytes) f h.ended q (halts m r d bytes).why)

cut_short : (left : List ℕ) → front_of left ≡ cut → length left < 37
cut_short [] e = omega arith
cut_short (kind ∷ body) e = go (known kind) (leb (body_of kind) (length body)) refl e
  where
    go : (b c : Bool) → leb (body_of kind) (length body) ≡ c → pick b (pick c (whole (job_of kind body) (drop (body_of kind) body)) cut) unknown ≡ cut → suc (length body) < 37
    go true true q r = let z : ◌≡◌ {A = ℕ} 0 1 = cc in absurd (omega arith)
    go true false q r = omega (arith, leb-false (body_of kind) (length body) q, body-most kind)
    go false c q r = let z : ◌≡◌ {A = ℕ} 0 1 = cc in absurd (omega arith)

cut-closing : (records drawn : ℕ) (left : List ℕ) → front_of left ≡ cut → run_from records drawn left ≡ closing records drawn left
cut-closing r d [] e = let z : ◌≡◌ {A = ℕ} 0 1 = cc in absurd (omega arith)
cut-closing r d (b ∷ bs) e = run_step r d (b ∷ bs) ∙ rw e

more-why : (records drawn : ℕ) (left : List ℕ) (w : Ended) → w ≡ More → Why w left → (run_from records drawn left ≡ closing records drawn left) × (length left < 37)
more-why r d left More q (inl y) = rw y (run_step r d [], omega arith)
more-why r d left More q (inr y) = (cut-closing r d left y, cut_short left y)
more-why r d left Full q y = let z : ◌≡◌ {A = ℕ} 0 1 = cc in absurd (omega arith)
more-why r d left Stopped q y = let z : ◌≡◌ {A = ℕ} 0 1 = cc in absurd (omega arith)

-- Where a call wants more, fewer than 37 bytes are left; if the input has ended they print the end line where they are none, and
-- else the stop line.
pub left_over : (room records drawn : ℕ) (bytes : List ℕ) → let h : Held = held_run room records drawn bytes in
    h.ended ≡ More → (run_from h.records h.drawn (drop h.taken bytes) ≡ closing h.records h.drawn (drop h.taken bytes)) × (length (drop h.taken bytes) < 37)
left_over m r d bytes q =
    let h : Held = held_run m r d bytes in
    more-why h.records h.drawn (drop h.taken bytes) h.ended q (halts m r d bytes).why

full_by : (room records drawn : ℕ) (bytes : List ℕ) (z : Front) → front_of bytes ≡ z → longest_line ≤ room → (held_run room records drawn bytes).ended ≡ Full
    → 0 < (held_run room records drawn bytes).taken
full_by m r d bytes nothing e l q = let w = rw (held-step, e) at q in let z : ◌≡◌ {A = ℕ} 0 1 = cc in absurd (omega arith)
full_by m r d bytes unknown e l q = let w = rw (held-step, e) at q in let z : ◌≡◌ {A = ℕ} 0 1 = cc in absurd (omega arith)
full_by m r d bytes cut e l q = let w = rw (held-step, e) at q in let z : ◌≡◌ {A = ℕ} 0 1 = cc in absurd (omega arith)
full_by m r d bytes (whole x rest) e l q = rw (held-step, e, le-ltb m longest_line l) (omega arith)

-- A call that has room for a line does not end full before it has taken a record: the loop gets on.
pub full-takes : (room records drawn : ℕ) (bytes : List ℕ) → longest_line ≤ room → (held_run room records drawn bytes).ended ≡ Full → 0 < (held_run room records drawn bytes).taken
full-takes m r d bytes l q = full_by m r d bytes (front_of bytes) refl l q

-- ---- the loop

-- Whatever bytes are held and whatever pieces are still to come, the loop prints what all of them together print.
pub run-held : {held : List ℕ} {records drawn : ℕ} {pieces : List (List ℕ)} {t : List ℕ} → Prints held records drawn pieces t
    → t ≡ run_from records drawn (held ++ joined pieces)
run-held {held} {records} {drawn} {pieces} (full m h l e q p) =
    ap (λ (t : List ℕ). h.text ++ t) (run-held p) ∙ rw e (sym (goes_on m records drawn held (joined pieces)))
run-held {held} {records} {drawn} (more {piece = piece} {pieces = pieces} m h l e q p) =
    ap (λ (t : List ℕ). h.text ++ t) (run-held p)
    ∙ ap (λ (s : List ℕ). h.text ++ run_from h.records h.drawn s) (append_assoc (drop h.taken held) piece (joined pieces))
    ∙ rw e (sym (goes_on m records drawn held (piece ++ joined pieces)))
run-held {held} {records} {drawn} (over m h l e q) =
    rw (e, ← (left_over m records drawn held (rw e at q)).0, ← (append-nil (drop (held_run m records drawn held).taken held)))
    (sym (goes_on m records drawn held []))
run-held {held} {records} {drawn} {pieces} (stop m h l e q) = rw e (sym (stops-there m records drawn held (joined pieces) (rw e at q)))

-- However an input is cut into pieces, and whatever room each call has, the loop prints what the input prints as a whole.
pub run-pieces : {pieces : List (List ℕ)} {t : List ℕ} → Prints [] 0 0 pieces t → t ≡ run (joined pieces)
run-pieces p = run-held p

-- ---- the loop ends

abbrev Printed : List ℕ → ℕ → ℕ → List (List ℕ) → Type 0
Printed held records drawn pieces = (t : List ℕ) × Prints held records drawn pieces t

-- the loop over the pieces behind the first ends, whatever is held
abbrev Next : List (List ℕ) → Type 0
Next [] = Unit {0}
Next (piece ∷ pieces) = (held : List ℕ) (records drawn : ℕ) → Printed held records drawn pieces

module _ (room : ℕ) (l : longest_line ≤ room) where
  wants-more : (held : List ℕ) (records drawn : ℕ) (pieces : List (List ℕ)) → Next pieces → (held_run room records drawn held).ended ≡ More → Printed held records drawn pieces
  wants-more held r d [] k q = (_, over room (held_run room r d held) l refl q)
  wants-more held r d (piece ∷ pieces) k q =
      let h : Held = held_run room r d held in
      (_, more room h l refl q (k (drop h.taken held ++ piece) h.records h.drawn).1)

  -- each call that ends full leaves fewer bytes
  turn : (n : ℕ) (pieces : List (List ℕ)) → Next pieces → (held : List ℕ) (records drawn : ℕ) → length held < n → Printed held records drawn pieces
  turn zero pieces k held r d s = absurd (omega arith)
  turn (suc n) pieces k held r d s =
      go (held_run room r d held).ended refl
      (λ q.
      turn n pieces k (drop (held_run room r d held).taken held) (held_run room r d held).records (held_run room r d held).drawn
      (rw length-drop (omega (arith, full-takes room r d held l q, (halts room r d held).within))))
    where
      go : (w : Ended) → (held_run room r d held).ended ≡ w
          → ((held_run room r d held).ended ≡ Full → Printed (drop (held_run room r d held).taken held) (held_run room r d held).records (held_run room r d held).drawn pieces)
          → Printed held r d pieces
      go More q f = wants-more held r d pieces k q
      go Full q f = (_, full room (held_run room r d held) l refl q (f q).1)
      go Stopped q f = (_, stop room (held_run room r d held) l refl q)

  -- With any room that holds a line, and over any pieces, the loop prints some text: it does not go round forever.
  pub loop-ends : (pieces : List (List ℕ)) (held : List ℕ) (records drawn : ℕ) → Printed held records drawn pieces
  loop-ends [] held r d = turn (suc (length held)) [] tt held r d (omega arith)
  loop-ends (piece ∷ pieces) held r d = turn (suc (length held)) (piece ∷ pieces) (loop-ends pieces) held r d (omega arith)
