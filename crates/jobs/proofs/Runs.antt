-- A run, a record at a time.
--
--   by-same          a choice by how bytes begin is the same where it is so for a whole record
--   Whole, whole_is  what a whole record at the front is; `whole-rest`, and what stands behind it; `shorter`, which is less
--   run_step, held-step    a run, and a call, are the first record's line and the same over the rest; `held_on`, that step of a call
--   full-took        where there is room for a line, a call that ends for want of room has taken a record
--   by-none          and the choice that says why, where there is none
--   found            the record that the code finds is a whole record at the front
--   Going            the loop over the held bytes: `begun`, `next`, and `ended-none`, `ended-full`
--   counted-one, counted-test    one more, as the code counts
--
-- Assumes nothing.
use Rattle.std.proofs.Common.{◌≡◌, refl, sym, ap, ◌∙◌, Bool, true, false, List, [], ◌∷◌, ◌++◌, append-nil, append_assoc, ℕ, zero, suc, ◌+◌, ◌-◌, ◌<◌, ◌≤◌, min, arith, zero-add, add-zero, add_assoc, leb, ltb, length, get_or, take, drop, length-drop, drop-drop, leb-true, le-leb, lt-ltb, le-ltb, ltb-true, ltb-false, Some}
use Rattle.std.specs.Int.{from_bool}
use Rattle.laws.specs.Search.{pick}
use Rattle.lines.specs.Sizes.{longest_line}
use Rattle.jobs.specs.declared.run.Ended.{Ended}
use Rattle.jobs.specs.declared.run.Ended.TheVariants.{More, Full, Stopped}
use Rattle.jobs.specs.declared.run.Run.{Run}
use Rattle.jobs.specs.Kinds.{symbology_of, field_of, known, body_of}
use Rattle.laws.specs.Writing.{Put, front}
use Rattle.lines.specs.Line.{is_drawn, line_of, end_line, stop_line}
use Rattle.jobs.specs.Run.{Job, Front, nothing, unknown, cut, whole, job_of, front_of, by, counted, counted_if, line_for, drawn_for, run_by, run_from, Held, ends, behind, held_by, held_run, halted_at, run_of}
use Rattle.jobs.specs.Found.{known_body, why_none}
use Rattle.jobs.proofs.Bodies.{body-some, body-field}
use Rattle.laws.proofs.Writing.{placed, then, at_front}

-- ---- how bytes begin

by-same : {A : Type 0} (z : Front) (a b c : A) (f g : Job → List ℕ → A) → ((x : Job) (rest : List ℕ) → z ≡ whole x rest → f x rest ≡ g x rest)
    → by z a b c f ≡ by z a b c g
by-same nothing a b c f g h = refl
by-same unknown a b c f g h = refl
by-same cut a b c f g h = refl
by-same (whole x rest) a b c f g h = h x rest refl

-- where there is no whole record, it is the choice that says why
by-none : {A : Type 0} (z : Front) (why : Ended) (f : Ended → A) (g : Job → List ℕ → A) → why_none z ≡ Some why → by z (f More) (f Stopped) (f More) g ≡ f why
by-none nothing why f g e = let q : More ≡ why = cc in ap f q
by-none unknown why f g e = let q : Stopped ≡ why = cc in ap f q
by-none cut why f g e = let q : More ≡ why = cc in ap f q
by-none (whole x rest) why f g e = let z : ◌≡◌ {A = ℕ} 0 1 = cc in absurd (omega arith)

-- the record at the front of bytes that begin with this kind
pub record Whole (kind : ℕ) (body : List ℕ) (x : Job) (rest : List ℕ) : Type 0 where
  pub is_known : known kind ≡ true
  pub holds : body_of kind ≤ length body
  pub job : x ≡ job_of kind body
  pub left : rest ≡ drop (body_of kind) body

whole_by : (kind : ℕ) (body : List ℕ) (x : Job) (rest : List ℕ) (b c : Bool) → known kind ≡ b → leb (body_of kind) (length body) ≡ c
    → pick b (pick c (whole (job_of kind body) (drop (body_of kind) body)) cut) unknown ≡ whole x rest → Whole kind body x rest
whole_by kind body x rest false c p q e = let z : ◌≡◌ {A = ℕ} 0 1 = cc in absurd (omega arith)
whole_by kind body x rest true false p q e = let z : ◌≡◌ {A = ℕ} 0 1 = cc in absurd (omega arith)
whole_by kind body x rest true true p q e = record { is_known = p; holds = leb-true (body_of kind) (length body) q; job = cc; left = cc }

pub whole_is : (kind : ℕ) (body : List ℕ) (x : Job) (rest : List ℕ) → front_of (kind ∷ body) ≡ whole x rest → Whole kind body x rest
whole_is kind body x rest e = whole_by kind body x rest (known kind) (leb (body_of kind) (length body)) refl refl e

pub whole-rest : (bytes : List ℕ) (x : Job) (rest : List ℕ) → front_of bytes ≡ whole x rest
    → (suc (body_of x.kind) ≤ length bytes) × (rest ≡ drop (suc (body_of x.kind)) bytes)
whole-rest [] x rest e = let z : ◌≡◌ {A = ℕ} 0 1 = cc in absurd (omega arith)
whole-rest (kind ∷ body) x rest e =
    let w = whole_is kind body x rest e in
    let k : x.kind ≡ kind = ap (λ (j : Job). j.kind) w.job in
    rw k (omega (arith, w.holds), w.left)

pub shorter : (bytes : List ℕ) (x : Job) (rest : List ℕ) → front_of bytes ≡ whole x rest → length rest < length bytes
shorter bytes x rest e =
    let w = whole-rest bytes x rest e in
    rw (w.1, length-drop) (omega (arith, w.0))

-- ---- steps: as many as bytes are enough

run-enough : (j k records drawn : ℕ) (bytes : List ℕ) → length bytes ≤ j → length bytes ≤ k → run_by j records drawn bytes ≡ run_by k records drawn bytes
run-enough zero zero r d bytes h l = refl
run-enough zero (suc k) r d [] h l = refl
run-enough zero (suc k) r d (b ∷ bs) h l = absurd (omega arith)
run-enough (suc j) zero r d [] h l = refl
run-enough (suc j) zero r d (b ∷ bs) h l = absurd (omega arith)
run-enough (suc j) (suc k) r d bytes h l =
    by-same (front_of bytes) _ _ _ _ _
    (λ x rest e.
    ap (λ (t : List ℕ). line_for (counted r) x ++ t)
    (run-enough j k (counted r) (drawn_for d x) rest (omega (arith, shorter bytes x rest e)) (omega (arith, shorter bytes x rest e))))

pub run_step : (records drawn : ℕ) (bytes : List ℕ)
    → run_from records drawn bytes
    ≡ by (front_of bytes) (end_line records drawn) (stop_line records) (stop_line records) (λ x rest. line_for (counted records) x ++ run_from (counted records) (drawn_for drawn x) rest)
unfolding run_from
run_step r d [] = refl
run_step r d (b ∷ bs) =
    by-same (front_of (b ∷ bs)) _ _ _ _ _
    (λ x rest e.
    ap (λ (t : List ℕ). line_for (counted r) x ++ t)
    (run-enough (length bs) (length rest) (counted r) (drawn_for d x) rest (omega (arith, shorter (b ∷ bs) x rest e)) (omega arith)))

-- one record more where there is room for its line
abbrev pub held_on : ℕ → ℕ → ℕ → Job → Held → Held
held_on room records drawn x h = pick (ltb room longest_line) (ends records drawn Full) (behind (suc (body_of x.kind)) (line_for (counted records) x) h)

held-enough : (j k room records drawn : ℕ) (bytes : List ℕ) → length bytes ≤ j → length bytes ≤ k → held_by j room records drawn bytes ≡ held_by k room records drawn bytes
held-enough zero zero m r d bytes h l = refl
held-enough zero (suc k) m r d [] h l = refl
held-enough zero (suc k) m r d (b ∷ bs) h l = absurd (omega arith)
held-enough (suc j) zero m r d [] h l = refl
held-enough (suc j) zero m r d (b ∷ bs) h l = absurd (omega arith)
held-enough (suc j) (suc k) m r d bytes h l =
    by-same (front_of bytes) _ _ _ _ _
    (λ x rest e.
    ap (held_on m r d x)
    (held-enough j k (m - length (line_for (counted r) x)) (counted r) (drawn_for d x) rest (omega (arith, shorter bytes x rest e)) (omega (arith, shorter bytes x rest e))))

pub held-step : (room records drawn : ℕ) (bytes : List ℕ)
    → held_run room records drawn bytes
    ≡ by (front_of bytes) (ends records drawn More) (ends records drawn Stopped) (ends records drawn More)
    (λ x rest. held_on room records drawn x (held_run (room - length (line_for (counted records) x)) (counted records) (drawn_for drawn x) rest))
unfolding held_run
held-step m r d [] = refl
held-step m r d (b ∷ bs) =
    by-same (front_of (b ∷ bs)) _ _ _ _ _
    (λ x rest e.
    ap (held_on m r d x)
    (held-enough (length bs) (length rest) (m - length (line_for (counted r) x)) (counted r) (drawn_for d x) rest (omega (arith, shorter (b ∷ bs) x rest e)) (omega arith)))

-- where there is room for a line, a call that ends for want of room has taken a record

full-by : (z : Front) (room records drawn : ℕ) (rest : Job → List ℕ → Held) → longest_line ≤ room
    → (by z (ends records drawn More) (ends records drawn Stopped) (ends records drawn More) (λ x after. held_on room records drawn x (rest x after))).ended ≡ Full
    → 0 < (by z (ends records drawn More) (ends records drawn Stopped) (ends records drawn More) (λ x after. held_on room records drawn x (rest x after))).taken
full-by nothing m r d rest l e = let z : ◌≡◌ {A = ℕ} 0 1 = cc in absurd (omega arith)
full-by unknown m r d rest l e = let z : ◌≡◌ {A = ℕ} 0 1 = cc in absurd (omega arith)
full-by cut m r d rest l e = let z : ◌≡◌ {A = ℕ} 0 1 = cc in absurd (omega arith)
full-by (whole x after) m r d rest l e = rw (le-ltb m longest_line l) (omega arith)

pub full-took : (room records drawn : ℕ) (held : List ℕ) → longest_line ≤ room
    → (held_run room records drawn held).ended ≡ Full → 0 < (held_run room records drawn held).taken
full-took m r d held l = rw (held-step m r d held) (full-by (front_of held) m r d _ l)

-- ---- the record that the code finds

found-by : (kind body : ℕ) (behind field rest : List ℕ) → known kind ≡ true → body ≡ body_of kind → body ≤ length behind
    → field ≡ take (body - 2) (drop 2 behind) → rest ≡ drop body behind
    → front_of (kind ∷ behind) ≡ whole (record { kind = kind; mode = get_or behind 0 0; count = get_or behind 1 0; field = field }) rest
found-by kind body behind field rest k b h f r =
    let n : body - 2 ≡ field_of kind = omega (arith, body-field kind k) in
    rw (k, le-leb (body_of kind) (length behind) (omega arith), f, r, n, b)

pub found : (held behind field rest : List ℕ) (body : ℕ) → 0 < length held → behind ≡ drop 1 held → known_body (get_or held 0 0) ≡ Some body → body ≤ length behind
    → field ≡ take (body - 2) (drop 2 behind) → rest ≡ drop body behind
    → front_of held ≡ whole (record { kind = get_or held 0 0; mode = get_or behind 0 0; count = get_or behind 1 0; field = field }) rest
found [] behind field rest body l e k h f r = absurd (omega arith)
found (kind ∷ after) behind field rest body l e k h f r =
    let w = body-some kind body k in
    rw e (found-by kind body after field rest w.0 w.1 (rw e at h) (rw e at f) (rw e at r))

-- ---- the loop: what is taken and written, and the same run over what is left

behind-none : (h : Held) → behind 0 [] h ≡ h
behind-none h = rw (zero-add h.taken) refl

behind-behind : (m n : ℕ) (t u : List ℕ) (h : Held) → behind m t (behind n u h) ≡ behind (m + n) (t ++ u) h
behind-behind m n t u h = rw (add_assoc, append_assoc) refl

pub record Going (held : List ℕ) (records drawn : ℕ) (out₀ out : List ℕ) (taken written number good : ℕ) : Type 0 where
  pub within : taken ≤ length held
  pub text : List ℕ
  pub put : Put out₀ 0 text out written
  pub same : held_run (length out₀) records drawn held ≡ behind taken text (held_run (length out₀ - written) number good (drop taken held))

pub begun : (held : List ℕ) (records drawn : ℕ) (out : List ℕ) → Going held records drawn out out 0 0 records drawn
begun held r d out = record {
  within = omega arith;
  text = [];
  put = placed out [] out 0 0 (omega arith) refl refl;
  same = sym (behind-none (held_run (length out) r d held)) ∙ ap (λ (m : ℕ). behind 0 [] (held_run m r d held)) (omega arith);
}

module _ {held : List ℕ} {records drawn : ℕ} {out₀ out : List ℕ} {taken written number good : ℕ} (g : Going held records drawn out₀ out taken written number good) where
  -- the answer r and the buffer of a run that ends here
  abbrev Ends : Ended → Type 0
  Ends why =
      (r : Run) → r ≡ halted_at taken written number good why
      → (r ≡ run_of (held_run (length out₀) records drawn held))
      × ((out ≡ front (held_run (length out₀) records drawn held).text out₀) × ((r.taken ≤ length held) × (r.written ≤ length out₀)))

  ended : (why : Ended) → held_run (length out₀ - written) number good (drop taken held) ≡ ends number good why → Ends why
  ended why e r q =
      let w = at_front g.put in
      let s : held_run (length out₀) records drawn held ≡ record { taken = taken; text = g.text; records = number; drawn = good; ended = why }
      = g.same ∙ ap (behind taken g.text) e ∙ rw (add-zero, append-nil) refl in
      rw q (rw (s, w.0) refl, (rw s w.1, (g.within, omega (arith, g.put.behind, g.put.fits))))

  -- what the rest of the held bytes gives, by how they begin
  rest : by (front_of (drop taken held)) (ends number good More) (ends number good Stopped) (ends number good More)
      (λ x rest. held_on (length out₀ - written) number good x (held_run (length out₀ - written - length (line_for (counted number) x)) (counted number) (drawn_for good x) rest))
      ≡ held_run (length out₀ - written) number good (drop taken held)
  rest = sym (held-step (length out₀ - written) number good (drop taken held))

  pub ended-none : (why : Ended) → why_none (front_of (drop taken held)) ≡ Some why → Ends why
  ended-none why e = ended why (sym rest ∙ by-none (front_of (drop taken held)) why (ends number good) _ e)

  pub ended-full : (x : Job) (after : List ℕ) → front_of (drop taken held) ≡ whole x after → length out - written < longest_line → Ends Full
  ended-full x after e h = ended Full (sym rest ∙ rw (e, lt-ltb (length out₀ - written) longest_line (omega (arith, g.put.long))))

  pub next : (x : Job) (after out₁ : List ℕ) (taken₁ written₁ number₁ good₁ : ℕ) → front_of (drop taken held) ≡ whole x after → longest_line ≤ length out - written
      → taken₁ ≡ length held - length after → number₁ ≡ counted number
      → (symbology : ℕ) → symbology ≡ symbology_of x.kind → Put out written (line_of number₁ symbology x.mode x.count x.field) out₁ written₁
      → (b : Bool) → b ≡ is_drawn symbology x.mode x.count x.field → good₁ ≡ counted_if b good
      → Going held records drawn out₀ out₁ taken₁ written₁ number₁ good₁
  next x after out₁ taken₁ written₁ number₁ good₁ f h k n symbology s w b v c =
      let r = whole-rest (drop taken held) x after f in
      let m : length after ≡ length held - taken - suc (body_of x.kind)
      = ap length r.1 ∙ length-drop (suc (body_of x.kind)) (drop taken held) ∙ ap (λ (i : ℕ). i - suc (body_of x.kind)) (length-drop taken held) in
      let t : taken₁ ≡ taken + suc (body_of x.kind) = omega (arith, r.0, length-drop taken held, g.within) in
      let a : after ≡ drop taken₁ held = r.1 ∙ drop-drop (suc (body_of x.kind)) taken held ∙ rw t in
      let e = rw a at f in
      let p : Put out written (line_for number₁ x) out₁ written₁ = rw s at w in
      let q : b ≡ is_drawn (symbology_of x.kind) x.mode x.count x.field = rw s at v in record {
        within = omega arith;
        text = g.text ++ line_for number₁ x;
        put = then g.put p;
        same =
            let d : good₁ ≡ drawn_for good x = c ∙ ap (λ (v : Bool). counted_if v good) q in
            let r : length out₀ - written - length (line_for number₁ x) ≡ length out₀ - written₁ = omega (arith, p.behind) in
            g.same ∙ ap (behind taken g.text) (sym rest ∙ rw (e, le-ltb (length out₀ - written) longest_line (omega (arith, g.put.long)), ← n, r, ← d))
            ∙ behind-behind taken (suc (body_of x.kind)) g.text (line_for number₁ x) (held_run (length out₀ - written₁) number₁ good₁ (drop taken₁ held)) ∙ rw (← t);
      }

-- ---- the numbers, which stop at the largest

counted-by : (n : ℕ) (b : Bool) → ltb n 18446744073709551615 ≡ b → n ≤ 18446744073709551615 → min (n + 1) 18446744073709551615 ≡ pick b (n + 1) n
counted-by n true e h = omega (arith, ltb-true n 18446744073709551615 e)
counted-by n false e h = omega (arith, ltb-false n 18446744073709551615 e)

pub counted-one : (n : ℕ) → n ≤ 18446744073709551615 → min (n + 1) 18446744073709551615 ≡ counted n
unfolding counted
counted-one n h = counted-by n (ltb n 18446744073709551615) refl h

pub counted-test : (b : Bool) (n : ℕ) → n ≤ 18446744073709551615 → min (n + from_bool b) 18446744073709551615 ≡ counted_if b n
counted-test true n h = counted-one n h
counted-test false n h = omega arith
