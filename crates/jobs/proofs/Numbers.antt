-- Which numbers stand in no line of a job. 8 does not either: the room is as long as the longest strip (lines, proofs/Fits.antt, `no-eight`).
--
--   no_one    a byte that is no symbology is no kind either, so that no record's answer is 1
--
-- Assumes nothing.
use Rattle.std.proofs.Common.{◌≡◌, refl, sym, ◌≢◌, Bool, true, false, not, List, [], ◌∷◌, ℕ, arith, leb, length, take, drop, replicate}
use Rattle.laws.specs.Search.{pick}
use Rattle.laws.proofs.Finite.{upto-at}
use Rattle.words.specs.Said.{said_of}
use Rattle.words.proofs.Order.{Reached, first-reached, hit}
use Rattle.symbologies.specs.Sizes.{longest}
use Rattle.symbologies.specs.Symbologies.{symbologies, symbology_of as line_of}
use Rattle.strip.specs.Drawing.{drawing_checks, draw_field, drawn_answer}
use Rattle.strip.proofs.Order.{draw-first}
use Rattle.lines.specs.Line.{call_of, said_for}
use Rattle.jobs.specs.Kinds.{symbology_of, known, body_of}
use Rattle.jobs.specs.Run.{Job, unknown, cut, whole, job_of, front_of}
use Rattle.jobs.proofs.Bodies.{known-most}

-- each kind draws a symbology
kind-draws : (kind : ℕ) → known kind ≡ true → (line_of (symbology_of kind)).limits.known ≡ true
unfolding known line_of symbologies
kind-draws kind e =
    rw e at (upto-at 10 (λ k. pick (known k) (line_of (symbology_of k)).limits.known true) refl kind (omega (arith, known-most kind e)))

-- 1 is answered where there is no such symbology
one-unknown : (s m count : ℕ) (field out : List ℕ) → (said_of (draw_field s m count field out).answer).number ≡ 1 → not (line_of s).limits.known ≡ true
unfolding drawing_checks drawn_answer
one-unknown s m count field out e =
    let w : Reached 1 (drawing_checks s m count field out)
    = first-reached 1 (drawing_checks s m count field out) (drawn_answer s m (take count field)) (omega arith) (rw (draw-first s m count field out) at e) in
    hit (λ r. r.1.1.1.1.1.1.1.1) w

not-one : (kind mode count : ℕ) (field : List ℕ) → known kind ≡ true → (said_for (symbology_of kind) mode count field).number ≢ 1
unfolding call_of
not-one kind mode count field k e =
    let b : not (line_of (symbology_of kind)).limits.known ≡ true = one-unknown (symbology_of kind) mode count field (replicate longest 0) e in
    let f : ◌≡◌ {A = Bool} false true = rw (kind-draws kind k) at b in
    let z : ◌≡◌ {A = ℕ} 0 1 = cc in
    omega arith

-- what begins a job, and its first record if it is one
whole-known : (kind : ℕ) (rest more : List ℕ) (x : Job) (b c : Bool) → known kind ≡ b
    → pick b (pick c (whole (job_of kind rest) (drop (body_of kind) rest)) cut) unknown ≡ whole x more → (known kind ≡ true) × (x ≡ job_of kind rest)
whole-known kind rest more x true true k e = let q : job_of kind rest ≡ x = cc in (k, sym q)
whole-known kind rest more x true false k e = let z : ◌≡◌ {A = ℕ} 0 1 = cc in absurd (omega arith)
whole-known kind rest more x false c k e = let z : ◌≡◌ {A = ℕ} 0 1 = cc in absurd (omega arith)

-- a line is printed for each whole record, and for nothing else (`run_by`)
pub no_one : (bytes rest : List ℕ) (x : Job) → front_of bytes ≡ whole x rest → (said_for (symbology_of x.kind) x.mode x.count x.field).number ≢ 1
no_one [] rest x e = let z : ◌≡◌ {A = ℕ} 0 1 = cc in absurd (omega arith)
no_one (kind ∷ bytes) rest x e =
    let w : (known kind ≡ true) × (x ≡ job_of kind bytes) = whole-known kind bytes rest x (known kind) (leb (body_of kind) (length bytes)) refl e in
    rw w.1 (not-one kind _ _ _ w.0)
