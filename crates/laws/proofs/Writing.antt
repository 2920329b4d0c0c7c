-- What is written stands behind what stood there, and nothing else changes.
--
--   placed      a text in its place is `Put`
--   none        nothing written: a refusal leaves the buffer as it was
--   one         a byte; `then`, two texts one behind the other; `more`, a byte behind a text
--   over        a text whose end is written anew, from a place within it on
--   same_text   a text in other words; same_place, the place behind it
--   at_front    a text at index 0
--   Rest        what is left to write: once it stands, the buffer is the goal. `rest-start`, `rest_put`, `rest_end`, a loop that writes
--
-- Assumes nothing.
use Rattle.std.proofs.Common.{◌≡◌, refl, sym, ap, ◌∙◌, List, [], ◌∷◌, ◌++◌, append_assoc, ℕ, ◌+◌, ◌-◌, ◌<◌, ◌≤◌, arith, add-zero, zero-add, add_assoc, add-one, length, take, drop, set, length-append, length-drop, take-append-drop, take_at, drop-drop, length-take-le}
use Rattle.std.proofs.lemmas.List.{set_split}
use lib.Seq.{drop-append-add}
use Rattle.laws.specs.Writing.{put_in, Put, front}

same-long : (out text : List ℕ) (at : ℕ) → at + length text ≤ length out → length (put_in at text out) ≡ length out
same-long out text at h =
    rw (length-append, length-append, length-drop, length-take-le at out (omega arith)) (omega arith)

pub placed : (out text q : List ℕ) (at next : ℕ) → at + length text ≤ length out → q ≡ put_in at text out → next ≡ at + length text → Put out at text q next
placed out text q at next h e n = record { is = e; long = ap length e ∙ same-long out text at h; behind = n; fits = h }

pub none : (out : List ℕ) (at : ℕ) → at ≤ length out → Put out at [] out at
none out at h = placed out [] out at at (omega arith) (rw add-zero (sym (take-append-drop at out))) (omega arith)

pub one : (out : List ℕ) (at b : ℕ) → at < length out → Put out at (b ∷ []) (set out at b) (at + 1)
one out at b h = placed out (b ∷ []) (set out at b) at (at + 1) (omega arith) (rw (add-one at) (set_split out at b h)) refl

-- what stands before the end of a text that was put, and what stands behind it
module _ {out t p : List ℕ} {at n : ℕ} (a : Put out at t p n) where
  as_one : p ≡ take at out ++ t ++ drop (at + length t) out
  as_one = a.is ∙ sym (append_assoc (take at out) t _)

  reach : length (take at out ++ t) ≡ n
  reach =
      let g : length (take at out) ≡ at = length-take-le at out (omega (arith, a.fits)) in
      length-append (take at out) t ∙ omega (arith, a.behind)

  before : take n p ≡ take at out ++ t
  before = ap (take n) as_one ∙ take_at (take at out ++ t) (drop (at + length t) out) n reach

  behind-it : (k : ℕ) → drop (n + k) p ≡ drop (at + length t + k) out
  behind-it k =
      ap (drop (n + k)) as_one ∙ ap (λ (m : ℕ). drop (m + k) (take at out ++ t ++ drop (at + length t) out)) (sym reach)
      ∙ drop-append-add (take at out ++ t) (drop (at + length t) out) k ∙ drop-drop k (at + length t) out

pub then : {out t p u q : List ℕ} {at n m : ℕ} → Put out at t p n → Put p n u q m → Put out at (t ++ u) q m
then {out} {t} {p} {u} {q} {at} {n} {m} a b =
    placed out (t ++ u) q at m (rw length-append (omega (arith, a.behind, a.long, b.fits)))
    (b.is ∙ rw (before a, behind-it a (length u), length-append, ← add_assoc, append_assoc (take at out) t, append_assoc t u))
    (rw length-append (omega (arith, a.behind, b.behind)))

pub more : {out t p : List ℕ} {at n : ℕ} (next b : ℕ) → Put out at t p n → next ≡ n → n < length out → Put out at (t ++ (b ∷ [])) (set p next b) (next + 1)
more {out} {t} {p} {at} {n} next b a e h = rw e (then a (one p n b (omega (arith, a.long))))

pub over : (t u : List ℕ) {out v p q : List ℕ} {at n m l : ℕ} → Put out at (t ++ u) p n → m ≡ at + length t → length u ≤ length v → Put p m v q l → Put out at (t ++ v) q l
over t u {out} {v} {p} {q} {at} {n} {m} {l} a e h b =
    let g : length (take at out) ≡ at = length-take-le at out (omega (arith, a.fits)) in
    let s : length (t ++ u) ≡ length t + length u = length-append t u in
    let w : length (take at out ++ t) ≡ m = length-append (take at out) t ∙ omega arith in
    let f : p ≡ take at out ++ t ++ (u ++ drop (at + length (t ++ u)) out)
    = a.is ∙ ap (λ (z : List ℕ). take at out ++ z) (append_assoc t u _) ∙ sym (append_assoc (take at out) t _) in
    let x : take m p ≡ take at out ++ t = ap (take m) f ∙ take_at (take at out ++ t) _ m w in
    let k : n + (length v - length u) ≡ m + length v = omega (arith, a.behind) in
    let z : at + length (t ++ u) + (length v - length u) ≡ at + (length t + length v) = omega arith in
    let y : drop (m + length v) p ≡ drop (at + (length t + length v)) out = rw (k, z) at (behind-it a (length v - length u)) in
    placed out (t ++ v) q at l (rw length-append (omega (arith, a.long, b.fits)))
    (b.is ∙ rw (x, y, length-append, append_assoc (take at out) t, append_assoc t v))
    (rw length-append (omega (arith, b.behind)))

-- the same text in other words
pub same_text : {out t u q : List ℕ} {at n : ℕ} → t ≡ u → Put out at t q n → Put out at u q n
same_text e a = rw e at a

pub same_place : {out t q : List ℕ} {at n m : ℕ} → n ≡ m → Put out at t q n → Put out at t q m
same_place e a = rw e at a

pub at_front : {out text q : List ℕ} {next : ℕ} → Put out 0 text q next → (next ≡ length text) × (q ≡ front text out)
at_front {out} {text} {q} {next} p = (p.behind ∙ zero-add (length text), p.is ∙ rw (zero-add (length text)))

-- ---- what is left to write

pub record Rest (goal : List ℕ) (end : ℕ) (out : List ℕ) (at : ℕ) (text : List ℕ) : Type 0 where
  pub is : put_in at text out ≡ goal
  pub long : length out ≡ length goal
  pub ends : at + length text ≡ end
  pub fits : end ≤ length goal

pub rest-start : (out text : List ℕ) (at : ℕ) → at + length text ≤ length out → Rest (put_in at text out) (at + length text) out at text
rest-start out text at h =
    record { is = refl; long = sym (same-long out text at h); ends = refl; fits = rw (same-long out text at h) h }

pub rest_put : (u : List ℕ) {goal out t q : List ℕ} {end at n : ℕ} → Rest goal end out at (t ++ u) → Put out at t q n → Rest goal end q n u
rest_put u {goal} {out} {t} {q} {end} {at} {n} r a =
    let s : length (t ++ u) ≡ length t + length u = length-append t u in
    record {
      is = rw (before a, behind-it a (length u), append_assoc (take at out) t, ← append_assoc t u, add_assoc, ← s) r.is;
      long = a.long ∙ r.long;
      ends = omega (arith, a.behind, r.ends);
      fits = r.fits;
    }

pub rest_end : (out text : List ℕ) (at : ℕ) {q : List ℕ} {n : ℕ} → Rest (put_in at text out) (at + length text) q n [] → at + length text ≤ length out → Put out at text q n
rest_end out text at {q} {n} r h =
    placed out text q at n h (sym (take-append-drop n q) ∙ rw add-zero at r.is) (omega (arith, r.ends))
