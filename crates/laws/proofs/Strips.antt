-- Strip and reading undo one another. Whatever the symbology: its sets of rows are good, and nothing else is asked.
--
--   strip-length      the elements of a strip are those of its shape
--   strip-read        what is drawn is read
--   read-strip        what is read is drawn
--   push-some, push-none    what a reading with a row number before it found
--   strip-far         two strips of one shape never differ in exactly one element
--   changed           so a strip with one changed element is never read (for the reader: demand 3 needs `strip-far` alone)
--
-- Assumes nothing.
use Rattle.std.proofs.Common.{◌≡◌, refl, sym, ap, ◌∙◌, ◌≢◌, Bool, true, false, List, [], ◌∷◌, ◌++◌, ℕ, ◌+◌, ◌<◌, arith, ltb, length, get_or, take, drop, set, length-append, take-append-drop, length-drop, length-set, take_at, drop_at, ltb-true, lt-ltb}
use Rattle.laws.specs.Elements.{find, dist}
use Rattle.laws.specs.Units.{Kind, fixed, free, rows, width, widths, strip, Fits, Reading, found, stopped, push, keep, next, read_at, read, All}
use Rattle.laws.proofs.Elements.{find-hit, find-own, dist-self, dist-set, dist-append}
use Rattle.laws.proofs.Sets.{find-row}

pub strip-length : (ks : List Kind) (cs : List ℕ) → All ks → Fits ks cs → length (strip ks cs) ≡ widths ks
strip-length [] [] g f = refl
strip-length [] (c ∷ cs) g f = absurd f
strip-length (fixed r ∷ ks) cs g f = rw length-append (omega (arith, strip-length ks cs g f))
strip-length (free k ∷ ks) [] g f = absurd f
strip-length (free k ∷ ks) (c ∷ cs) g f =
    rw length-append (omega (arith, g.0.long c f.0, strip-length ks cs g.1 f.1))

-- ---- what is drawn is read

read_one : (k : Kind) (ks : List Kind) (c at : ℕ) (r s : List ℕ) (z : Reading) → length r ≡ width k → find (rows k) r ≡ c → c < length (rows k)
    → read_at ks (at + width k) s ≡ z → read_at (k ∷ ks) at (r ++ s) ≡ keep k c z
read_one k ks c at r s z l o h e = rw (take_at r s (width k) l, drop_at r s (width k) l, o, lt-ltb c (length (rows k)) h, e)

pub strip-read : (ks : List Kind) (cs : List ℕ) (at : ℕ) → All ks → Fits ks cs → read_at ks at (strip ks cs) ≡ found cs
strip-read [] [] at g f = refl
strip-read [] (c ∷ cs) at g f = absurd f
strip-read (fixed r ∷ ks) cs at g f =
    read_one (fixed r) ks 0 at r (strip ks cs) (found cs) refl (find-own r) (omega arith) (strip-read ks cs (at + width (fixed r)) g f)
strip-read (free k ∷ ks) [] at g f = absurd f
strip-read (free k ∷ ks) (c ∷ cs) at g f =
    read_one (free k) ks c at (get_or k c []) (strip ks cs) (found cs) (g.0.long c f.0) (find-row _ k g.0 c f.0) f.0
    (strip-read ks cs (at + width (free k)) g.1 f.1)

-- ---- what is read is drawn

next-found : (b : Bool) (k : Kind) (c at : ℕ) (z : Reading) (cs : List ℕ) → next b k c at z ≡ found cs → (b ≡ true) × (keep k c z ≡ found cs)
next-found true k c at z cs e = (refl, e)
next-found false k c at z cs e = (cc, cc)

pub push-some : (c : ℕ) (z : Reading) (d : ℕ) (ds : List ℕ) → push c z ≡ found (d ∷ ds) → (c ≡ d) × (z ≡ found ds)
push-some c (found cs) d ds e = (cc, cc)
push-some c (stopped p) d ds e = (cc, cc)

pub push-none : (c : ℕ) (z : Reading) → push c z ≢ found []
push-none c (found cs) e = let z : ◌≡◌ {A = ℕ} 0 1 = cc in omega arith
push-none c (stopped p) e = let z : ◌≡◌ {A = ℕ} 0 1 = cc in omega arith

empty : (s : List ℕ) → length s ≡ 0 → [] ≡ s
empty [] l = refl
empty (x ∷ xs) l = absurd (omega arith)

-- the first unit of what is read: its row stands at the front
record Front (k : Kind) (ks : List Kind) (cs : List ℕ) (at : ℕ) (s : List ℕ) : Type 0 where
  low : find (rows k) (take (width k) s) < length (rows k)
  row : get_or (rows k) (find (rows k) (take (width k) s)) [] ≡ take (width k) s
  kept : keep k (find (rows k) (take (width k) s)) (read_at ks (at + width k) (drop (width k) s)) ≡ found cs
  left : length (drop (width k) s) ≡ widths ks

front : (k : Kind) (ks : List Kind) (cs : List ℕ) (at : ℕ) (s : List ℕ) → length s ≡ widths (k ∷ ks) → read_at (k ∷ ks) at s ≡ found cs → Front k ks cs at s
front k ks cs at s l e =
    let c : ℕ = find (rows k) (take (width k) s) in
    let n : (ltb c (length (rows k)) ≡ true) × (keep k c (read_at ks (at + width k) (drop (width k) s)) ≡ found cs) = next-found _ k c at _ cs e in
    let h : c < length (rows k) = ltb-true c (length (rows k)) n.0 in
    record { low = h; row = find-hit (rows k) (take (width k) s) h; kept = n.1; left = rw length-drop (omega arith) }

pub read-strip : (ks : List Kind) (cs : List ℕ) (at : ℕ) (s : List ℕ) → length s ≡ widths ks → read_at ks at s ≡ found cs → Fits ks cs × (strip ks cs ≡ s)
read-strip [] [] at s l e = (tt, empty s l)
read-strip [] (c ∷ cs) at s l e = let z : ◌≡◌ {A = ℕ} 0 1 = cc in absurd (omega arith)
read-strip (fixed r ∷ ks) cs at s l e =
    let f : Front (fixed r) ks cs at s = front (fixed r) ks cs at s l e in
    let o : find (r ∷ []) (take (length r) s) ≡ 0 = omega (arith, f.low) in
    let t : Fits ks cs × (strip ks cs ≡ drop (length r) s) = read-strip ks cs (at + length r) (drop (length r) s) f.left f.kept in
    (t.0, rw t.1 (ap (λ (x : List ℕ). x ++ drop (length r) s) (rw o at f.row) ∙ take-append-drop (length r) s))
read-strip (free k ∷ ks) [] at s l e =
    absurd
    (push-none (find k (take (width (free k)) s)) (read_at ks (at + width (free k)) (drop (width (free k)) s))
    (front (free k) ks [] at s l e).kept)
read-strip (free k ∷ ks) (c ∷ cs) at s l e =
    let f : Front (free k) ks (c ∷ cs) at s = front (free k) ks (c ∷ cs) at s l e in
    let n : (find k (take (width (free k)) s) ≡ c) × (read_at ks (at + width (free k)) (drop (width (free k)) s) ≡ found cs) = push-some _ _ c cs f.kept in
    let t : Fits ks cs × (strip ks cs ≡ drop (width (free k)) s) = read-strip ks cs (at + width (free k)) (drop (width (free k)) s) f.left n.1 in
    ((rw (← n.0) f.low, t.0), rw (t.1, ← n.0, f.row) (take-append-drop (width (free k)) s))

-- ---- two strips of one shape

pub strip-far : (ks : List Kind) (cs ds : List ℕ) → All ks → Fits ks cs → Fits ks ds → dist (strip ks cs) (strip ks ds) ≢ 1
strip-far [] [] [] g f h = omega arith
strip-far [] [] (d ∷ ds) g f h = absurd h
strip-far [] (c ∷ cs) ds g f h = absurd f
strip-far (fixed r ∷ ks) cs ds g f h =
    rw (dist-append r r (strip ks cs) (strip ks ds) refl) (omega (arith, dist-self r, strip-far ks cs ds g f h))
strip-far (free k ∷ ks) [] ds g f h = absurd f
strip-far (free k ∷ ks) (c ∷ cs) [] g f h = absurd h
strip-far (free k ∷ ks) (c ∷ cs) (d ∷ ds) g f h =
    rw (dist-append (get_or k c []) (get_or k d []) (strip ks cs) (strip ks ds) (g.0.long c f.0 ∙ sym (g.0.long d h.0)))
    (omega (arith, g.0.far c d f.0 h.0, strip-far ks cs ds g.1 f.1 h.1))

pub changed : (ks : List Kind) (cs ds : List ℕ) (i w : ℕ) → All ks → Fits ks cs → i < widths ks → w ≢ get_or (strip ks cs) i 0
    → read ks (set (strip ks cs) i w) ≢ found ds
changed ks cs ds i w g f h n e =
    let l : length (strip ks cs) ≡ widths ks = strip-length ks cs g f in
    let t : Fits ks ds × (strip ks ds ≡ set (strip ks cs) i w) = read-strip ks ds 0 (set (strip ks cs) i w) (length-set (strip ks cs) i w ∙ l) e in
    strip-far ks cs ds g f t.0 (rw t.1 (dist-set (strip ks cs) i w (omega arith) n))
