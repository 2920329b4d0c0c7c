-- Row and strip undo one another: what is drawn is seen, and what is seen is the strip of just the row that is given.
--
--   read-own      the units of a ready row's strip read its choices
--   ready-seen    a ready row of a count that the mode can give is seen in its strip
--   drawn-seen    so it is for every row that is drawn
--   by-reading    a row that a reading shows is ready, and what was read is its strip
--   seen-drawn    so it is for every row that is seen
--   seen-modules  so a strip that is seen has the modules of its row
--
-- Assumes nothing.
use Rattle.std.proofs.Common.{◌≡◌, refl, sym, ap, ◌∙◌, true, false, List, ℕ, arith, length}
use Rattle.laws.specs.Elements.{sum}
use Rattle.laws.specs.Units.{Kind, Fits, Reading, found, stopped, read, strip}
use Rattle.laws.proofs.Strips.{strip-read, read-strip}
use Rattle.words.specs.Order.{gives, turned}
use Rattle.words.proofs.Order.{None, none-on}
use Rattle.symbologies.specs.Limits.{offered, drawable}
use Rattle.symbologies.specs.Symbologies.{symbology_of}
use Rattle.symbologies.specs.Rows.{stops, finds, row_of}
use Rattle.symbologies.specs.Strips.{elements_of, modules_of, units_of, strip_of, counted, all_allowed, ready, count_for, units_read, chars_of, row_read, seen_checks, row_seen}
use Rattle.symbologies.proofs.Undo.{Reads, reads}
use Rattle.symbologies.proofs.Proper.{undo}
use Rattle.symbologies.proofs.Ready.{drawn-ready, ready-counted, ready-fits, all-good}
use Rattle.symbologies.proofs.Totals.{unit-widths, elements, modules}
use Rattle.symbologies.proofs.Choices.{shows, Turns, turns}
use Rattle.symbologies.proofs.Counting.{drawn-counted, same_count}
use Rattle.symbologies.proofs.Shown.{Shown, shown-row}

-- ---- drawn and seen

pub read-own : (s : ℕ) (r : List ℕ) → ready s r ≡ true → read (units_of s (length r)) (strip_of s r) ≡ found ((symbology_of s).shows.choices r)
unfolding strip_of
read-own s r h = strip-read (units_of s (length r)) ((symbology_of s).shows.choices r) 0 (all-good s (length r)) (ready-fits s r h)

pub ready-seen : (s m : ℕ) (r : List ℕ) → (symbology_of s).limits.known ≡ true → offered (symbology_of s).limits m ≡ true
    → drawable (symbology_of s).limits m (length r) ≡ true → ready s r ≡ true → row_seen s m (strip_of s r) ≡ gives r
unfolding row_seen
ready-seen s m r k o p h =
    let t : List ℕ = strip_of s r in
    let cs : List ℕ = (symbology_of s).shows.choices r in
    let c : counted s (length r) ≡ true = ready-counted s r h in
    let w : Turns s = turns s (length r) c in
    let n : count_for s (length t) ≡ length r = ap (count_for s) (elements s r h) ∙ same_count s (length r) c in
    let u : units_read s t ≡ found cs = ap (λ (n : ℕ). read (units_of s n) t) n ∙ read-own s r h in
    let i : row_read s t ≡ r
    = ap (λ (z : Reading). chars_of s (count_for s (length t)) (shows (finds z))) u ∙ ap (λ (n : ℕ). chars_of s n (shows cs)) n
    ∙ w.chars (length r) cs c (ready-fits s r h) ∙ w.there r h in
    let none : None (seen_checks s m t)
    = (rw k, (rw o, (rw (n, p), (ap stops u, (ap (λ (z : Reading). (symbology_of s).shows.unlike (shows (finds z))) u ∙ w.like r h, tt))))) in
    none-on turned (seen_checks s m t) (gives (row_read s t)) none ∙ ap gives i

pub drawn-seen : (s m : ℕ) (d r : List ℕ) → row_of s m d ≡ gives r → row_seen s m (strip_of s r) ≡ gives r
drawn-seen s m d r e =
    let a : Reads (symbology_of s) m d r = reads s m d r ((undo s m d r).0 e) in
    ready-seen s m r a.known a.offers (rw (a.count, a.paired)) (drawn-ready s m d r e)

-- ---- seen and drawn

module _ (s : ℕ) (t r : List ℕ) (c : counted s (length r) ≡ true) (l : length t ≡ elements_of s (length r)) where
  by-reading : (z : Reading) → read (units_of s (length r)) t ≡ z → stops z ≡ false → (symbology_of s).shows.unlike (shows (finds z)) ≡ false
      → chars_of s (length r) (shows (finds z)) ≡ r → (ready s r ≡ true) × (strip_of s r ≡ t)
  unfolding ready strip_of
  by-reading (found cs) p q u g =
      let ks : List Kind = units_of s (length r) in
      let w : Turns s = turns s (length r) c in
      let f : Fits ks cs × (strip ks cs ≡ t) = read-strip ks cs 0 t (l ∙ sym (unit-widths s (length r) c)) p in
      let i : r ≡ w.back cs = sym g ∙ w.chars (length r) cs c f.0 in
      let a : all_allowed s true r ≡ true = ap (all_allowed s true) i ∙ w.allows (length r) cs c f.0 u in
      let e : (symbology_of s).shows.choices r ≡ cs = ap (symbology_of s).shows.choices i ∙ w.again (length r) cs c f.0 u in
      (rw (c, a), rw e f.1)
  by-reading (stopped at) p q u g = let z : ◌≡◌ {A = ℕ} 0 1 = cc in absurd (omega arith)

pub seen-drawn : (s m : ℕ) (t r : List ℕ) → row_seen s m t ≡ gives r → (ready s r ≡ true) × (strip_of s r ≡ t)
seen-drawn s m t r e =
    let w : Shown s m t r = shown-row s m t r e in
    by-reading s t r (drawn-counted s m (length r) w.offers w.can) w.long (read (units_of s (length r)) t) refl w.all w.like w.is

pub seen-modules : (s m : ℕ) (t r : List ℕ) → row_seen s m t ≡ gives r → modules_of s r ≡ sum t
seen-modules s m t r e =
    let w : (ready s r ≡ true) × (strip_of s r ≡ t) = seen-drawn s m t r e in
    sym (modules s r w.0) ∙ ap sum w.1
