-- A strip's parts, one cut off after another: a mark draws no choice, and each unit of a part draws one.
--
--   next-choice     the choices from an index on
--   Cut, part_cut   the first part of a strip: how many choices it draws, each one of its rows, and what the others draw
--   Left, started, Turn, turn    the loop over parts: what is left to draw, and a part of it
--   sound-unit    what is asked of a description's unit
--
-- Assumes nothing.
use Rattle.std.proofs.Common.{◌≡◌, refl, sym, ap, ◌∙◌, Bool, true, false, ◌&&◌, ◌||◌, List, [], ◌∷◌, ◌++◌, map, append-nil, append_assoc, ℕ, zero, suc, ◌+◌, ◌<◌, ◌≤◌, arith, add-one, zero-le, suc-le-suc, eqb, length, get_or, take, drop, length-append, drop-cons}
use Rattle.std.proofs.lemmas.List.{length-map}
use Rattle.laws.specs.Search.{pick}
use Rattle.laws.specs.Units.{Kind, fixed, free, strip, Fits}
use Rattle.laws.specs.Writing.{put_in, Put}
use Rattle.laws.proofs.Writing.{Rest, rest-start, rest_put}
use Rattle.laws.specs.Shapes.{many}
use Rattle.laws.specs.Spelling.{counted}
use Rattle.laws.proofs.Finite.{both_left, both_right}
use Rattle.laws.proofs.Spelling.{Below, counted-length}
use Rattle.shapes.specs.declared.parts.Mark.{Mark}
use Rattle.shapes.specs.declared.parts.Part.{Part as Line}
use Rattle.shapes.proofs.Lines.{none-count}
use Rattle.shapes.specs.Sets.{row_of, sets_of}
use Rattle.shapes.specs.Described.{gap_in, mark_in, row_in, unit_in, count_in, is_none, part_in, sizeable, within, sound, Describes}
use Rattle.symbologies.specs.Parts.{Part, close, part_units}
use Rattle.symbologies.specs.Symbologies.{symbology_of}
use Rattle.symbologies.specs.Strips.{units_of}
use Rattle.units.specs.Units.{laid}

-- ---- choices

pub next-choice : (cs : List ℕ) (i : ℕ) → i < length cs → drop i cs ≡ get_or cs i 0 ∷ drop (i + 1) cs
next-choice cs i h = rw add-one (drop-cons cs i 0 h)

-- ---- what is asked of a description

module _ (n : ℕ) (p : Line) (s : sound n p ≡ true) where
  abbrev mark-good : Bool
  mark-good = eqb p.mark.elements 0 || sizeable 9 p.mark.elements

  abbrev unit-good : Bool
  unit-good = sizeable 10 p.unit.elements && within n p.unit

  pub sound-unit : is_none p.count ≡ false → (sizeable 10 p.unit.elements ≡ true) × (within n p.unit ≡ true)
  sound-unit e =
      let b : unit-good ≡ true = rw e at (both_right mark-good (is_none p.count || unit-good) s) in
      (both_left (sizeable 10 p.unit.elements) (within n p.unit) b, both_right (sizeable 10 p.unit.elements) (within n p.unit) b)

-- ---- a mark draws no choice

module _ (m : Mark) (rest : List Kind) (cs : List ℕ) where
  mark-text : strip (mark_in m ++ rest) cs ≡ strip (mark_in m) [] ++ strip rest cs
  mark-text = go (eqb m.elements 0) m.gap
    where
      row : List ℕ
      row = row_of m.elements m.word

      go : (b g : Bool) → strip (pick b [] (gap_in g ++ (fixed row ∷ [])) ++ rest) cs ≡ strip (pick b [] (gap_in g ++ (fixed row ∷ []))) [] ++ strip rest cs
      go true g = refl
      go false true = rw (append-nil row) refl
      go false false = rw (append-nil row) refl

  mark-fits : Fits (mark_in m ++ rest) cs → Fits rest cs
  mark-fits = go (eqb m.elements 0) m.gap
    where
      go : (b g : Bool) → Fits (pick b [] (gap_in g ++ (fixed (row_of m.elements m.word) ∷ [])) ++ rest) cs → Fits rest cs
      go true g f = f
      go false true f = f
      go false false f = f

-- ---- each unit draws one

pub record Cut (unit rest : List Kind) (size k : ℕ) (cs whole : List ℕ) : Type 0 where
  pub few : k ≤ length cs
  pub below : Below size (take k cs)
  pub fits : Fits rest (drop k cs)
  pub is : whole ≡ laid unit (take k cs) ++ strip rest (drop k cs)

module _ (rows : List (List ℕ)) (rest : List Kind) where
  one-text : (g : Bool) (c : ℕ) (cs : List ℕ)
      → strip ((gap_in g ++ (free rows ∷ [])) ++ rest) (c ∷ cs) ≡ strip (gap_in g ++ (free rows ∷ [])) (c ∷ []) ++ strip rest cs
  one-text true c cs = rw (append-nil (get_or rows c [])) refl
  one-text false c cs = rw (append-nil (get_or rows c [])) refl

  one-fits : (g : Bool) (c : ℕ) (cs : List ℕ) → Fits ((gap_in g ++ (free rows ∷ [])) ++ rest) (c ∷ cs) → (c < length rows) × Fits rest cs
  one-fits true c cs f = f
  one-fits false c cs f = f

  one-some : (g : Bool) → Fits ((gap_in g ++ (free rows ∷ [])) ++ rest) [] → ⊥
  one-some true f = f
  one-some false f = f

units-cut : (g : Bool) (rows : List (List ℕ)) (rest : List Kind) (k : ℕ) (cs : List ℕ) → Fits (many k (gap_in g ++ (free rows ∷ [])) rest) cs
    → Cut (gap_in g ++ (free rows ∷ [])) rest (length rows) k cs (strip (many k (gap_in g ++ (free rows ∷ [])) rest) cs)
units-cut g rows rest zero cs f = record { few = zero-le; below = tt; fits = f; is = refl }
units-cut g rows rest (suc k) [] f = absurd (one-some rows (many k (gap_in g ++ (free rows ∷ [])) rest) g f)
units-cut g rows rest (suc k) (c ∷ cs) f =
    let u : List Kind = gap_in g ++ (free rows ∷ []) in
    let o : (c < length rows) × Fits (many k u rest) cs = one-fits rows (many k u rest) g c cs f in
    let t : Cut u rest (length rows) k cs (strip (many k u rest) cs) = units-cut g rows rest k cs o.1 in
    record {
      few = suc-le-suc t.few;
      below = (o.0, t.below);
      fits = t.fits;
      is = one-text rows (many k u rest) g c cs ∙ ap (λ (l : List ℕ). strip u (c ∷ []) ++ l) t.is ∙ sym (append_assoc (strip u (c ∷ [])) _ _);
    }

pub part_cut : (sets : List (List ℕ)) (p : Line) (n : ℕ) (rest : List Part) (cs : List ℕ) → Fits (part_units n (part_in sets p ∷ rest)) cs
    → Cut (unit_in sets p.unit) (part_units n rest) p.unit.size (count_in p.count n) cs
    (strip (many (count_in p.count n) (pick (is_none p.count) [] (unit_in sets p.unit)) (part_units n rest)) cs)
    × (strip (part_units n (part_in sets p ∷ rest)) cs
    ≡ (strip (mark_in p.mark) [] ++ laid (unit_in sets p.unit) (take (count_in p.count n) cs)) ++ strip (part_units n rest) (drop (count_in p.count n) cs))
part_cut sets p n rest cs f =
    (t, mark-text p.mark _ cs ∙ ap (λ (l : List ℕ). strip (mark_in p.mark) [] ++ l) t.is ∙ sym (append_assoc (strip (mark_in p.mark) []) _ _))
  where
    k : ℕ
    k = count_in p.count n

    u : List Kind
    u = unit_in sets p.unit

    long : length (map (row_in sets p.unit) (counted 0 p.unit.size)) ≡ p.unit.size
    long = length-map (counted 0 p.unit.size) (row_in sets p.unit) ∙ counted-length 0 p.unit.size

    go : (b : Bool) → is_none p.count ≡ b → Fits (many k (pick b [] u) (part_units n rest)) cs
        → Cut u (part_units n rest) p.unit.size k cs (strip (many k (pick b [] u) (part_units n rest)) cs)
    go true e g =
        let z : k ≡ 0 = none-count p.count n e in
        let w : Cut u (part_units n rest) p.unit.size 0 cs (strip (part_units n rest) cs)
        = record { few = zero-le; below = tt; fits = rw z at g; is = refl } in
        rw z w
    go false e g = rw long at (units-cut p.unit.gap _ (part_units n rest) k cs g)

    t : Cut u (part_units n rest) p.unit.size k cs (strip (many k (pick (is_none p.count) [] u) (part_units n rest)) cs)
    t = go (is_none p.count) refl (mark-fits p.mark _ cs f)

-- ---- a strip, part by part

module _ (s n : ℕ) where
  abbrev ps : List Part
  ps = (symbology_of s).parts

  -- the parts and choices that are left, what they draw, and where
  pub record Left (goal : List ℕ) (end i : ℕ) (cs out : List ℕ) (at : ℕ) : Type 0 where
    pub fits : Fits (part_units n (drop i ps)) cs
    pub rest : Rest goal end out at (strip (part_units n (drop i ps)) cs)

  abbrev text : List (List ℕ) → Line → List ℕ → List ℕ
  text sets p cs = strip (mark_in p.mark) [] ++ laid (unit_in sets p.unit) cs

  -- what a turn asks of the next part, and what it leaves
  pub record Turn (goal : List ℕ) (end : ℕ) (sets : List (List ℕ)) (p : Line) (i k : ℕ) (cs out : List ℕ) (at : ℕ) : Type 0 where
    pub few : k ≤ length cs
    pub good : sound (length sets) p ≡ true
    pub some : 0 < k → is_none p.count ≡ false
    pub below : Below p.unit.size (take k cs)
    pub reach : at + length (text sets p (take k cs)) ≤ length out
    pub next : {q : List ℕ} {m : ℕ} → Put out at (text sets p (take k cs)) q m → Left goal end (i + 1) (drop k cs) q m

  pub started : (cs out : List ℕ) → Fits (units_of s n) cs → length (strip (units_of s n) cs) ≤ length out
      → Left (put_in 0 (strip (units_of s n) cs) out) (0 + length (strip (units_of s n) cs)) 0 cs out 0
  unfolding units_of
  started cs out f l = record { fits = f; rest = rest-start out (strip (units_of s n) cs) 0 (omega arith) }

  pub turn : {goal cs out : List ℕ} {end i at : ℕ} (sets : List (List ℕ)) (p : Line) → Left goal end i cs out at → i < length ps
      → Describes (sets_of s) ps i p → sets ≡ sets_of s → Turn goal end sets p i (count_in p.count n) cs out at
  turn {goal} {cs} {out} {end} {i} {at} sets p l h d e =
      let k : ℕ = count_in p.count n in
      let c : drop i ps ≡ part_in sets p ∷ drop (i + 1) ps
      = drop-cons ps i (close []) h ∙ rw (e, d.is, add-one i) in
      let t = part_cut sets p n (drop (i + 1) ps) cs (rw c at l.fits) in
      let f : strip (part_units n (drop i ps)) cs ≡ text sets p (take k cs) ++ strip (part_units n (drop (i + 1) ps)) (drop k cs) = rw c t.1 in
      let r : Rest goal end out at (text sets p (take k cs) ++ strip (part_units n (drop (i + 1) ps)) (drop k cs)) = rw f at l.rest in
      let a : length (text sets p (take k cs) ++ strip (part_units n (drop (i + 1) ps)) (drop k cs))
      ≡ length (text sets p (take k cs)) + length (strip (part_units n (drop (i + 1) ps)) (drop k cs)) = length-append (text sets p (take k cs)) _ in
      record {
        few = t.0.few;
        good = rw e d.good;
        some = some-units (is_none p.count) refl;
        below = t.0.below;
        reach = omega (arith, r.ends, r.fits, r.long);
        next = λ u. record { fits = t.0.fits; rest = rest_put _ r u };
      }
    where
      some-units : (b : Bool) → is_none p.count ≡ b → 0 < count_in p.count n → b ≡ false
      some-units false f g = refl
      some-units true f g = absurd (omega (arith, none-count p.count n f))
