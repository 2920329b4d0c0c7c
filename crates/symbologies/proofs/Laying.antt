-- Laws of laying out, whatever the symbology: which choices fit a repeated group, and what a strip adds up to. A unit of a part has at most
-- one free unit, and where every free set is uniform the choice changes neither the elements nor the modules.
--
--   One, fits-many    each choice below b fits a group; then k of them fit k groups
--   repeated          so one group for each choice
--   total, add_parts  what marks and units add up to; the strip's parts do
--   add-widths, add-tally    so of elements and of modules
--   Steady            every free set is uniform; steady-parts, of all parts if of every mark and unit
--   steady-good       so it is good
--   tally             the modules of units
--   steady-sum        a strip of such units has that many modules
--
-- Assumes nothing.
use Rattle.std.proofs.Common.{◌≡◌, refl, List, [], ◌∷◌, ◌++◌, ℕ, zero, suc, ◌+◌, ◌*◌, ◌<◌, ◌≤◌, arith, le_of_suc-le-suc, not-suc-le-zero, length, get_or, take, drop}
use lib.Seq.{take-length, drop-length}
use Rattle.laws.specs.Elements.{sum}
use Rattle.laws.specs.Units.{Kind, fixed, free, rows, width, widths, strip, Fits, All}
use Rattle.laws.specs.Shapes.{many}
use Rattle.laws.proofs.Finite.{Each}
use Rattle.laws.proofs.Elements.{sum-append}
use Rattle.laws.proofs.Shapes.{holds-many, add-many}
use Rattle.laws.proofs.Spelling.{Below}
use Rattle.tables.proofs.Good.{Uniform}
use Rattle.symbologies.specs.Parts.{Part, part_units}

-- ---- what fits

fits-append : (a b : List Kind) (cs ds : List ℕ) → Fits a cs → Fits b ds → Fits (a ++ b) (cs ++ ds)
fits-append [] b [] ds f g = g
fits-append [] b (c ∷ cs) ds f g = absurd f
fits-append (fixed r ∷ a) b cs ds f g = fits-append a b cs ds f g
fits-append (free k ∷ a) b [] ds f g = absurd f
fits-append (free k ∷ a) b (c ∷ cs) ds f g = (f.0, fits-append a b cs ds f.1 g)

abbrev pub One : ℕ → List Kind → Type 0
One b group = (c : ℕ) → c < b → Fits group (c ∷ [])

pub fits-many : (b : ℕ) (group rest : List Kind) → One b group → (k : ℕ) (cs : List ℕ) → k ≤ length cs → Below b (take k cs) → Fits rest (drop k cs)
    → Fits (many k group rest) cs
fits-many b g rest o zero cs l p f = f
fits-many b g rest o (suc k) [] l p f = absurd (not-suc-le-zero l)
fits-many b g rest o (suc k) (c ∷ cs) l p f =
    fits-append g (many k g rest) (c ∷ []) cs (o c p.0) (fits-many b g rest o k cs (le_of_suc-le-suc l) p.1 f)

pub repeated : (b : ℕ) (group rest : List Kind) → One b group → Fits rest [] → (r : List ℕ) → Below b r → Fits (many (length r) group rest) r
repeated b group rest o f r p = fits-many b group rest o (length r) r (omega arith) (rw take-length p) (rw drop-length f)

-- ---- what it adds up to

module _ (f : List Kind → ℕ) where
  abbrev pub total : ℕ → List Part → ℕ
  total n [] = f []
  total n (p ∷ ps) = f p.mark + (p.count n * f p.unit + total n ps)

  pub add_parts : ((a b : List Kind) → f (a ++ b) ≡ f a + f b) → (n : ℕ) (ps : List Part) → f (part_units n ps) ≡ total n ps
  add_parts add n [] = refl
  add_parts add n (p ∷ ps) =
      rw (add p.mark (many (p.count n) p.unit (part_units n ps)), add-many f add (p.count n) p.unit (part_units n ps), add_parts add n ps)

widths-append : (a b : List Kind) → widths (a ++ b) ≡ widths a + widths b
widths-append [] b = omega arith
widths-append (k ∷ a) b = omega (arith, widths-append a b)

pub add-widths : (n : ℕ) (ps : List Part) → widths (part_units n ps) ≡ total widths n ps
add-widths = add_parts widths widths-append

abbrev pub tally : List Kind → ℕ
tally [] = 0
tally (k ∷ ks) = sum (get_or (rows k) 0 []) + tally ks

tally-append : (a b : List Kind) → tally (a ++ b) ≡ tally a + tally b
tally-append [] b = omega arith
tally-append (k ∷ a) b = omega (arith, tally-append a b)

pub add-tally : (n : ℕ) (ps : List Part) → tally (part_units n ps) ≡ total tally n ps
add-tally = add_parts tally tally-append

-- ---- where every free set is uniform

abbrev pub Steady : List Kind → Type 0
Steady [] = Unit {0}
Steady (fixed r ∷ ks) = Steady ks
Steady (free k ∷ ks) = Uniform (width (free k)) (sum (get_or k 0 [])) k × Steady ks

steady-append : (a b : List Kind) → Steady a → Steady b → Steady (a ++ b)
steady-append [] b g h = h
steady-append (fixed r ∷ a) b g h = steady-append a b g h
steady-append (free k ∷ a) b g h = (g.0, steady-append a b g.1 h)

pub steady-parts : (ps : List Part) → Each (λ (p : Part). Steady p.mark × Steady p.unit) ps → (n : ℕ) → Steady (part_units n ps)
steady-parts [] e n = tt
steady-parts (p ∷ ps) e n =
    steady-append p.mark (many (p.count n) p.unit (part_units n ps)) e.0.0
    (holds-many Steady steady-append (p.count n) p.unit (part_units n ps) e.0.1 (steady-parts ps e.1 n))

pub steady-good : (ks : List Kind) → Steady ks → All ks
steady-good [] g = tt
steady-good (fixed r ∷ ks) g = steady-good ks g
steady-good (free k ∷ ks) g = (g.0.good, steady-good ks g.1)

pub steady-sum : (ks : List Kind) (cs : List ℕ) → Steady ks → Fits ks cs → sum (strip ks cs) ≡ tally ks
steady-sum [] [] g f = refl
steady-sum [] (c ∷ cs) g f = absurd f
steady-sum (fixed r ∷ ks) cs g f = rw sum-append (omega (arith, steady-sum ks cs g f))
steady-sum (free k ∷ ks) [] g f = absurd f
steady-sum (free k ∷ ks) (c ∷ cs) g f = rw sum-append (omega (arith, g.0.same c f.0, steady-sum ks cs g.1 f.1))
