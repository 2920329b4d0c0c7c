-- `data_of` and `row_of` undo one another, for every symbology and mode by one argument: the coder's spelling and its way back, and the
-- check put in at its place and left out again.
--
--   held            a count that is held; hold, and the other way
--   empty-rest      nothing stands behind the data alone
--   Drew, drew, drawn      an accepted request, and all that it passed, each way
--   Reads, reads, read     a row that reads, and all that it passed, each way
--   spelt           the characters that are spelled are those that are read back
--   undone, redone  what is drawn reads, and what reads is drawn, for a symbology that is proper
--
-- Assumes nothing.
use Rattle.std.proofs.Common.{◌≡◌, refl, sym, ap, ◌∙◌, ◌≢◌, ◌⊎◌, inl, inr, Bool, true, false, ◌&&◌, not, List, [], ◌∷◌, ◌++◌, ℕ, ◌+◌, ◌-◌, ◌<◌, ◌≤◌, arith, eqb, ltb, leb, length, take, eq-eqb, ne_eqb, ltb-false, leb-true, le-leb, le-ltb}
use native.Mathlib.Decide.{ℕ_discrete}
use lib.Seq.{take-length, drop-length}
use Rattle.std.proofs.lemmas.Bool.{not-true, not-false}
use Rattle.laws.specs.Search.{pick}
use Rattle.laws.specs.Units.{Reading, found, stopped}
use Rattle.laws.specs.Spelling.{stands, Coder, took, spell}
use Rattle.laws.specs.Rules.{place_of, checked_of, passes}
use Rattle.laws.proofs.Finite.{both_left, both_right}
use Rattle.laws.proofs.Spelling.{spell-unspell, unspell-spell, found-nil, spell-long, spell-same}
use Rattle.laws.proofs.Rules.{long-without, checked-long, checked-others, passing-checked}
use Rattle.words.specs.Order.{Check, gives, turned}
use Rattle.words.proofs.Order.{None, none-on, given}
use Rattle.symbologies.specs.declared.limits.Limits.{Limits}
use Rattle.symbologies.specs.Limits.{offered, holds, odd, added, drawable, least_of, most_of}
use Rattle.symbologies.specs.Symbologies.{Symbology, symbology_of}
use Rattle.symbologies.specs.Rows.{stops, finds, wrong, spelled, row_drawn, unclean, row_checks, row_of_field, row_of, chars_read, unspelled, data_read, count_checks, data_checks, data_of_count, data_of}
use Rattle.symbologies.proofs.Coders.{Single}
use Rattle.symbologies.proofs.Asked.{Counts, EndsAlone, Loose, Proper}

pub held : (l : Limits) (m n : ℕ) → holds l m n ≡ true → (least_of l m ≤ n) × (n ≤ most_of l m)
held l m n e = (
  leb-true _ n (both_left (leb (least_of l m) n) (leb n (most_of l m)) e),
  leb-true n _ (both_right (leb (least_of l m) n) (leb n (most_of l m)) e),
)

hold : (l : Limits) (m n : ℕ) → least_of l m ≤ n → n ≤ most_of l m → holds l m n ≡ true
hold l m n a b = rw (le-leb _ n a, le-leb n _ b)

pub empty-rest : (d : List ℕ) → unclean (length d) d ≡ false
empty-rest d = rw drop-length

-- ---- what was passed

finds-found : (z : Reading) → stops z ≡ false → z ≡ found (finds z)
finds-found (found h) e = refl
finds-found (stopped i) e = cc

pub record Drew (y : Symbology) (m : ℕ) (d r : List ℕ) : Type 0 where
  pub known : y.limits.known ≡ true
  pub offers : offered y.limits m ≡ true
  pub count : holds y.limits m (length d) ≡ true
  pub head : List ℕ
  pub spells : spelled y m d ≡ found head
  pub is : pick (eqb m 2) (checked_of y.rule head) head ≡ r
  pub paired : odd y.limits (length r) ≡ false
  pub fits : length r ≤ y.limits.room
  pub right : wrong y m r ≡ false

-- by position, once: the tests that a field's data pass
pub record Passed (y : Symbology) (m count : ℕ) (field : List ℕ) : Type 0 where
  pub known : not y.limits.known ≡ false
  pub offers : not (offered y.limits m) ≡ false
  pub held : not (holds y.limits m count && leb count (length field)) ≡ false
  pub clean : unclean count field ≡ false
  pub spells : stops (spelled y m (take count field)) ≡ false
  pub paired : odd y.limits (length (row_drawn y m (take count field))) ≡ false
  pub fits : ltb y.limits.room (length (row_drawn y m (take count field))) ≡ false
  pub right : wrong y m (row_drawn y m (take count field)) ≡ false

pub passed-row : (y : Symbology) (m count : ℕ) (field : List ℕ) → None (row_checks y m count field) → Passed y m count field
passed-row y m count field n = record {
  known = n.0;
  offers = n.1.0;
  held = n.1.1.0;
  clean = n.1.1.1.0;
  spells = n.1.1.1.1.0;
  paired = n.1.1.1.1.1.0;
  fits = n.1.1.1.1.1.1.0;
  right = n.1.1.1.1.1.1.1.0;
}

pub row-passed : (y : Symbology) (m count : ℕ) (field : List ℕ) → Passed y m count field → None (row_checks y m count field)
row-passed y m count field p = (p.known, (p.offers, (p.held, (p.clean, (p.spells, (p.paired, (p.fits, (p.right, tt))))))))

module _ (s m : ℕ) (d r : List ℕ) where
  pub drew : row_of s m d ≡ gives r → Drew (symbology_of s) m d r
  unfolding row_of row_of_field
  drew e =
      let y : Symbology = symbology_of s in
      let g : None (row_checks y m (length d) d) × (row_drawn y m (take (length d) d) ≡ r) = given (row_checks y m (length d) d) (row_drawn y m (take (length d) d)) r e in
      let p : Passed y m (length d) d = passed-row y m (length d) d g.0 in
      let q : row_drawn y m d ≡ r = rw take-length at g.1 in
      let t : take (length d) d ≡ d = take-length d in
      record {
        known = not-false _ p.known;
        offers = not-false _ p.offers;
        count = both_left (holds y.limits m (length d)) (leb (length d) (length d)) (not-false _ p.held);
        head = finds (spelled y m d);
        spells = finds-found (spelled y m d) (rw t at p.spells);
        is = q;
        paired = rw (t, q) at p.paired;
        fits = ltb-false y.limits.room (length r) (rw (t, q) at p.fits);
        right = rw (t, q) at p.right;
      }

  pub drawn : Drew (symbology_of s) m d r → row_of s m d ≡ gives r
  unfolding row_of row_of_field
  drawn w =
      let y : Symbology = symbology_of s in
      let t : take (length d) d ≡ d = take-length d in
      let q : row_drawn y m d ≡ r = rw w.spells w.is in
      let o : stops (spelled y m d) ≡ false = rw w.spells in
      let p : Passed y m (length d) d
      = record {
        known = rw w.known;
        offers = rw w.offers;
        held = rw (w.count, le-leb (length d) (length d) (omega arith));
        clean = empty-rest d;
        spells = rw t o;
        paired = rw (t, q) w.paired;
        fits = rw (t, q) (le-ltb y.limits.room (length r) w.fits);
        right = rw (t, q) w.right;
      } in
      none-on turned (row_checks y m (length d) d) (gives (row_drawn y m (take (length d) d))) (row-passed y m (length d) d p) ∙ rw (t, q)

pub record Reads (y : Symbology) (m : ℕ) (d r : List ℕ) : Type 0 where
  pub known : y.limits.known ≡ true
  pub offers : offered y.limits m ≡ true
  pub count : holds y.limits m (length r - added m) ≡ true
  pub paired : odd y.limits (length r) ≡ false
  pub spells : unspelled y m r ≡ found d
  pub right : wrong y m r ≡ false

module _ (s m : ℕ) (d r : List ℕ) where
  pub reads : data_of s m r ≡ gives d → Reads (symbology_of s) m d r
  unfolding data_of data_of_count
  reads e =
      let y : Symbology = symbology_of s in
      let cs : List Check = count_checks y m (length r) ++ data_checks y m r in
      let g : None cs × (data_read y m r ≡ d) = given cs (data_read y m r) d e in
      let c : (holds y.limits m (length r - added m) && not (odd y.limits (length r))) ≡ true = not-false _ g.0.1.1.0 in
      record {
        known = not-false _ g.0.0;
        offers = not-false _ g.0.1.0;
        count = both_left (holds y.limits m (length r - added m)) (not (odd y.limits (length r))) c;
        paired = not-true _ (both_right (holds y.limits m (length r - added m)) (not (odd y.limits (length r))) c);
        spells = finds-found (unspelled y m r) g.0.1.1.1.0 ∙ ap found g.1;
        right = g.0.1.1.1.1.0;
      }

  pub read : Reads (symbology_of s) m d r → data_of s m r ≡ gives d
  unfolding data_of data_of_count
  read a =
      let y : Symbology = symbology_of s in
      let cs : List Check = count_checks y m (length r) ++ data_checks y m r in
      let c : not (drawable y.limits m (length r)) ≡ false = rw (a.count, a.paired) in
      let k : not y.limits.known ≡ false = rw a.known in
      let o : not (offered y.limits m) ≡ false = rw a.offers in
      let t : stops (unspelled y m r) ≡ false = rw a.spells in
      let n : None cs = (k, (o, (c, (t, (a.right, tt))))) in
      none-on turned cs (gives (data_read y m r)) n ∙ rw a.spells

-- ---- the characters that are spelled

-- a check that is right passes
pub passing : (y : Symbology) (m : ℕ) (r : List ℕ) → m ≢ 0 → wrong y m r ≡ false → passes y.rule r ≡ true
passing y m r n e = go (passes y.rule r) (rw (ne_eqb m 0 n) at e)
  where
    go : (b : Bool) → not b ≡ false → b ≡ true
    go true q = refl
    go false q = cc

module _ (y : Symbology) (p : Proper y) (m : ℕ) (o : offered y.limits m ≡ true) where
  -- how many there are
  pub long-row : (h r : List ℕ) → (m ≡ 2 → y.rule.behind ≤ length h) → pick (eqb m 2) (checked_of y.rule h) h ≡ r → length r ≡ length h + added m
  long-row h r b e = go (ℕ_discrete m 2)
    where
      go : Dec (m ≡ 2) → length r ≡ length h + added m
      go (yes q) = rw (eq-eqb m 2 q) (ap length (sym (rw (eq-eqb m 2 q) at e)) ∙ checked-long y.rule h (b q) ∙ omega arith)
      go (no q) = rw (ne_eqb m 2 q) (ap length (sym (rw (ne_eqb m 2 q) at e)) ∙ omega arith)

  pub spelt : (h r : List ℕ) → (m ≡ 2 → y.rule.behind ≤ length h) → pick (eqb m 2) (checked_of y.rule h) h ≡ r → chars_read y m r ≡ h
  spelt h r b e = go (ℕ_discrete m 2)
    where
      go : Dec (m ≡ 2) → chars_read y m r ≡ h
      go (yes q) = rw (eq-eqb m 2 q, ← (rw (eq-eqb m 2 q) at e)) (checked-others y.rule h (b q))
      go (no q) = rw (ne_eqb m 2 q) (sym (rw (ne_eqb m 2 q) at e))

  pub closes : (r : List ℕ) → (m ≡ 2 → y.rule.behind < length r) → wrong y m r ≡ false → pick (eqb m 2) (checked_of y.rule (chars_read y m r)) (chars_read y m r) ≡ r
  closes r b w = go (ℕ_discrete m 2)
    where
      go : Dec (m ≡ 2) → pick (eqb m 2) (checked_of y.rule (chars_read y m r)) (chars_read y m r) ≡ r
      go (yes q) = rw (eq-eqb m 2 q) (passing-checked y.rule r (b q) (passing y m r (omega arith) w))
      go (no q) = rw (ne_eqb m 2 q)

  -- a first byte at least
  least-one : (d : List ℕ) → holds y.limits m (length d) ≡ true → 0 < length d
  least-one d h = omega (arith, (p.counts m o).some, (held y.limits m (length d) h).0)

  -- one byte draws one character, where a mode asks for two
  lone : (k : Coder) → EndsAlone k → (b : ℕ) (h : List ℕ) → spell k true 0 (b ∷ []) ≡ found h → length h ≤ 1
  lone k a b h e = go (k.drawn (stands true []) b) (a (stands true []) b refl) h e
    where
      go : (cs : List ℕ) → length cs ≤ 1 → (h : List ℕ) → took 0 cs (found []) ≡ found h → length h ≤ 1
      go [] l h e = let q : ◌≡◌ {A = ℕ} 0 1 = cc in absurd (omega arith)
      go (c ∷ []) l h e = let q : c ∷ [] ≡ h = cc in rw (← q) (omega arith)
      go (c ∷ d ∷ cs) l h e = absurd (omega arith)

  holds-forth : (d h : List ℕ) → spelled y m d ≡ found h → length h + added m ≤ y.limits.room → holds y.limits m (length d) ≡ true → holds y.limits m (length h) ≡ true
  holds-forth d h e f c = go p.spread
    where
      b : (least_of y.limits m ≤ length d) × (length d ≤ most_of y.limits m)
      b = held y.limits m (length d) c

      go : ((m : ℕ) → Single (y.coder m)) ⊎ ((m : ℕ) → offered y.limits m ≡ true → Loose y m) → holds y.limits m (length h) ≡ true
      go (inl s) = rw (spell-same (y.coder m) (s m) d h true 0 e) c
      go (inr s) = hold y.limits m (length h) (omega (arith, spell-long (y.coder m) d h true 0 e, b.0)) (omega (arith, (s m o).all))

  holds-back : (d h : List ℕ) → spelled y m d ≡ found h → holds y.limits m (length h) ≡ true → holds y.limits m (length d) ≡ true
  holds-back d h e c = go p.spread
    where
      b : (least_of y.limits m ≤ length h) × (length h ≤ most_of y.limits m)
      b = held y.limits m (length h) c

      some : 0 < length h
      some = omega (arith, (p.counts m o).some, b.0)

      few : (d : List ℕ) → spelled y m d ≡ found h → (least_of y.limits m ≤ 1) ⊎ ((m ≡ 1) × (least_of y.limits m ≤ 2)) → least_of y.limits m ≤ length d
      few [] e w = absurd (omega (arith, some, ap length (found-nil h e)))
      few (x ∷ []) e (inl w) = omega arith
      few (x ∷ []) e (inr w) = omega (arith, lone (y.coder m) (rw w.0 p.ends) x h e, b.0)
      few (x ∷ z ∷ d) e (inl w) = omega arith
      few (x ∷ z ∷ d) e (inr w) = omega (arith, w.1)

      go : ((m : ℕ) → Single (y.coder m)) ⊎ ((m : ℕ) → offered y.limits m ≡ true → Loose y m) → holds y.limits m (length d) ≡ true
      go (inl s) = rw (← spell-same (y.coder m) (s m) d h true 0 e) c
      go (inr s) = hold y.limits m (length d) (few d e (s m o).one) (omega (arith, spell-long (y.coder m) d h true 0 e, b.1))

-- ---- each way

module _ (y : Symbology) (p : Proper y) (m : ℕ) (d r : List ℕ) where
  pub undone : Drew y m d r → Reads y m d r
  undone w =
      let l : length d ≤ length w.head = spell-long (y.coder m) d w.head true 0 w.spells in
      let b : m ≡ 2 → y.rule.behind ≤ length w.head
      = λ q. omega (arith, (p.checked m w.offers (omega arith)).enough, (held y.limits m (length d) w.count).0, two m q) in
      let n : length r ≡ length w.head + added m = long-row y p m w.offers w.head r b w.is in
      let t : length r - added m ≡ length w.head = omega arith in
      record {
        known = w.known;
        offers = w.offers;
        count = rw t (holds-forth y p m w.offers d w.head w.spells (omega (arith, w.fits)) w.count);
        paired = w.paired;
        spells = rw (spelt y p m w.offers w.head r b w.is) (spell-unspell (y.coder m) (p.valid m) d w.head true 0 0 w.spells);
        right = w.right;
      }
    where
      two : (m : ℕ) → m ≡ 2 → added m ≡ 1
      two m q = rw (eq-eqb m 2 q)

  pub redone : Reads y m d r → Drew y m d r
  redone a =
      let g : (least_of y.limits m ≤ length r - added m) × (length r - added m ≤ most_of y.limits m) = held y.limits m (length r - added m) a.count in
      let c : Counts y m = p.counts m a.offers in
      let b : m ≡ 2 → y.rule.behind < length r
      = λ q. omega (arith, (p.checked m a.offers (omega arith)).enough, g.0, two m q, c.some) in
      let h : List ℕ = chars_read y m r in
      let e : spelled y m d ≡ found h = unspell-spell (y.coder m) h d true 0 0 a.spells in
      let i : pick (eqb m 2) (checked_of y.rule h) h ≡ r = closes y p m a.offers r b a.right in
      let f : m ≡ 2 → y.rule.behind ≤ length h = λ q. omega (arith, b q, few q (b q)) in
      let n : length r ≡ length h + added m = long-row y p m a.offers h r f i in
      let t : length r - added m ≡ length h = omega arith in
      record {
        known = a.known;
        offers = a.offers;
        count = holds-back y p m a.offers d h e (rw t at a.count);
        head = h;
        spells = e;
        is = i;
        paired = a.paired;
        fits = omega (arith, c.cap, g.1, c.some, g.0);
        right = a.right;
      }
    where
      two : (m : ℕ) → m ≡ 2 → added m ≡ 1
      two m q = rw (eq-eqb m 2 q)

      few : m ≡ 2 → y.rule.behind < length r → length (chars_read y m r) ≡ length r - 1
      few q l = rw (eq-eqb m 2 q) (long-without r (place_of y.rule (length r)) (omega arith))
