-- Rows whose characters may stand where they stand.
--
--   Keeps           what a coder draws may stand where its byte stands
--   spell-fitting   so each character of a spelling may stand where it stands
--   at              the place of index i of n; fitting-at, the character at an index may stand there
--   fitting-set     one replaced by another that may stand there
--   Free            a set that is the same at every place
--   free-below      such a row is one of values that pass the test; below_free, and the other way
--   free-inserted   and with another put in anywhere it is still one
--
-- Assumes nothing.
use Rattle.std.proofs.Common.{◌≡◌, refl, Bool, true, false, List, [], ◌∷◌, ℕ, zero, suc, ◌<◌, arith, eqb, ltb, length, get_or, set, ltb-true, lt-ltb}
use lib.Dec.{eqb-suc-suc, eqb-suc-zero, eqb-zero-suc}
use Rattle.laws.specs.Units.{Reading, found, push}
use Rattle.laws.specs.Spelling.{Place, ends, stands, fitting, Coder, took, spell}
use Rattle.laws.specs.Rules.{inserted}
use Rattle.laws.proofs.Finite.{both_left, both_right, both_true}
use Rattle.laws.proofs.Strips.{push-some, push-none}
use Rattle.laws.proofs.Spelling.{Below, found-nil, same_end}

-- ---- what is spelled

abbrev pub Piece : (Place → ℕ → Bool) → Place → List ℕ → Type 0
Piece allowed p [] = Unit {0}
Piece allowed p (c ∷ []) = allowed p c ≡ true
Piece allowed p (c ∷ d ∷ []) = (allowed (record { first = p.first; last = false }) c ≡ true) × (allowed (record { first = false; last = p.last }) d ≡ true)
Piece allowed p (c ∷ d ∷ e ∷ cs) = ⊥

abbrev pub Keeps : (Place → ℕ → Bool) → Coder → Type 0
Keeps allowed k = (p : Place) (b : ℕ) → Piece allowed p (k.drawn p b)

module _ (allowed : Place → ℕ → Bool) where
  piece-fits : (start l : Bool) (at : ℕ) (p : List ℕ) (z : Reading) (h : List ℕ) → Piece allowed (record { first = start; last = l }) p
      → ((g : List ℕ) → z ≡ found g → (fitting allowed false g ≡ true) × (l ≡ ends g)) → took at p z ≡ found h → fitting allowed start h ≡ true
  piece-fits start l at [] z h o f e = let q : ◌≡◌ {A = ℕ} 0 1 = cc in absurd (omega arith)
  piece-fits start l at (c ∷ []) z [] o f e = absurd (push-none c z e)
  piece-fits start l at (c ∷ []) z (x ∷ g) o f e =
      let q : (c ≡ x) × (z ≡ found g) = push-some c z x g e in
      let w : (fitting allowed false g ≡ true) × (l ≡ ends g) = f g q.1 in
      both_true (allowed (stands start g) x) (fitting allowed false g) (rw (← q.0, ← w.1) o) w.0
  piece-fits start l at (c ∷ d ∷ []) z [] o f e = absurd (push-none c (push d z) e)
  piece-fits start l at (c ∷ d ∷ []) z (x ∷ []) o f e = absurd (push-none d z (push-some c (push d z) x [] e).1)
  piece-fits start l at (c ∷ d ∷ []) z (x ∷ y ∷ g) o f e =
      let q : (c ≡ x) × (push d z ≡ found (y ∷ g)) = push-some c (push d z) x (y ∷ g) e in
      let r : (d ≡ y) × (z ≡ found g) = push-some d z y g q.1 in
      let w : (fitting allowed false g ≡ true) × (l ≡ ends g) = f g r.1 in
      both_true (allowed (stands start (y ∷ g)) x) (fitting allowed false (y ∷ g)) (rw (← q.0) o.0)
      (both_true (allowed (stands false g) y) (fitting allowed false g) (rw (← r.0, ← w.1) o.1) w.0)
  piece-fits start l at (c ∷ d ∷ a ∷ cs) z h o f e = absurd o

  pub spell-fitting : (k : Coder) → Keeps allowed k → (d h : List ℕ) (start : Bool) (at : ℕ) → spell k start at d ≡ found h → fitting allowed start h ≡ true
  spell-fitting k o [] h start at e = rw (← found-nil h e)
  spell-fitting k o (b ∷ bs) h start at e =
      piece-fits start (ends bs) at (k.drawn (stands start bs) b) (spell k false (suc at) bs) h (o (stands start bs) b)
      (λ g p. (spell-fitting k o bs g false (suc at) p, same_end k false (suc at) bs g p)) e

-- ---- at an index

abbrev pub at : ℕ → ℕ → Place
at i n = record { first = eqb i 0; last = eqb (suc i) n }

module _ (allowed : Place → ℕ → Bool) where
  -- from a start that may not be the row's
  abbrev from : Bool → ℕ → ℕ → Place
  from start zero n = record { first = start; last = eqb 1 n }
  from start (suc i) n = record { first = false; last = eqb (suc (suc i)) n }

  one-behind : (x : ℕ) (xs : List ℕ) → eqb 1 (suc (length xs)) ≡ ends xs
  one-behind x [] = refl
  one-behind x (y ∷ ys) = rw (eqb-suc-suc 0 (suc (length ys)), eqb-zero-suc (length ys))

  shifted : (start : Bool) (i n : ℕ) → from start (suc i) (suc n) ≡ from false i n
  shifted start zero n = rw (eqb-suc-suc 1 n)
  shifted start (suc i) n = rw (eqb-suc-suc (suc (suc i)) n)

  from_at : (start : Bool) (r : List ℕ) (i : ℕ) → fitting allowed start r ≡ true → i < length r → allowed (from start i (length r)) (get_or r i 0) ≡ true
  from_at start [] i f h = absurd (omega arith)
  from_at start (c ∷ cs) zero f h = rw (one-behind c cs) (both_left (allowed (stands start cs) c) (fitting allowed false cs) f)
  from_at start (c ∷ cs) (suc i) f h =
      rw (shifted start i (length cs)) (from_at false cs i (both_right (allowed (stands start cs) c) (fitting allowed false cs) f) (omega arith))

  from-set : (start : Bool) (r : List ℕ) (i v : ℕ) → fitting allowed start r ≡ true → i < length r → allowed (from start i (length r)) v ≡ true → fitting allowed start (set r i v) ≡ true
  from-set start [] i v f h o = absurd (omega arith)
  from-set start (c ∷ cs) zero v f h o =
      both_true (allowed (stands start cs) v) (fitting allowed false cs) (rw (one-behind c cs) at o) (both_right (allowed (stands start cs) c) (fitting allowed false cs) f)
  from-set start (c ∷ cs) (suc i) v f h o =
      both_true (allowed (stands start (set cs i v)) c) (fitting allowed false (set cs i v))
      (rw (kept cs) (both_left (allowed (stands start cs) c) (fitting allowed false cs) f))
      (from-set false cs i v (both_right (allowed (stands start cs) c) (fitting allowed false cs) f) (omega arith) (rw (shifted start i (length cs)) at o))
    where
      kept : (xs : List ℕ) → ends (set xs i v) ≡ ends xs
      kept [] = refl
      kept (x ∷ xs) = go i
        where
          go : (j : ℕ) → ends (set (x ∷ xs) j v) ≡ false
          go zero = refl
          go (suc j) = refl

  from-true : (i n : ℕ) → from true i n ≡ at i n
  from-true zero n = refl
  from-true (suc i) n = rw (eqb-suc-zero i)

  pub fitting-at : (r : List ℕ) (i : ℕ) → fitting allowed true r ≡ true → i < length r → allowed (at i (length r)) (get_or r i 0) ≡ true
  fitting-at r i f h = rw (from-true i (length r)) at (from_at true r i f h)

  pub fitting-set : (r : List ℕ) (i v : ℕ) → fitting allowed true r ≡ true → i < length r → allowed (at i (length r)) v ≡ true → fitting allowed true (set r i v) ≡ true
  fitting-set r i v f h o = from-set true r i v f h (rw (from-true i (length r)) o)

-- ---- a set that is the same at every place

abbrev pub Free : (Place → ℕ → Bool) → ℕ → Type 0
Free allowed n = (p : Place) (v : ℕ) → allowed p v ≡ ltb v n

module _ (allowed : Place → ℕ → Bool) (n : ℕ) (free : Free allowed n) where
  pub free-below : (start : Bool) (r : List ℕ) → fitting allowed start r ≡ true → Below n r
  free-below start [] f = tt
  free-below start (c ∷ cs) f = (
    ltb-true c n (rw (free (stands start cs) c) at (both_left (allowed (stands start cs) c) (fitting allowed false cs) f)),
    free-below false cs (both_right (allowed (stands start cs) c) (fitting allowed false cs) f),
  )

  pub below_free : (start : Bool) (r : List ℕ) → Below n r → fitting allowed start r ≡ true
  below_free start [] b = refl
  below_free start (c ∷ cs) b = both_true (allowed (stands start cs) c) (fitting allowed false cs) (rw (free (stands start cs) c) (lt-ltb c n b.0)) (below_free false cs b.1)

  below-inserted : (i v : ℕ) (h : List ℕ) → v < n → Below n h → Below n (inserted i v h)
  below-inserted zero v h l b = (l, b)
  below-inserted (suc i) v [] l b = (l, tt)
  below-inserted (suc i) v (x ∷ xs) l b = (b.0, below-inserted i v xs l b.1)

  pub free-inserted : (i v : ℕ) (h : List ℕ) → v < n → fitting allowed true h ≡ true → fitting allowed true (inserted i v h) ≡ true
  free-inserted i v h l f = below_free true (inserted i v h) (below-inserted i v h l (free-below true h f))
