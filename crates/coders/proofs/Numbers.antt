-- The coders by the numbers that the code matches on: every number but 1, 2 and 3 draws digits.
--
--   others    the coder of every other number
--   as-drawn, as-for, as-shift    what is drawn or found at a place, and what begins a pair, is by the symbology of `drawn_as`, in mode 0
--   itself, raw    which symbology that is: but for full ASCII the own one; where full ASCII's is not 2, Code 39
--   drawn-first, drawn-full, drawn-third, drawn-others    what the four coders draw; first-by, the first of them for characters that are listed
--   alone-first, alone-full, alone-third, alone-others    the byte that draws a character alone; out-third, none at another place of Codabar
--   told      whether there is one
--   shift-low, shift-mid, shift-high    /, + and % begin a pair of full ASCII, and no other character
--   unshifted, unpaired      in no other symbology does one, and no byte draws a pair
--   pair-full, pair-none     the byte that draws a pair of full ASCII; none behind another character
--
-- Assumes nothing.
use Rattle.std.proofs.Common.{◌≡◌, refl, sym, ap, ◌∙◌, Bool, true, false, List, [], ◌∷◌, ℕ, zero, suc, ◌<◌, ◌≤◌, arith, eqb, ltb, drop, Option, None, is_some, ne_eqb, lt-ltb, ltb-true}
use native.Mathlib.Decide.{ℕ_discrete}
use Rattle.std.proofs.lemmas.Map.Entries.{option_filter}
use Rattle.laws.specs.Search.{pick, index_in, some_if, below}
use Rattle.laws.specs.Spelling.{Place, is_end, Coder, byte_for}
use Rattle.laws.proofs.Finite.{each_at, from_at}
use Rattle.tables.specs.Alphabet.{value_of, byte_of}
use Rattle.tables.specs.Code39.{chars39, alphabet39}
use Rattle.tables.specs.Codabar.{table41, alphabet_codabar}
use Rattle.tables.specs.TwoOfFive.{table44, alphabet_digits}
use Rattle.symbologies.specs.Limits.{unknown}
use Rattle.symbologies.specs.Coders.{single, placed, plain, codabar_coder, shifts, full_coder, raw_coder, full}
use Rattle.symbologies.specs.Checks.{no_check}
use Rattle.symbologies.specs.Parts.{each}
use Rattle.symbologies.specs.Symbologies.{Symbology, digits, symbologies, symbology_of}
use Rattle.symbologies.proofs.Coders.{byte_small, placed-in, back, for-same, full-none, full-places, alone39, alone-codabar, alone-digits, pair39, pair-codabar, pair-digits}
use Rattle.coders.specs.Pieces.{listed, drawn_as, edge}

-- ---- the coders

first-coder : (s m : ℕ) → s ≡ 1 → (symbology_of s).coder m ≡ plain alphabet39
unfolding symbology_of symbologies
first-coder s m e = rw e

full-coder : (s m : ℕ) → s ≡ 2 → (symbology_of s).coder m ≡ full m
unfolding symbology_of symbologies
full-coder s m e = rw e

third-coder : (s m : ℕ) → s ≡ 3 → (symbology_of s).coder m ≡ codabar_coder
unfolding symbology_of symbologies
third-coder s m e = rw e

pub others : (s m : ℕ) → (s ≡ 1 → ⊥) → (s ≡ 2 → ⊥) → (s ≡ 3 → ⊥) → (symbology_of s).coder m ≡ plain alphabet_digits
unfolding symbology_of symbologies
others zero m a b c = refl
others (suc zero) m a b c = absurd (a refl)
others (suc (suc zero)) m a b c = absurd (b refl)
others (suc (suc (suc zero))) m a b c = absurd (c refl)
others (suc (suc (suc (suc n)))) m a b c =
    each_at (λ (y : Symbology). y.coder m ≡ plain alphabet_digits) (drop 4 symbologies) (digits unknown no_check [] each) (refl, (refl, (refl, (refl, (refl, (refl, tt)))))) refl n

-- ---- the modes

-- but for full ASCII the mode makes no difference
unmoded : (s m : ℕ) → (s ≡ 2 → ⊥) → (symbology_of s).coder m ≡ (symbology_of s).coder 0
unfolding symbology_of symbologies
unmoded zero m a = refl
unmoded (suc zero) m a = refl
unmoded (suc (suc zero)) m a = absurd (a refl)
unmoded (suc (suc (suc n))) m a =
    each_at (λ (y : Symbology). y.coder m ≡ y.coder 0) (drop 3 symbologies) (digits unknown no_check [] each) (refl, (refl, (refl, (refl, (refl, (refl, (refl, tt))))))) refl n

module _ (m : ℕ) (p : Place) (b : ℕ) where
  two-drawn : (t l : Bool) → eqb m 1 ≡ t → p.last ≡ l → ((symbology_of 2).coder m).drawn p b ≡ ((symbology_of (pick t (pick l 1 2) 2)).coder 0).drawn p b
  unfolding symbology_of symbologies raw_coder
  two-drawn true true e l = rw (e, l)
  two-drawn true false e l = rw (e, l)
  two-drawn false l e k = rw e

two-shift : (m c : ℕ) (t end : Bool) → eqb m 1 ≡ t → ((symbology_of 2).coder m).shift end c ≡ ((symbology_of (pick t (pick end 1 2) 2)).coder 0).shift end c
unfolding symbology_of symbologies raw_coder plain
two-shift m c true true e = rw e
two-shift m c true false e = rw e
two-shift m c false end e = rw e

drawn-same : (s m : ℕ) (p : Place) (b : ℕ) → ((symbology_of (drawn_as s m p.last)).coder 0).drawn p b ≡ ((symbology_of s).coder m).drawn p b
drawn-same s m p b = go (ℕ_discrete s 2)
  where
    go : Dec (s ≡ 2) → ((symbology_of (drawn_as s m p.last)).coder 0).drawn p b ≡ ((symbology_of s).coder m).drawn p b
    go (yes e) = rw e (sym (two-drawn m p b (eqb m 1) p.last refl refl))
    go (no e) = rw (ne_eqb s 2 e, unmoded s m e)

pub as-drawn : (s m t : ℕ) (p : Place) (b : ℕ) → t ≡ drawn_as s m p.last → ((symbology_of t).coder 0).drawn p b ≡ ((symbology_of s).coder m).drawn p b
as-drawn s m t p b e = rw e (drawn-same s m p b)

pub itself : (s m : ℕ) (last : Bool) → (s ≡ 2 → ⊥) → s ≡ drawn_as s m last
itself s m last n = rw (ne_eqb s 2 n)

raw-by : (t : ℕ) (b last : Bool) → t ≡ pick b (pick last 1 2) 2 → (t ≡ 2 → ⊥) → t ≡ 1
raw-by t true true e n = e
raw-by t true false e n = absurd (n e)
raw-by t false last e n = absurd (n e)

pub raw : (s m t : ℕ) (last : Bool) → s ≡ 2 → t ≡ drawn_as s m last → (t ≡ 2 → ⊥) → t ≡ 1
raw s m t last h e n = raw-by t (eqb m 1) last (rw h at e) n

pub as-for : (s m t : ℕ) (p : Place) (item : List ℕ) → t ≡ drawn_as s m p.last → below 256 (byte_for ((symbology_of t).coder 0) p item) ≡ below 256 (byte_for ((symbology_of s).coder m) p item)
as-for s m t p item e = ap (below 256) (rw e (for-same ((symbology_of (drawn_as s m p.last)).coder 0) ((symbology_of s).coder m) p p item (drawn-same s m p)))

as-shift-for : (s m : ℕ) (end : Bool) (c : ℕ) → ((symbology_of (drawn_as s m end)).coder 0).shift end c ≡ ((symbology_of s).coder m).shift end c
as-shift-for s m end c = go (ℕ_discrete s 2)
  where
    go : Dec (s ≡ 2) → ((symbology_of (drawn_as s m end)).coder 0).shift end c ≡ ((symbology_of s).coder m).shift end c
    go (yes e) = rw e (sym (two-shift m c (eqb m 1) end refl))
    go (no e) = rw (ne_eqb s 2 e, unmoded s m e)

pub as-shift : (s m t : ℕ) (end : Bool) (c : ℕ) → t ≡ drawn_as s m end → ((symbology_of t).coder 0).shift end c ≡ ((symbology_of s).coder m).shift end c
as-shift s m t end c e = rw e (as-shift-for s m end c)

-- ---- one character

listed-some : (b : Bool) (v : ℕ) → listed (some_if b v) ≡ single b v
listed-some true v = refl
listed-some false v = refl

listed-filter : (q : ℕ → Bool) (b c : Bool) (v : ℕ) → q v ≡ c → (c ≡ true → b ≡ true) → listed (option_filter q (some_if b v)) ≡ single c v
listed-filter q true true v e h = rw e
listed-filter q true false v e h = rw e
listed-filter q false true v e h = let w = h refl in cc
listed-filter q false false v e h = refl

module _ (t : ℕ) (p : Place) (b : ℕ) (o : Option ℕ) where
  pub drawn-first : t ≡ 1 → o ≡ below 43 (value_of alphabet39 b) → listed o ≡ ((symbology_of t).coder 0).drawn p b
  unfolding plain alphabet39 chars39
  drawn-first e h = rw (first-coder t 0 e, h) (listed-some _ _)

  pub drawn-third : (end : Bool) → t ≡ 3 → end ≡ is_end p → o ≡ option_filter (placed end) (below 20 (value_of alphabet_codabar b)) → listed o ≡ ((symbology_of t).coder 0).drawn p b
  unfolding codabar_coder
  drawn-third end e h k =
      rw (third-coder t 0 e, k, h)
      (listed-filter (placed (is_end p)) _ _ (value_of alphabet_codabar b) refl (λ q. lt-ltb _ 20 (placed-in (is_end p) (value_of alphabet_codabar b) q)))

  pub drawn-others : (t ≡ 1 → ⊥) → (t ≡ 2 → ⊥) → (t ≡ 3 → ⊥) → o ≡ below 10 (value_of alphabet_digits b) → listed o ≡ ((symbology_of t).coder 0).drawn p b
  unfolding plain alphabet_digits table44
  drawn-others x y z h = rw (others t 0 x y z, h) (listed-some _ _)

pub first-by : {t : ℕ} (b : ℕ) (p : Place) {o : Option ℕ} (xs : List ℕ) → xs ≡ listed o → t ≡ 1 → o ≡ below 43 (value_of alphabet39 b) → xs ≡ ((symbology_of t).coder 0).drawn p b
first-by {t} b p {o} xs r e h = r ∙ drawn-first t p b o e h

pub drawn-full : (t : ℕ) (p : Place) (b : ℕ) → t ≡ 2 → full_coder.drawn edge b ≡ ((symbology_of t).coder 0).drawn p b
unfolding full_coder
drawn-full t p b e = rw (full-coder t 0 e)

-- a byte where the test passes, as the definition tells it
below-pick : (ok : Bool) (w : ℕ) → (ok ≡ true → w < 256) → some_if ok w ≡ below 256 (pick ok w 256)
below-pick true w h = rw (lt-ltb w 256 (h refl))
below-pick false w h = refl

module _ (t : ℕ) (p : Place) (v : ℕ) (o : Option ℕ) where
  pub alone-first : t ≡ 1 → o ≡ some_if (ltb v 43) (byte_of alphabet39 v) → o ≡ below 256 (byte_for ((symbology_of t).coder 0) p (v ∷ []))
  unfolding alphabet39 chars39
  alone-first e h = rw (first-coder t 0 e, alone39 p v) (h ∙ below-pick _ _ (λ q. byte_small alphabet39 refl v (ltb-true v 43 q)))

  pub alone-full : t ≡ 2 → o ≡ below 256 (byte_for full_coder edge (v ∷ [])) → o ≡ below 256 (byte_for ((symbology_of t).coder 0) p (v ∷ []))
  alone-full e h = rw (full-coder t 0 e, ← full-places edge p (v ∷ [])) h

  pub alone-third : (end : Bool) → t ≡ 3 → end ≡ is_end p → placed end v ≡ true → o ≡ some_if (ltb v 20) (byte_of alphabet_codabar v) → o ≡ below 256 (byte_for ((symbology_of t).coder 0) p (v ∷ []))
  unfolding alphabet_codabar table41
  alone-third end e h k l =
      let inside = placed-in end v k in
      rw (third-coder t 0 e, alone-codabar p v, ← h, k)
      (rw (lt-ltb v 20 inside) at l ∙ below-pick true _ (λ q. byte_small alphabet_codabar refl v inside))

  pub alone-others : (t ≡ 1 → ⊥) → (t ≡ 2 → ⊥) → (t ≡ 3 → ⊥) → o ≡ some_if (ltb v 10) (byte_of alphabet_digits v) → o ≡ below 256 (byte_for ((symbology_of t).coder 0) p (v ∷ []))
  unfolding alphabet_digits table44
  alone-others x y z h = rw (others t 0 x y z, alone-digits p v) (h ∙ below-pick _ _ (λ q. byte_small alphabet_digits refl v (ltb-true v 10 q)))

pub out-third : (t : ℕ) (p : Place) (v : ℕ) (end : Bool) → t ≡ 3 → end ≡ is_end p → placed end v ≡ false → None ≡ below 256 (byte_for ((symbology_of t).coder 0) p (v ∷ []))
out-third t p v end e h k = rw (third-coder t 0 e, alone-codabar p v, ← h, k)

-- ---- whether a byte draws it

pub told : (b : Bool) (i : ℕ) → is_some (some_if b i) ≡ b
told true i = refl
told false i = refl

-- ---- the characters that begin a pair

low : (end : Bool) (v : ℕ) → v < 40 → full_coder.shift end v ≡ false
unfolding full_coder shifts value_of alphabet39 chars39 index_in
low end v h = rw (ne_eqb 40 v (omega arith), ne_eqb 41 v (omega arith), ne_eqb 42 v (omega arith))

mid : (end : Bool) (v : ℕ) → 40 ≤ v → v < 43 → full_coder.shift end v ≡ true
unfolding full_coder shifts value_of alphabet39 chars39 index_in
mid end = from_at (λ v. full_coder.shift end v ≡ true) 40 3 (refl, (refl, (refl, tt)))

high : (end : Bool) (v : ℕ) → 43 ≤ v → full_coder.shift end v ≡ false
unfolding full_coder shifts value_of alphabet39 chars39 index_in
high end v h = rw (ne_eqb 40 v (omega arith), ne_eqb 41 v (omega arith), ne_eqb 42 v (omega arith))

module _ (t : ℕ) (end : Bool) (v : ℕ) (e : t ≡ 2) where
  pub shift-low : v < 40 → false ≡ ((symbology_of t).coder 0).shift end v
  shift-low h = rw (full-coder t 0 e) (sym (low end v h))

  pub shift-mid : 40 ≤ v → v < 43 → true ≡ ((symbology_of t).coder 0).shift end v
  shift-mid h l = rw (full-coder t 0 e) (sym (mid end v h l))

  pub shift-high : 43 ≤ v → false ≡ ((symbology_of t).coder 0).shift end v
  shift-high h = rw (full-coder t 0 e) (sym (high end v h))

-- what no number but 2 does
beside : (P : Coder → Type 0) → P (plain alphabet39) → P codabar_coder → P (plain alphabet_digits) → (s : ℕ) → (s ≡ 2 → ⊥) → P ((symbology_of s).coder 0)
beside P a b c s n = go (ℕ_discrete s 1) (ℕ_discrete s 3)
  where
    go : Dec (s ≡ 1) → Dec (s ≡ 3) → P ((symbology_of s).coder 0)
    go (yes e) f = rw (first-coder s 0 e) a
    go (no e) (yes f) = rw (third-coder s 0 f) b
    go (no e) (no f) = rw (others s 0 e n f) c

pub unshifted : (t : ℕ) (end : Bool) (v : ℕ) → (t ≡ 2 → ⊥) → false ≡ ((symbology_of t).coder 0).shift end v
unfolding plain codabar_coder
unshifted t end v = beside (λ (k : Coder). false ≡ k.shift end v) refl refl refl t

pub unpaired : (t : ℕ) (p : Place) (c d : ℕ) → (t ≡ 2 → ⊥) → None ≡ below 256 (byte_for ((symbology_of t).coder 0) p (c ∷ d ∷ []))
unpaired t p c d = beside (λ (k : Coder). None ≡ below 256 (byte_for k p (c ∷ d ∷ []))) (rw (pair39 p c d [])) (rw (pair-codabar p c d [])) (rw (pair-digits p c d [])) t

pub pair-full : (t : ℕ) (p : Place) (c d x : ℕ) → t ≡ 2 → c ≡ x → below 256 (byte_for full_coder edge (x ∷ d ∷ [])) ≡ below 256 (byte_for ((symbology_of t).coder 0) p (c ∷ d ∷ []))
pair-full t p c d x e h = rw (full-coder t 0 e, h) (ap (below 256) (full-places edge p (x ∷ d ∷ [])))

pub pair-none : (t : ℕ) (p : Place) (c d : ℕ) → t ≡ 2 → (c ≡ 40 → ⊥) → (c ≡ 41 → ⊥) → (c ≡ 42 → ⊥) → None ≡ below 256 (byte_for ((symbology_of t).coder 0) p (c ∷ d ∷ []))
unfolding back
pair-none t p c d e x y z = rw (full-coder t 0 e, full-none p c (d ∷ []) (rw (ne_eqb c 40 x, ne_eqb c 41 y, ne_eqb c 42 z)))
