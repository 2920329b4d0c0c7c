-- The loops that read characters back: what is done, and the same function on what is left.
--
--   left, there    what is left from a place on, and an item there, as slices
--   none-above, is-drawn, width-none, width-some    whether a byte draws an item
--   Passing        items are read back up to a place: `begin`, `item-next`, `item_refused`, `item-there`, `read_back`; width_fits, an item is
--                  not empty and ends in time
--   Measuring      with their number and the sum of the characters beside the check: `start`, `taken-up`, `left_out`, `refused`, `ended`
--   Writing        with their bytes in the lent buffer: `drawn`, `written_on`, `all-written`
--
-- Assumes nothing.
use Rattle.std.proofs.Common.{Option, None, ◌≡◌, refl, sym, ap, ◌∙◌, Bool, true, false, ◌≢◌, List, [], ◌∷◌, ◌++◌, ℕ, suc, ◌+◌, ◌*◌, ◌-◌, ◌<◌, ◌≤◌, arith, eqb, ltb, length, get_or, take, drop, set, length-append, length-take, length-drop, drop_of_length-le, drop-cons, drop-drop, length-take-le, take_all, take-take, take-add, eq-eqb, ne_eqb, lt-ltb, le-ltb, ltb-true, ltb-false, Some}
use native.Mathlib.Decide.{dec_lt, ℕ_discrete}
use Rattle.std.proofs.lemmas.List.{set_at}
use lib.Seq.{append_snoc}
use Rattle.laws.specs.Search.{pick, some_if}
use Rattle.laws.specs.Units.{Reading, found, stopped, push}
use Rattle.laws.specs.Spelling.{ends, stands, Coder, join, byte_for, gave, unspell}
use Rattle.laws.proofs.Strips.{push-none, push-some}
use Rattle.laws.proofs.Spelling.{for-hit, join-append, join-found, join-stopped}
use Rattle.symbologies.specs.Symbologies.{Symbology}
use Rattle.symbologies.specs.Rows.{finds}
use Rattle.symbologies.proofs.Asked.{EndsAlone}
use Rattle.sums.specs.declared.Sum.{Sum}
use Rattle.sums.specs.Sums.{Small, Kept, summed, Begins, own_in}
use Rattle.sums.proofs.Sums.{small-more, summed-append, checks}
use Rattle.data.specs.declared.items.Item.{Item}
use Rattle.data.specs.Held.{Front, front_of, held, MeasuredAll, Written}

-- what is found behind characters
behind : (xs : List ℕ) (z : Reading) (h : List ℕ) → join xs z ≡ found h → (g : List ℕ) × ((z ≡ found g) × (length h ≡ length xs + length g))
behind [] z h e = (h, (e, omega arith))
behind (x ∷ xs) z [] e = absurd (push-none x (join xs z) e)
behind (x ∷ xs) z (y ∷ h) e =
    let r : (g : List ℕ) × ((z ≡ found g) × (length h ≡ length xs + length g)) = behind xs z h (push-some x (join xs z) y h e).1 in
    (r.0, (r.1.0, omega (arith, r.1.1)))

-- ---- an item as the code holds it

-- what is left from a place on
pub left : (at : ℕ) (cs : List ℕ) → take (length cs - at) (drop at cs) ≡ drop at cs
left at cs = take_all (length cs - at) (drop at cs) (omega (arith, length-drop at cs))

pub there : (at w : ℕ) (cs : List ℕ) → take (at + w - at) (drop at cs) ≡ take w (drop at cs)
there at w cs = let e : at + w - at ≡ w = omega arith in rw e

some-same : {A : Type 0} {x y : A} → Some x ≡ Some y → x ≡ y
some-same e = cc

none-above : (f : Front) → held f ≡ None → 255 < f.byte
none-above f e = go (ltb f.byte 256) refl e
  where
    go : (t : Bool) → ltb f.byte 256 ≡ t → pick {A = Option Item} t (Some (record { byte = f.byte; width = f.width })) None ≡ None → 255 < f.byte
    go true q e = let z : ◌≡◌ {A = ℕ} 0 1 = cc in absurd (omega arith)
    go false q e = omega (arith, ltb-false f.byte 256 q)

pub is-drawn : (f : Front) (x : Item) → held f ≡ Some x → (f.byte ≤ 255) × ((x.byte ≡ f.byte) × (x.width ≡ f.width))
is-drawn f x e = go (ltb f.byte 256) refl e
  where
    go : (t : Bool) → ltb f.byte 256 ≡ t → pick t (Some (record { byte = f.byte; width = f.width })) None ≡ Some x → (f.byte ≤ 255) × ((x.byte ≡ f.byte) × (x.width ≡ f.width))
    go true q e =
        let same : record { byte = f.byte; width = f.width } ≡ x = some-same e in
        (omega (arith, ltb-true f.byte 256 q), (ap (λ (x : Item). x.byte) (sym same), ap (λ (x : Item). x.width) (sym same)))
    go false q e = let z : ◌≡◌ {A = ℕ} 0 1 = cc in absurd (omega arith)

-- the same by the width alone
pub width-none : (f : Front) → some_if (ltb f.byte 256) f.width ≡ None → held f ≡ None
width-none f e = go (ltb f.byte 256) e
  where
    go : (t : Bool) → some_if t f.width ≡ None → pick {A = Option Item} t (Some (record { byte = f.byte; width = f.width })) None ≡ None
    go true e = let z : ◌≡◌ {A = ℕ} 0 1 = cc in absurd (omega arith)
    go false e = refl

pub width-some : (f : Front) (w : ℕ) → some_if (ltb f.byte 256) f.width ≡ Some w → (held f ≡ Some (record { byte = f.byte; width = f.width })) × (w ≡ f.width)
width-some f w e = go (ltb f.byte 256) e
  where
    go : (t : Bool) → some_if t f.width ≡ Some w → (pick {A = Option Item} t (Some (record { byte = f.byte; width = f.width })) None ≡ Some (record { byte = f.byte; width = f.width })) × (w ≡ f.width)
    go true e = (refl, sym (some-same e))
    go false e = let z : ◌≡◌ {A = ℕ} 0 1 = cc in absurd (omega arith)

-- ---- items up to a place

pub record Passing (k : Coder) (cs done : List ℕ) (at : ℕ) : Type 0 where
  pub within : at ≤ length cs
  pub few : length done ≤ at
  pub same : unspell k true 0 cs ≡ join done (unspell k (eqb at 0) at (drop at cs))

pub begin : (k : Coder) (cs : List ℕ) → Passing k cs [] 0
begin k cs = record { within = omega arith; few = omega arith; same = refl }

pub read_back : (k : Coder) (cs done : List ℕ) (at : ℕ) → Passing k cs done at → length cs ≤ at → unspell k true 0 cs ≡ found done
read_back k cs done at s h = s.same ∙ rw (drop_of_length-le cs {i = at} h) (join-found done)

-- an item is not empty, and not longer than what is left; one that is the last is no pair where the last byte draws one character
module _ (k : Coder) (start : Bool) (c : ℕ) where
  abbrev two : ℕ → List ℕ → Front
  two d cs = record { byte = byte_for k (stands start cs) (c ∷ d ∷ []); width = 2 }

  abbrev one : ℕ → List ℕ → Front
  one d cs = record { byte = byte_for k (stands start (d ∷ cs)) (c ∷ []); width = 1 }

  wide : (cs : List ℕ) → (0 < (front_of k start (c ∷ cs)).width) × (((front_of k start (c ∷ cs)).width ≤ length (c ∷ cs)) × ((front_of k start (c ∷ cs)).width ≤ 2))
  wide [] = (omega arith, (omega arith, omega arith))
  wide (d ∷ cs) = go (k.shift (ends cs) c)
    where
      go : (t : Bool) → (0 < (pick t (two d cs) (one d cs)).width) × (((pick t (two d cs) (one d cs)).width ≤ length (c ∷ d ∷ cs)) × ((pick t (two d cs) (one d cs)).width ≤ 2))
      go true = (omega arith, (omega arith, omega arith))
      go false = (omega arith, (omega arith, omega arith))

  last-alone : EndsAlone k → (cs : List ℕ) → (front_of k start (c ∷ cs)).byte < 256 → (front_of k start (c ∷ cs)).width ≡ length (c ∷ cs) → cs ≡ []
  last-alone a [] b w = refl
  last-alone a (d ∷ cs) b w = go cs (k.shift (ends cs) c) b w
    where
      go : (cs : List ℕ) (t : Bool) → (pick t (two d cs) (one d cs)).byte < 256 → (pick t (two d cs) (one d cs)).width ≡ length (c ∷ d ∷ cs) → d ∷ cs ≡ []
      go [] true b w = absurd (omega (arith, a (stands start []) (byte_for k (stands start []) (c ∷ d ∷ [])) refl, ap length (for-hit k (stands start []) (c ∷ d ∷ []) b)))
      go (x ∷ cs) true b w = absurd (omega arith)
      go cs false b w = absurd (omega arith)

  unspell-item : (at : ℕ) (cs : List ℕ) (i : Front) → i ≡ front_of k start (c ∷ cs)
      → unspell k start at (c ∷ cs) ≡ gave at i.byte (unspell k false (at + i.width) (drop i.width (c ∷ cs)))
  unspell-item at [] i e = rw e
  unspell-item at (d ∷ cs) i e = go (k.shift (ends cs) c) e
    where
      more : (at + 1 ≡ suc at) × (at + 2 ≡ suc (suc at))
      more = (omega arith, omega arith)

      go : (t : Bool) → i ≡ pick t (two d cs) (one d cs)
          → pick t (gave at (byte_for k (stands start cs) (c ∷ d ∷ [])) (unspell k false (suc (suc at)) cs)) (gave at (byte_for k (stands start (d ∷ cs)) (c ∷ [])) (unspell k false (suc at) (d ∷ cs)))
          ≡ gave at i.byte (unspell k false (at + i.width) (drop i.width (c ∷ d ∷ cs)))
      go true e = rw (e, more.1)
      go false e = rw (e, more.0)

module _ (k : Coder) (cs done : List ℕ) (at n : ℕ) (m : length cs ≡ n) (s : Passing k cs done at) (h : at < n) (i : Front) (e : i ≡ front_of k (eqb at 0) (drop at cs)) where
  first_char : drop at cs ≡ get_or cs at 0 ∷ drop (suc at) cs
  first_char = drop-cons cs at 0 (rw m h)

  item-is : i ≡ front_of k (eqb at 0) (get_or cs at 0 ∷ drop (suc at) cs)
  item-is = e ∙ rw first_char

  pub width_fits : (0 < i.width) × ((at + i.width ≤ n) × (i.width ≤ 2))
  width_fits =
      let w = wide k (eqb at 0) (get_or cs at 0) (drop (suc at) cs) in
      rw item-is (w.0, (omega (arith, w.1.0, length-drop (suc at) cs), w.1.1))

  rest : unspell k true 0 cs ≡ join done (gave at i.byte (unspell k false (at + i.width) (drop (at + i.width) cs)))
  rest = s.same ∙ rw (first_char, unspell-item k (eqb at 0) (get_or cs at 0) at (drop (suc at) cs) i item-is, ← first_char, drop-drop)

  pub item_refused : 255 < i.byte → unspell k true 0 cs ≡ stopped at
  item_refused b = rest ∙ rw (le-ltb i.byte 256 b, join-stopped done at)

  pub item-next : i.byte ≤ 255 → Passing k cs (done ++ (i.byte ∷ [])) (at + i.width)
  item-next b = record {
    within = omega (arith, width_fits.1.0);
    few = rw length-append (omega (arith, s.few, width_fits.0));
    same = rest ∙ rw (join-append, lt-ltb i.byte 256 (omega arith), ne_eqb (at + i.width) 0 (omega (arith, width_fits.0)));
  }

  -- where all is found, the item is, and there is a byte more than was read so far
  pub item-there : (text : List ℕ) → unspell k true 0 cs ≡ found text → (i.byte < 256) × (length done < length text)
  item-there text f =
      let r = behind done (gave at i.byte (unspell k false (at + i.width) (drop (at + i.width) cs))) text (sym rest ∙ f) in
      let q = go (ltb i.byte 256) refl (unspell k false (at + i.width) (drop (at + i.width) cs)) r.0 r.1.0 in
      (q.0, omega (arith, q.1, r.1.1))
    where
      go : (t : Bool) → ltb i.byte 256 ≡ t → (z : Reading) (g : List ℕ) → pick t (push i.byte z) (stopped at) ≡ found g → (i.byte < 256) × (0 < length g)
      go true u z [] f = absurd (push-none i.byte z f)
      go true u z (x ∷ g) f = (ltb-true i.byte 256 u, omega arith)
      go false u z g f = let w : ◌≡◌ {A = ℕ} 0 1 = cc in absurd (omega arith)

  -- an item that does not begin with the check of mode 1 does not reach it
  pub before-own : (mode : ℕ) → (mode ≡ 1 → EndsAlone k) → i.byte ≤ 255 → at ≢ own_in mode n → at + i.width ≤ own_in mode n
  before-own mode a b o = go (ℕ_discrete mode 1)
    where
      go : Dec (mode ≡ 1) → at + i.width ≤ own_in mode n
      go (no q) = rw (ne_eqb mode 1 q) width_fits.1.0
      go (yes q) = rw (eq-eqb mode 1 q) (under (dec_lt (at + i.width) n))
        where
          u : at ≢ n - 1
          u = rw (eq-eqb mode 1 q) at o

          under : Dec (at + i.width < n) → at + i.width ≤ n - 1
          under (yes l) = omega arith
          under (no l) =
              let w : (front_of k (eqb at 0) (get_or cs at 0 ∷ drop (suc at) cs)).width ≡ length (get_or cs at 0 ∷ drop (suc at) cs)
              = rw (← item-is) (omega (arith, width_fits.1.0, length-drop (suc at) cs)) in
              let z : drop (suc at) cs ≡ [] = last-alone k (eqb at 0) (get_or cs at 0) (a q) (drop (suc at) cs) (rw (← item-is) (omega arith)) w in
              absurd (u (omega (arith, ap length z, length-drop (suc at) cs)))

-- ---- how many there are, and the sum of the characters beside the check

pub record Measuring (k : Coder) (own : ℕ) (cs : List ℕ) (begun : Sum) (bytes at : ℕ) (sum : Sum) : Type 0 where
  pub done : List ℕ
  pub passing : Passing k cs done at
  pub bytes-are : bytes ≡ length done
  pub sum_is : sum ≡ summed begun (take at (take own cs))
  pub small : Small (2 * at) sum

pub start : (k : Coder) (own : ℕ) (cs : List ℕ) (begun : Sum) → Small 0 begun → Measuring k own cs begun 0 0 begun
start k own cs begun h = record { done = []; passing = begin k cs; bytes-are = refl; sum_is = refl; small = h }

module _ (y : Symbology) (mode : ℕ) (cs : List ℕ) (begun : Sum) (bytes at : ℕ) (sum : Sum)
    (s : Measuring (y.coder mode) (own_in mode (length cs)) cs begun bytes at sum) where
  abbrev k : Coder
  k = y.coder mode

  abbrev own : ℕ
  own = own_in mode (length cs)

  module _ (h : at < length cs) where
    abbrev i : Front
    i = front_of k (eqb at 0) (drop at cs)

    pub wide_enough : (0 < i.width) × ((at + i.width ≤ length cs) × (i.width ≤ 2))
    wide_enough = width_fits k cs s.done at (length cs) refl s.passing h i refl

    pub refused : held i ≡ None → unspell k true 0 cs ≡ stopped at
    refused q = item_refused k cs s.done at (length cs) refl s.passing h i refl (none-above i q)

    module _ (x : Item) (z : held i ≡ Some x) where
      b : i.byte ≤ 255
      b = (is-drawn i x z).0

      next : Passing k cs (s.done ++ (i.byte ∷ [])) (at + i.width)
      next = item-next k cs s.done at (length cs) refl s.passing h i refl b

      -- the check in mode 1 is left out of the sum
      pub left_out : at ≡ own → Measuring k own cs begun (bytes + 1) (at + i.width) sum
      left_out o = record {
        done = s.done ++ (i.byte ∷ []);
        passing = next;
        bytes-are = rw length-append (omega (arith, s.bytes-are));
        sum_is = s.sum_is ∙ ap (summed begun) (all at (omega arith) ∙ sym (all (at + i.width) (omega arith)));
        small = small-more (2 * at) (2 * (at + i.width)) sum (omega arith) s.small;
      }
        where
          all : (j : ℕ) → own ≤ j → take j (take own cs) ≡ take own cs
          all j g = take_all j (take own cs) (omega (arith, length-take own cs))

      pub taken-up : (mode ≡ 1 → EndsAlone k) → at ≢ own → (new : Sum) → Kept 2 (2 * at) sum (take i.width (drop at cs)) new → Measuring k own cs begun (bytes + 1) (at + i.width) new
      taken-up a o new u =
          let f : at + i.width ≤ own = before-own k cs s.done at (length cs) refl s.passing h i refl mode a b o in
          record {
            done = s.done ++ (i.byte ∷ []);
            passing = next;
            bytes-are = rw length-append (omega (arith, s.bytes-are));
            sum_is = u.is ∙ rw (s.sum_is, summed-append) (ap (summed begun) (sym (grown f)));
            small = small-more (2 * at + 2) (2 * (at + i.width)) new (omega (arith, wide_enough.0)) u.small;
          }
        where
          grown : at + i.width ≤ own → take (at + i.width) (take own cs) ≡ take at (take own cs) ++ take i.width (drop at cs)
          grown f = rw (take-take (at + i.width) own cs f, take-take at own cs (omega arith)) (take-add at i.width cs)

  pub ended : Begins y.rule own begun → length cs ≤ at → MeasuredAll y mode cs (record { bytes = bytes; sum = sum })
  ended g h = record {
    text = s.done;
    is = read_back k cs s.done at s.passing h;
    bytes = s.bytes-are;
    sum = checks y.rule (take own cs) begun sum (rw own-long g) (s.sum_is ∙ ap (summed begun) (take_all at (take own cs) (omega (arith, h, own-low (eqb mode 1), own-long))));
  }
    where
      own-low : (b : Bool) → pick b (length cs - 1) (length cs) ≤ length cs
      own-low true = omega arith
      own-low false = omega arith

      own-long : length (take own cs) ≡ own
      own-long = length-take-le own cs (omega (arith, own-low (eqb mode 1)))

-- ---- the bytes in the lent buffer

pub record Writing (k : Coder) (cs lent out : List ℕ) (len at : ℕ) : Type 0 where
  pub done : List ℕ
  pub passing : Passing k cs done at
  pub len_is : len ≡ length done
  pub out-is : out ≡ done ++ drop (length done) lent

-- of characters that spell data for which there is room
module _ (k : Coder) (cs lent out : List ℕ) (len at : ℕ) (w : Written k cs (length lent)) (s : Writing k cs lent out len at) where
  pub as_long : len ≤ length lent → length out ≡ length lent
  as_long h = ap length s.out-is ∙ length-append s.done (drop (length s.done) lent) ∙ omega (arith, length-drop (length s.done) lent, s.len_is)

  module _ (h : at < length cs) where
    abbrev at-front : Front
    at-front = front_of k (eqb at 0) (drop at cs)

    pub room : (at-front.byte < 256) × (len < length lent)
    room = let q = item-there k cs s.done at (length cs) refl s.passing h at-front refl w.text w.is in (q.0, omega (arith, q.1, s.len_is, w.fits))

    pub drawn : held at-front ≡ Some (record { byte = at-front.byte; width = at-front.width })
    drawn = rw (lt-ltb at-front.byte 256 room.0)

    pub written_on : Writing k cs lent (set out len at-front.byte) (len + 1) (at + at-front.width)
    written_on = record {
      done = s.done ++ (at-front.byte ∷ []);
      passing = item-next k cs s.done at (length cs) refl s.passing h at-front refl (omega (arith, room.0));
      len_is = rw length-append (omega (arith, s.len_is));
      out-is = stored;
    }
      where
        stored : set out len at-front.byte ≡ (s.done ++ (at-front.byte ∷ [])) ++ drop (length (s.done ++ (at-front.byte ∷ []))) lent
        stored =
            let m : length (s.done ++ (at-front.byte ∷ [])) ≡ suc (length s.done) = length-append s.done (at-front.byte ∷ []) ∙ omega arith in
            rw (s.out-is, drop-cons lent (length s.done) 0 (omega (arith, room.1, s.len_is)), set_at s.done (get_or lent (length s.done) 0) (drop (suc (length s.done)) lent) at-front.byte len (sym s.len_is), m)
            (sym (append_snoc s.done at-front.byte (drop (suc (length s.done)) lent)))

  pub all-written : length cs ≤ at → out ≡ finds (unspell k true 0 cs) ++ drop (length (finds (unspell k true 0 cs))) lent
  all-written h = s.out-is ∙ rw (read_back k cs s.done at s.passing h)
