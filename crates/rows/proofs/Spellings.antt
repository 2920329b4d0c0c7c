-- The loop that spells data: what is done, and the same function on what is left.
--
--   push-in, put_in    a list in a row, with characters behind it
--   Spelling       i bytes are spelled, and the characters beside the check of mode 1 are summed: `start`, `refused`, `taken-up`, `left_out`,
--                  `ended`
--
-- Assumes nothing.
use Rattle.std.proofs.Common.{◌≡◌, refl, sym, ap, ◌∙◌, Bool, true, false, inl, inr, ◌≢◌, List, [], ◌∷◌, ◌++◌, append-nil, append_assoc, ℕ, suc, ◌+◌, ◌*◌, ◌-◌, ◌<◌, ◌≤◌, arith, add-one, eqb, length, get_or, take, drop, set, length-append, drop_of_length-le, drop-cons, length-take-le, take_all, take_at, eq-eqb, ne_eqb}
use Rattle.std.proofs.Math.Decide.{ℕ_discrete}
use Rattle.laws.specs.Search.{pick}
use Rattle.laws.specs.Units.{found, stopped}
use Rattle.laws.specs.Spelling.{Coder, join, took, spell}
use Rattle.laws.proofs.Spelling.{spell-same, join-append, join-found, join-stopped, ends_at}
use Rattle.words.specs.declared.Answer.TheVariants.{BadByte}
use Rattle.words.specs.Order.{data_place}
use Rattle.coders.specs.declared.Piece.{Piece}
use Rattle.coders.specs.declared.Piece.TheVariants.{Alone, Pair, Nothing}
use Rattle.coders.specs.Pieces.{piece_list, is_nil}
use Rattle.symbologies.specs.declared.row.Row.{Row}
use Rattle.symbologies.specs.Sizes.{places}
use Rattle.symbologies.specs.Symbologies.{Symbology, symbology_of}
use Rattle.symbologies.specs.Told.{pad, row_in}
use Rattle.symbologies.proofs.Asked.{EndsAlone}
use Rattle.symbologies.proofs.Proper.{single}
use Rattle.symbologies.proofs.Held.{set-pad}
use Rattle.sums.specs.declared.Sum.{Sum}
use Rattle.sums.specs.Sums.{Small, Kept, summed, Begins, Suits, own_in, others_in}
use Rattle.sums.proofs.Sums.{small-more, summed-append, checks}
use Rattle.rows.specs.Held.{pushed, put_all, SpelledAll, Stopped}

-- ---- a list in a row

pub push-in : (cs : List ℕ) (v : ℕ) → pushed (row_in cs) v ≡ row_in (cs ++ (v ∷ []))
push-in cs v =
    let a : set (pad places cs) (length cs) v ≡ pad places (cs ++ (v ∷ [])) = set-pad places cs v in
    let b : length cs + 1 ≡ length (cs ++ (v ∷ [])) = sym (length-append cs (v ∷ [])) in
    cc

put_in : (cs ds : List ℕ) → put_all (row_in cs) ds ≡ row_in (cs ++ ds)
put_in cs [] = rw append-nil
put_in cs (d ∷ ds) = ap (λ (r : Row). put_all r ds) (push-in cs d) ∙ put_in (cs ++ (d ∷ [])) ds ∙ rw append_assoc

piece-short : (p : Piece) → length (piece_list p) ≤ 2
piece-short (Alone c) = omega arith
piece-short (Pair c d) = omega arith
piece-short Nothing = omega arith

-- ---- spelling

-- of the characters that are done, the last is the check once i is past its byte
pub record Spelling (k : Coder) (own : ℕ) (text : List ℕ) (begun : Sum) (row : Row) (i : ℕ) (sum : Sum) : Type 0 where
  pub done : List ℕ
  pub is : row ≡ row_in done
  pub few : length done ≤ 2 * i
  pub same : spell k true 0 text ≡ join done (spell k (eqb i 0) i (drop i text))
  pub sum_is : sum ≡ summed begun (take (length done - (i - own)) done)
  pub small : Small (2 * i) sum

pub start : (k : Coder) (own : ℕ) (text : List ℕ) (begun : Sum) (row : Row) → row ≡ row_in [] → Small 0 begun → Spelling k own text begun row 0 begun
start k own text begun row e h =
    let z : 0 - (0 - own) ≡ 0 = omega arith in
    record { done = []; is = e; few = omega arith; same = refl; sum_is = rw z; small = h }

-- byte i draws a piece; `nil` is the test that it draws nothing
module _ (y : Symbology) (mode : ℕ) (text : List ℕ) (begun : Sum) (row : Row) (i : ℕ) (sum : Sum) (s : Spelling (y.coder mode) (own_in mode (length text)) text begun row i sum)
    (h : i < length text) (p : Piece) (d : piece_list p ≡ (y.coder mode).drawn (record { first = eqb i 0; last = eqb (i + 1) (length text) }) (get_or text i 0))
    (nil : Bool) (n : nil ≡ is_nil (piece_list p)) where
  abbrev k : Coder
  k = y.coder mode

  left : spell k true 0 text ≡ join s.done (took i (piece_list p) (spell k false (suc i) (drop (suc i) text)))
  left =
      let e : eqb (suc i) (length text) ≡ eqb (i + 1) (length text) = rw add-one in
      s.same ∙ rw (drop-cons text i 0 h, ends_at text (suc i) (length text) refl h, e, ← d)

  pub refused : nil ≡ true → Stopped y mode text (BadByte (data_place i))
  refused t = record { place = data_place i; is = refl; stops = left ∙ go (piece_list p) (sym n ∙ t) }
    where
      go : (cs : List ℕ) → is_nil cs ≡ true → join s.done (took i cs (spell k false (suc i) (drop (suc i) text))) ≡ stopped i
      go [] e = join-stopped s.done i
      go (c ∷ cs) e = let z : ◌≡◌ {A = ℕ} 0 1 = cc in absurd (omega arith)

  module _ (t : nil ≡ false) (new : Row) (e : new ≡ put_all row (piece_list p)) where
    some : (cs : List ℕ) → is_nil cs ≡ false → 0 < length cs
    some [] q = let z : ◌≡◌ {A = ℕ} 0 1 = cc in absurd (omega arith)
    some (c ∷ cs) q = omega arith

    on : spell k true 0 text ≡ join (s.done ++ piece_list p) (spell k (eqb (i + 1) 0) (i + 1) (drop (i + 1) text))
    on = left ∙ rw (join-append, ne_eqb (i + 1) 0 (omega arith), add-one) (go (piece_list p) (sym n ∙ t))
      where
        go : (cs : List ℕ) → is_nil cs ≡ false
            → join s.done (took i cs (spell k false (suc i) (drop (suc i) text))) ≡ join s.done (join cs (spell k false (suc i) (drop (suc i) text)))
        go [] e = let z : ◌≡◌ {A = ℕ} 0 1 = cc in absurd (omega arith)
        go (c ∷ cs) e = refl

    next : (sum' : Sum) → sum' ≡ summed begun (take (length (s.done ++ piece_list p) - (i + 1 - own_in mode (length text))) (s.done ++ piece_list p)) → Small (2 * (i + 1)) sum'
        → Spelling k (own_in mode (length text)) text begun new (i + 1) sum'
    next sum' f g = record {
      done = s.done ++ piece_list p;
      is = e ∙ ap (λ (r : Row). put_all r (piece_list p)) s.is ∙ put_in s.done (piece_list p);
      few = rw length-append (omega (arith, s.few, piece-short p));
      same = on;
      sum_is = f;
      small = g;
    }

    -- no byte stands behind that of the check
    own_is : (b : Bool) → i ≢ pick b (length text - 1) (length text) → i < pick b (length text - 1) (length text)
    own_is true o = omega arith
    own_is false o = omega arith

    pub taken-up : i ≢ own_in mode (length text) → (sum' : Sum) → Kept 2 (2 * i) sum (piece_list p) sum' → Spelling k (own_in mode (length text)) text begun new (i + 1) sum'
    taken-up o sum' f =
        let l : i < own_in mode (length text) = own_is (eqb mode 1) o in
        let a : i - own_in mode (length text) ≡ 0 = omega arith in
        let b : i + 1 - own_in mode (length text) ≡ 0 = omega arith in
        next sum' (f.is ∙ rw (s.sum_is, a, b, summed-append) (ap (summed begun) (all s.done (piece_list p))))
        (small-more (2 * i + 2) (2 * (i + 1)) sum' (omega arith) f.small)
      where
        all : (xs ys : List ℕ) → take (length xs - 0) xs ++ ys ≡ take (length (xs ++ ys) - 0) (xs ++ ys)
        all xs ys = rw (take_all (length xs - 0) xs (omega arith), take_all (length (xs ++ ys) - 0) (xs ++ ys) (omega arith))

    -- the check in mode 1 draws one character, which is left out of the sum
    pub left_out : (mode ≡ 1 → EndsAlone k) → i ≡ own_in mode (length text) → Spelling k (own_in mode (length text)) text begun new (i + 1) sum
    left_out a o = go (ℕ_discrete mode 1)
      where
        go : Dec (mode ≡ 1) → Spelling k (own_in mode (length text)) text begun new (i + 1) sum
        go (no q) = absurd (omega (arith, rw (ne_eqb mode 1 q) at o))
        go (yes q) =
            let u : i ≡ length text - 1 = rw (eq-eqb mode 1 q) at o in
            let w : length (piece_list p) ≤ 1 = rw d (a q (record { first = eqb i 0; last = eqb (i + 1) (length text) }) (get_or text i 0) (eq-eqb (i + 1) (length text) (omega arith))) in
            let f : length (s.done ++ piece_list p) - (i + 1 - own_in mode (length text)) ≡ length s.done
            = rw length-append (omega (arith, some (piece_list p) (sym n ∙ t), w, o)) in
            let g : i - own_in mode (length text) ≡ 0 = omega arith in
            next sum (s.sum_is ∙ rw (f, g, take_at s.done (piece_list p) (length s.done) refl) (ap (summed begun) (take_all (length s.done - 0) s.done (omega arith))))
            (small-more (2 * i) (2 * (i + 1)) sum (omega arith) s.small)

-- ---- all data

module _ (s mode : ℕ) (text : List ℕ) (some : 0 < length text) where
  abbrev coder : Coder
  coder = (symbology_of s).coder mode

  -- how many characters are beside the check
  suits : (h : List ℕ) → spell coder true 0 text ≡ found h → Suits s (own_in mode (length text)) (length (others_in mode h))
  suits h e = go (ℕ_discrete s 2)
    where
      own-low : (b : Bool) (n : ℕ) → pick b (n - 1) n ≤ n
      own-low true n = omega arith
      own-low false n = omega arith

      go : Dec (s ≡ 2) → Suits s (own_in mode (length text)) (length (others_in mode h))
      go (yes q) = inr q
      go (no q) = inl (length-take-le (own_in mode (length h)) h (own-low (eqb mode 1) (length h)) ∙ rw (spell-same coder (single s q mode) text h true 0 e))

  pub ended : (begun : Sum) → ((k : ℕ) → Suits s (own_in mode (length text)) k → Begins (symbology_of s).rule k begun) → (row : Row) (i : ℕ) (sum : Sum)
      → Spelling coder (own_in mode (length text)) text begun row i sum → i ≡ length text → SpelledAll (symbology_of s) mode text row sum
  ended begun b row i sum w h =
      let z : spell coder true 0 text ≡ found w.done = w.same ∙ rw (drop_of_length-le text {i = i} (omega arith)) (join-found w.done) in
      record {
        body = w.done;
        is = z;
        row_is = w.is;
        check = checks (symbology_of s).rule (others_in mode w.done) begun sum (b (length (others_in mode w.done)) (suits w.done z)) (w.sum_is ∙ rw h (ap (summed begun) (beside (eqb mode 1) w.done)));
      }
    where
      beside : (b : Bool) (g : List ℕ) → take (length g - (length text - pick b (length text - 1) (length text))) g ≡ take (pick b (length g - 1) (length g)) g
      beside true g = let e : length g - (length text - (length text - 1)) ≡ length g - 1 = omega arith in rw e
      beside false g = let e : length g - (length text - length text) ≡ length g = omega arith in rw e
