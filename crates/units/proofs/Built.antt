-- A ready row is built: what its units show fits them.
--
--   choices_of     the row that each unit shows; fits-long, there are as many of these as units that show one
--   Built, built    what `put_parts` asks is met, and what it gives is the strip
--   Line          the sets and the choices of a symbology, as the code has them; starred, letters, industrial, pairs, matrix, parities, last, those
--                 of each number
--   few-chars     a ready row has no more characters than places; letters-in, digits5, digits13, what Codabar, Interleaved and EAN-13 ask of them
--
-- Assumes nothing.
use Rattle.std.proofs.Common.{◌≡◌, refl, ap, ◌∙◌, ◌≢◌, ◌⊎◌, inl, inr, true, List, [], ◌∷◌, ℕ, suc, ◌≤◌, length}
use Rattle.laws.specs.Units.{Kind, fixed, free, strip, frees, Fits}
use Rattle.laws.specs.Writing.{front}
use Rattle.laws.proofs.Spelling.{Below}
use Rattle.tables.specs.TwoOfFive.{table44, alphabet_digits}
use Rattle.symbologies.specs.Sizes.{places}
use Rattle.symbologies.specs.Symbologies.{symbologies, symbology_of}
use Rattle.symbologies.specs.Strips.{units_of, strip_of, all_allowed, counted, ready}
use Rattle.symbologies.proofs.Counted.{by_number, counted-few, counted-codabar, counted-ean13}
use Rattle.symbologies.proofs.Ready.{ready-fits, ready-counted, ready-allowed, ready-below}
use Rattle.symbologies.specs.Parts.{lowered, paired, sided}
use Rattle.shapes.specs.Sets.{sets39, sets_codabar, sets_industrial, sets_digits, sets_ean, sets_of}

abbrev pub choices_of : ℕ → List ℕ → List ℕ
choices_of s r = (symbology_of s).shows.choices r

fits-long : (ks : List Kind) (cs : List ℕ) → Fits ks cs → length cs ≡ frees ks
fits-long [] [] f = refl
fits-long [] (c ∷ cs) f = absurd f
fits-long (fixed r ∷ ks) cs f = fits-long ks cs f
fits-long (free k ∷ ks) [] f = absurd f
fits-long (free k ∷ ks) (c ∷ cs) f = ap suc (fits-long ks cs f.1)

-- the sets and the choices of a symbology, as the code has them
pub record Line (s : ℕ) (sets : List (List ℕ)) (f : List ℕ → List ℕ) : Type 0 where
  pub rows : sets ≡ sets_of s
  pub shown : (r : List ℕ) → f r ≡ choices_of s r

pub record Built (s : ℕ) (chars ch : List ℕ) (sets : List (List ℕ)) (out : List ℕ) : Type 0 where
  pub sets_value : sets ≡ sets_of s
  pub fits : Fits (units_of s (length chars)) ch
  pub room : length (strip (units_of s (length chars)) ch) ≤ length out
  pub gives : {q : List ℕ} → q ≡ front (strip (units_of s (length chars)) ch) out → q ≡ front (strip_of s chars) out

pub built : (s : ℕ) (chars out : List ℕ) → ready s chars ≡ true → length (strip_of s chars) ≤ length out → {table : List (List ℕ)} {f : List ℕ → List ℕ} → Line s table f
    → {sets : List (List ℕ)} {ch : List ℕ} → sets ≡ table → ch ≡ f chars → Built s chars ch sets out
unfolding strip_of
built s chars out h l line e t =
    let w = t ∙ line.shown chars in
    record { sets_value = e ∙ line.rows; fits = rw w (ready-fits s chars h); room = rw w l; gives = λ u. u ∙ rw w refl }

-- ---- by number

module _ {s : ℕ} where
  pub starred : (s ≡ 1) ⊎ (s ≡ 2) → Line s sets39 (λ r. r)
  unfolding sets_of symbology_of symbologies
  starred (inl e) = rw e (record { rows = refl; shown = λ r. refl })
  starred (inr e) = rw e (record { rows = refl; shown = λ r. refl })

  pub letters : s ≡ 3 → Line s sets_codabar (lowered true)
  unfolding sets_of symbology_of symbologies
  letters e = rw e (record { rows = refl; shown = λ r. refl })

  pub industrial : s ≡ 4 → Line s sets_industrial (λ r. r)
  unfolding sets_of symbology_of symbologies
  industrial e = rw e (record { rows = refl; shown = λ r. refl })

  pub pairs : s ≡ 5 → Line s sets_digits paired
  unfolding sets_of symbology_of symbologies
  pairs e = rw e (record { rows = refl; shown = λ r. refl })

  pub matrix : s ≡ 6 → Line s sets_digits (λ r. r)
  unfolding sets_of symbology_of symbologies
  matrix e = rw e (record { rows = refl; shown = λ r. refl })

  pub parities : s ≡ 7 → Line s sets_ean sided
  unfolding sets_of symbology_of symbologies
  parities e = rw e (record { rows = refl; shown = λ r. refl })

pub last : (s n : ℕ) → counted s n ≡ true → s ≢ 1 → s ≢ 2 → s ≢ 3 → s ≢ 4 → s ≢ 5 → s ≢ 6 → s ≢ 7 → Line s sets_ean (λ r. r)
unfolding sets_of symbology_of symbologies
last s n =
    by_number (λ s. s ≢ 1 → s ≢ 2 → s ≢ 3 → s ≢ 4 → s ≢ 5 → s ≢ 6 → s ≢ 7 → Line s sets_ean (λ r. r)) (
      λ a b c d e f g. absurd (a refl),
      (
        λ a b c d e f g. absurd (b refl),
        (
          λ a b c d e f g. absurd (c refl),
          (
            λ a b c d e f g. absurd (d refl),
            (λ a b c d e f g. absurd (e refl), (λ a b c d e f g. absurd (f refl), (λ a b c d e f g. absurd (g refl), (λ a b c d e f g. record { rows = refl; shown = λ r. refl }, (λ a b c d e f g. record { rows = refl; shown = λ r. refl }, tt))))),
          ),
        ),
      ),
    )
    s n

-- ---- what their characters are

pub few-chars : (s : ℕ) (r : List ℕ) → ready s r ≡ true → length r ≤ places
few-chars s r h = counted-few s (length r) (ready-counted s r h)

pub letters-in : (s : ℕ) (r : List ℕ) → ready s r ≡ true → s ≡ 3 → (3 ≤ length r) × (all_allowed 3 true r ≡ true)
letters-in s r h e = ((counted-codabar (length r) (rw e at (ready-counted s r h))).0, ready-allowed 3 r (rw e at h))

pub digits5 : (s : ℕ) (r : List ℕ) → ready s r ≡ true → s ≡ 5 → Below 10 r
unfolding symbology_of symbologies alphabet_digits table44
digits5 s r h e = ready-below 5 r refl (rw e at h)

pub digits13 : (s : ℕ) (r : List ℕ) → ready s r ≡ true → s ≡ 7 → (length r ≡ 13) × Below 10 r
unfolding symbology_of symbologies alphabet_digits table44
digits13 s r h e = (counted-ean13 (length r) (rw e at (ready-counted s r h)), ready-below 7 r refl (rw e at h))
