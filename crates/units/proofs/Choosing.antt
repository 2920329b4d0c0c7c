-- The rows that the units show, as the code makes them.
--
--   Making       a list of k that is made from its front: what stands and what is left
--   Letters, letters    Codabar: letters stand at both ends, and less 16 they make the row that is shown; copied, where the characters were copied
--                       to the front of what stood there
--
-- Assumes nothing.
use Rattle.std.proofs.Common.{take_at, length-append, ◌≡◌, refl, ap, ◌∙◌, true, false, List, [], ◌∷◌, ◌++◌, ℕ, zero, suc, ◌-◌, ◌<◌, ◌≤◌, arith, le_of_suc-le-suc, not-suc-le-zero, length, get_or, take, set}
use Rattle.laws.proofs.Finite.{both_left, both_right}
use Rattle.symbologies.specs.Coders.{placed}
use Rattle.symbologies.specs.Parts.{lowered}
use Rattle.symbologies.specs.Symbologies.{symbologies, symbology_of}
use Rattle.symbologies.specs.Strips.{all_allowed}
use Rattle.symbologies.proofs.Ready.{letter-high}

pub record Making (k : ℕ) (whole rows : List ℕ) (i : ℕ) (rest : List ℕ) : Type 0 where
  pub long : length rows ≡ k
  pub is : take i rows ++ rest ≡ whole

-- ---- Codabar

pub record Letters (codes : List ℕ) (n : ℕ) : Type 0 where
  pub first : 16 ≤ get_or codes 0 0
  pub last : 16 ≤ get_or (set codes 0 (get_or codes 0 0 - 16)) (n - 1) 0
  pub low : take n (set (set codes 0 (get_or codes 0 0 - 16)) (n - 1) (get_or (set codes 0 (get_or codes 0 0 - 16)) (n - 1) 0 - 16)) ≡ lowered true (take n codes)

last_letter : (cs : List ℕ) (k : ℕ) → k < length cs → all_allowed 3 false (take (suc k) cs) ≡ true
    → (16 ≤ get_or cs k 0) × (take (suc k) (set cs k (get_or cs k 0 - 16)) ≡ lowered false (take (suc k) cs))
unfolding symbology_of symbologies
last_letter [] k h e = absurd (not-suc-le-zero h)
last_letter (c ∷ cs) zero h e = (letter-high c (both_left (placed true c) true e), refl)
last_letter (c ∷ []) (suc k) h e = absurd (omega arith)
last_letter (c ∷ d ∷ cs) (suc k) h e =
    let t = last_letter (d ∷ cs) k (le_of_suc-le-suc h) (both_right (placed false c) (all_allowed 3 false (take (suc k) (d ∷ cs))) e) in
    (t.0, ap (λ (l : List ℕ). c ∷ l) t.1)

pub letters : (codes : List ℕ) (n : ℕ) → 2 ≤ n → n ≤ length codes → all_allowed 3 true (take n codes) ≡ true → Letters codes n
unfolding symbology_of symbologies
letters codes zero l h e = absurd (omega arith)
letters codes (suc zero) l h e = absurd (omega arith)
letters [] (suc (suc k)) l h e = absurd (omega arith)
letters (c ∷ []) (suc (suc k)) l h e = absurd (omega arith)
letters (c ∷ d ∷ cs) (suc (suc k)) l h e =
    let t = last_letter (d ∷ cs) k (le_of_suc-le-suc h) (both_right (placed true c) (all_allowed 3 false (take (suc k) (d ∷ cs))) e) in
    let z : suc (suc k) - 1 ≡ suc k = omega arith in
    record {
      first = letter-high c (both_left (placed true c) (all_allowed 3 false (take (suc k) (d ∷ cs))) e);
      last = rw z t.0;
      low = rw z (ap (λ (l : List ℕ). (c - 16) ∷ l) t.1);
    }

-- characters, copied to the front of what stood there
pub copied : (v z cs : List ℕ) → v ≡ cs → 2 ≤ length cs → all_allowed 3 true cs ≡ true → Letters (v ++ z) (length cs) × (take (length cs) (v ++ z) ≡ cs)
copied v z cs e l h =
    let f : take (length cs) (v ++ z) ≡ cs = take_at v z (length cs) (ap length e) ∙ e in
    (letters (v ++ z) (length cs) l (omega (arith, length-append v z, ap length e)) (rw f h), f)
