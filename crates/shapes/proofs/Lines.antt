-- Lines of the code that mean the parts of a list, and what is found among them.
--
--   holds_at    a test that passes at every line of a list, and at nothing, passes at a line or past them
--   none-count  a part of no units has none, whatever the count
--   described   where the lines mean these parts, in order, and all are sound and readable, so is the line at i, and it means part i; past
--               them there is nothing on either side
--
-- Assumes nothing.
use Rattle.std.proofs.Common.{◌≡◌, refl, sym, Bool, true, ◌&&◌, List, [], ◌∷◌, map, ℕ, zero, suc, ◌*◌, zero-le, length, eqb-true, le-leb}
use lib.ListN.{get_or-map}
use Rattle.laws.proofs.Finite.{both_left, both_right}
use Rattle.symbologies.specs.Parts.{Part}
use Rattle.shapes.specs.declared.parts.Count.{Count}
use Rattle.shapes.specs.declared.parts.Count.TheVariants.{Of, All, Inner, Half}
use Rattle.shapes.specs.declared.parts.Part.{Part as Line}
use Rattle.shapes.specs.Described.{count_in, is_none, part_in, sound, nothing, line_at, readable, Describes}

abbrev pub all_lines : (Line → Bool) → List Line → Bool
all_lines test [] = true
all_lines test (l ∷ ls) = test l && all_lines test ls

holds_at : (test : Line → Bool) → test nothing ≡ true → (ls : List Line) (i : ℕ) → all_lines test ls ≡ true → test (line_at ls i) ≡ true
unfolding line_at
holds_at test n [] i t = n
holds_at test n (l ∷ ls) zero t = both_left (test l) (all_lines test ls) t
holds_at test n (l ∷ ls) (suc i) t = holds_at test n ls i (both_right (test l) (all_lines test ls) t)

pub described : (sets : List (List ℕ)) (ls : List Line) (ps : List Part) (i : ℕ) (r : Line) → r ≡ line_at ls i
    → map (part_in sets) ls ≡ ps → all_lines (sound (length sets)) ls ≡ true → all_lines (readable sets) ls ≡ true → Describes sets ps i r
unfolding line_at
described sets ls ps i r e m t u = record {
  is = rw (e, ← m) (sym (get_or-map (part_in sets) ls i nothing));
  good = rw e (holds_at (sound (length sets)) refl ls i t);
  reads = rw e (holds_at (readable sets) (rw (le-leb 0 (10 * length sets) zero-le) refl) ls i u);
}

pub none-count : (c : Count) (n : ℕ) → is_none c ≡ true → count_in c n ≡ 0
none-count (Of k) n e = eqb-true k 0 e
none-count All n e = cc
none-count Inner n e = cc
none-count Half n e = cc
