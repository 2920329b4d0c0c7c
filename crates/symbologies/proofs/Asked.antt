-- What the theorems ask of a symbology. Proper.antt shows it of every line.
--
--   Counts     of a mode that is offered: it takes at least one byte, and what it draws fits the room
--   EndsAlone  the last byte draws one character
--   Loose      where a byte may draw a pair: the room is all that a mode takes, and no more is asked for than a first byte, and in mode 1 a
--              last one
--   Checked    where there is a check: a sound rule, allowed values that differ by its modulus at each place, a check that may stand
--              where it is put in, and enough characters for its place
--   Proper     a valid coder for each mode, which draws what may stand there, and in mode 1 one character at the end; those counts; a check
--              where a mode has one
--
-- Assumes nothing.
use Rattle.std.proofs.Common.{◌≡◌, ◌⊎◌, ◌≢◌, true, List, ℕ, ◌+◌, ◌-◌, ◌<◌, ◌≤◌, length}
use Rattle.laws.specs.Spelling.{Place, fitting, Coder}
use Rattle.laws.specs.Rules.{inserted}
use Rattle.laws.proofs.Spelling.{Valid}
use Rattle.laws.proofs.Fitting.{Keeps}
use Rattle.laws.proofs.Rules.{Sound, Apart}
use Rattle.symbologies.specs.Sizes.{places}
use Rattle.symbologies.specs.Limits.{offered, added, least_of, most_of}
use Rattle.symbologies.specs.Symbologies.{Symbology}
use Rattle.symbologies.proofs.Coders.{Single}

pub record Counts (y : Symbology) (m : ℕ) : Type 0 where
  pub some : 0 < least_of y.limits m
  pub cap : most_of y.limits m + added m ≤ y.limits.room
  pub mode : m < 3

-- the last byte draws one character
abbrev pub EndsAlone : Coder → Type 0
EndsAlone k = (p : Place) (b : ℕ) → p.last ≡ true → length (k.drawn p b) ≤ 1

pub record Loose (y : Symbology) (m : ℕ) : Type 0 where
  pub all : y.limits.room ≤ most_of y.limits m + added m
  pub one : (least_of y.limits m ≤ 1) ⊎ ((m ≡ 1) × (least_of y.limits m ≤ 2))

pub record Checked (y : Symbology) (m : ℕ) : Type 0 where
  pub sound : Sound y.rule places
  pub apart : (p : Place) → Apart y.rule.modulus (y.allowed p)
  pub inserts : (h : List ℕ) → least_of y.limits m ≤ length h → fitting y.allowed true h ≡ true → (sum : ℕ) → fitting y.allowed true (inserted (length h - y.rule.behind) (y.rule.check sum) h) ≡ true
  pub enough : y.rule.behind < least_of y.limits m + added m

pub record Proper (y : Symbology) : Type 0 where
  pub valid : (m : ℕ) → Valid (y.coder m)
  pub keeps : (m : ℕ) → Keeps y.allowed (y.coder m)
  pub counts : (m : ℕ) → offered y.limits m ≡ true → Counts y m
  pub checked : (m : ℕ) → offered y.limits m ≡ true → m ≢ 0 → Checked y m
  pub spread : ((m : ℕ) → Single (y.coder m)) ⊎ ((m : ℕ) → offered y.limits m ≡ true → Loose y m)
  pub ends : EndsAlone (y.coder 1)
  pub small : y.limits.room ≤ places
