-- Every answer is done or a refusal, and "for all but 0 count and total are 0" (document 01).
--
--   Form, form    done with a count and a total, or a refusal of a number above 0 with a place
--   refusal       of a number that is not 0: count and total are 0 (for the reader: it holds of every answer, so no call needs it)
--
-- Assumes nothing.
use Rattle.std.proofs.Common.{◌≡◌, refl, ap, ◌≢◌, ℕ, suc}
use Rattle.words.specs.declared.Answer.{Answer}
use Rattle.words.specs.declared.Answer.TheVariants.{Drawn, HandedBack, NoSymbology, NoMode, BadCount, BadByte, OddCount, TooManyDrawn, BadCheck, ShortForStrip, ShortForData, BadLength, NoSuchUnit, NoSuchParities, NoExpansion, FieldNotZero}
use Rattle.words.specs.declared.Said.{Said}
use Rattle.words.specs.Said.{done, refused, said_of}

pub data Form (s : Said) : Type 0 where
  is-done : (count total : ℕ) → s ≡ done count total → Form s
  is-refused : (number place : ℕ) → s ≡ refused (suc number) place → Form s

pub form : (a : Answer) → Form (said_of a)
form (Drawn e m) = is-done e.0 m.0 refl
form (HandedBack b m) = is-done b.0 m.0 refl
form NoSymbology = is-refused 0 0 refl
form NoMode = is-refused 1 0 refl
form BadCount = is-refused 2 0 refl
form (BadByte p) = is-refused 3 p.0 refl
form OddCount = is-refused 4 0 refl
form TooManyDrawn = is-refused 5 0 refl
form (BadCheck p) = is-refused 6 p.0 refl
form (ShortForStrip e) = is-refused 7 e.0 refl
form (ShortForData b) = is-refused 7 b.0 refl
form BadLength = is-refused 8 0 refl
form (NoSuchUnit p) = is-refused 9 p.0 refl
form NoSuchParities = is-refused 10 3 refl
form (NoExpansion p) = is-refused 11 p.0 refl
form (FieldNotZero p) = is-refused 12 p.0 refl

zeros : (s : Said) → Form s → s.number ≢ 0 → (s.count ≡ 0) × (s.total ≡ 0)
zeros s (is-done c t e) n = absurd (n (ap (λ (q : Said). q.number) e))
zeros s (is-refused k p e) n = (ap (λ (q : Said). q.count) e, ap (λ (q : Said). q.total) e)

pub refusal : (a : Answer) → (said_of a).number ≢ 0 → ((said_of a).count ≡ 0) × ((said_of a).total ≡ 0)
refusal a = zeros (said_of a) (form a)
