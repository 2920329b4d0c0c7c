-- "The first that applies is the answer, and none is given otherwise" (document 01, "Turned away: numbers and order"): the order of the
-- refusals is the order of a list.
--
--   Check, check    a test, and the answer where it applies
--   first_of         what is made of the answer of the first check that applies, or the given one where none does
--   Outcome         a list, or the answer that turns the input away; outcome, a list's, behind its checks
--   data_place, char_place, element_place, byte_count, element_count, module_count    a number as a place or a count
use Rattle.std.specs.Prelude.{Bool, List, [], ◌∷◌, ℕ}
use Rattle.laws.specs.Search.{pick}
use Rattle.words.specs.declared.DataPlace.{DataPlace}
use Rattle.words.specs.declared.CharPlace.{CharPlace}
use Rattle.words.specs.declared.ElementPlace.{ElementPlace}
use Rattle.words.specs.declared.Bytes.{Bytes}
use Rattle.words.specs.declared.Elements.{Elements}
use Rattle.words.specs.declared.Modules.{Modules}
use Rattle.words.specs.declared.Answer.{Answer}

pub record Check : Type 0 where
  pub applies : Bool
  pub answer : Answer

abbrev pub check : Bool → Answer → Check
check b a = record { applies = b; answer = a }

abbrev pub first_of : {A : Type 0} → (Answer → A) → List Check → A → A
first_of f [] z = z
first_of f (c ∷ cs) z = pick c.applies (f c.answer) (first_of f cs z)

pub data Outcome : Type 0 where
  gives : List ℕ → Outcome
  turned : Answer → Outcome

abbrev pub outcome : List Check → List ℕ → Outcome
outcome cs r = first_of turned cs (gives r)

abbrev pub data_place : ℕ → DataPlace
data_place i = record { 0 = i }

abbrev pub char_place : ℕ → CharPlace
char_place i = record { 0 = i }

abbrev pub element_place : ℕ → ElementPlace
element_place i = record { 0 = i }

abbrev pub byte_count : ℕ → Bytes
byte_count n = record { 0 = n }

abbrev pub element_count : ℕ → Elements
element_count n = record { 0 = n }

abbrev pub module_count : ℕ → Modules
module_count n = record { 0 = n }
