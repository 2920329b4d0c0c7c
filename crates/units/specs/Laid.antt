-- A row laid out into a lent buffer.
--
--   chars_of     the characters of a row as the code holds it; none where its number passes its places
--   laid_of      what is answered: the number of elements and modules, or that the buffer is too short
--   laid_in      the buffer afterwards: the strip and what stood behind it, or what stood there
use Rattle.std.specs.Prelude.{List, [], ◌++◌, Result, Ok, Err, ℕ, ltb, leb, length, take, drop}
use Rattle.laws.specs.Search.{pick}
use Rattle.words.specs.declared.Elements.{Elements}
use Rattle.words.specs.declared.Modules.{Modules}
use Rattle.words.specs.declared.Answer.{Answer}
use Rattle.words.specs.declared.Answer.TheVariants.{ShortForStrip}
use Rattle.words.specs.Order.{element_count, module_count}
use Rattle.symbologies.specs.declared.row.Row.{Row}
use Rattle.symbologies.specs.Sizes.{places}
use Rattle.symbologies.specs.Strips.{elements_of, modules_of, strip_of}

abbrev pub chars_of : Row → List ℕ
chars_of row = pick (leb row.len places) (take row.len row.codes) []

unfoldable pub laid_of : ℕ → List ℕ → ℕ → Result (Elements × Modules) Answer
laid_of s r room =
    pick (ltb room (elements_of s (length r))) (Err (ShortForStrip (element_count (elements_of s (length r)))))
    (Ok (element_count (elements_of s (length r)), module_count (modules_of s r)))

unfoldable pub laid_in : ℕ → List ℕ → List ℕ → List ℕ
laid_in s r out = pick (ltb (length out) (elements_of s (length r))) out (strip_of s r ++ drop (elements_of s (length r)) out)
