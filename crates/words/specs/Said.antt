-- Document 01, "Turned away: numbers and order": number, place, count and total of each answer.
--
--   in_data, in_row, in_strip      a place, by what it counts: bytes, drawn characters, elements
--   bytes, elements, modules    a count, by what it counts
--   done                        an answer of number 0: its place is 0, and it has a count and a total
--   refused                     any other: "for all but 0 count and total are 0"
--   said_of                      the table, a line to a number
use Rattle.std.specs.Prelude.{ℕ}
use Rattle.words.specs.declared.DataPlace.{DataPlace}
use Rattle.words.specs.declared.CharPlace.{CharPlace}
use Rattle.words.specs.declared.ElementPlace.{ElementPlace}
use Rattle.words.specs.declared.Bytes.{Bytes}
use Rattle.words.specs.declared.Elements.{Elements}
use Rattle.words.specs.declared.Modules.{Modules}
use Rattle.words.specs.declared.Answer.{Answer}
use Rattle.words.specs.declared.Answer.TheVariants.{Drawn, HandedBack, NoSymbology, NoMode, BadCount, BadByte, OddCount, TooManyDrawn, BadCheck, ShortForStrip, ShortForData, BadLength, NoSuchUnit, NoSuchParities, NoExpansion, FieldNotZero}
use Rattle.words.specs.declared.Said.{Said}

abbrev pub in_data : DataPlace → ℕ
in_data place = place.0

abbrev pub in_row : CharPlace → ℕ
in_row place = place.0

abbrev pub in_strip : ElementPlace → ℕ
in_strip place = place.0

abbrev pub bytes : Bytes → ℕ
bytes count = count.0

abbrev pub elements : Elements → ℕ
elements count = count.0

abbrev pub modules : Modules → ℕ
modules count = count.0

abbrev pub done : ℕ → ℕ → Said
done count total = record { number = 0; place = 0; count = count; total = total }

abbrev pub refused : ℕ → ℕ → Said
refused number place = record { number = number; place = place; count = 0; total = 0 }

abbrev pub said_of : Answer → Said
said_of (Drawn e m) = done (elements e) (modules m)
said_of (HandedBack b m) = done (bytes b) (modules m)
said_of NoSymbology = refused 1 0
said_of NoMode = refused 2 0
said_of BadCount = refused 3 0
said_of (BadByte p) = refused 4 (in_data p)
said_of OddCount = refused 5 0
said_of TooManyDrawn = refused 6 0
said_of (BadCheck p) = refused 7 (in_row p)
said_of (ShortForStrip e) = refused 8 (elements e)
said_of (ShortForData b) = refused 8 (bytes b)
said_of BadLength = refused 9 0
said_of (NoSuchUnit p) = refused 10 (in_strip p)
said_of NoSuchParities = refused 11 3
said_of (NoExpansion p) = refused 12 (in_row p)
said_of (FieldNotZero p) = refused 13 (in_data p)
