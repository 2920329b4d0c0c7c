-- One answer for each input of this crate's public functions.
-- Assumes nothing.
use Rattle.laws.specs.One.{One}
use Rattle.laws.proofs.Only.{only}
use Rattle.tables.proofs.code39.value.Reads as Value39
use Rattle.tables.proofs.code39.value.Kinds as Value39Kinds
use Rattle.tables.proofs.code39.byte.Reads as Byte39
use Rattle.tables.proofs.code39.byte.Kinds as Byte39Kinds
use Rattle.tables.proofs.codabar.value.Reads as ValueCodabar
use Rattle.tables.proofs.codabar.value.Kinds as ValueCodabarKinds
use Rattle.tables.proofs.codabar.byte.Reads as ByteCodabar
use Rattle.tables.proofs.codabar.byte.Kinds as ByteCodabarKinds
use Rattle.tables.proofs.two_of_five.value.Reads as Value25
use Rattle.tables.proofs.two_of_five.value.Kinds as Value25Kinds
use Rattle.tables.proofs.two_of_five.byte.Reads as Byte25
use Rattle.tables.proofs.two_of_five.byte.Kinds as Byte25Kinds
use Rattle.tables.proofs.ean.parities_of.Reads as ParitiesOf
use Rattle.tables.proofs.ean.parities_of.Kinds as ParitiesOfKinds
use Rattle.tables.proofs.ean.first_digit.Reads as FirstDigit
use Rattle.tables.proofs.ean.first_digit.Kinds as FirstDigitKinds

pub value39 : One 0 Value39Kinds.ps Value39Kinds.r Value39.Learnt
value39 κs a p q x y = only

pub byte39 : One 0 Byte39Kinds.ps Byte39Kinds.r Byte39.Learnt
byte39 κs a p q x y = only

pub value-codabar : One 0 ValueCodabarKinds.ps ValueCodabarKinds.r ValueCodabar.Learnt
value-codabar κs a p q x y = only

pub byte-codabar : One 0 ByteCodabarKinds.ps ByteCodabarKinds.r ByteCodabar.Learnt
byte-codabar κs a p q x y = only

pub value25 : One 0 Value25Kinds.ps Value25Kinds.r Value25.Learnt
value25 κs a p q x y = only

pub byte25 : One 0 Byte25Kinds.ps Byte25Kinds.r Byte25.Learnt
byte25 κs a p q x y = only

pub parities-of : One 0 ParitiesOfKinds.ps ParitiesOfKinds.r ParitiesOf.Learnt
parities-of κs a p q x y = only

pub first-digit : One 0 FirstDigitKinds.ps FirstDigitKinds.r FirstDigit.Learnt
first-digit κs a p q x y = only
