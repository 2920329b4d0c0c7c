-- One answer for each input of this crate's public functions.
-- Assumes nothing.
use Rattle.laws.specs.One.{One}
use Rattle.laws.proofs.Only.{only}
use Rattle.sums.proofs.start_of.Reads as StartOf
use Rattle.sums.proofs.start_of.Kinds as StartOfKinds
use Rattle.sums.proofs.take_up.Reads as TakeUp
use Rattle.sums.proofs.take_up.Kinds as TakeUpKinds
use Rattle.sums.proofs.check.Reads as CheckOf
use Rattle.sums.proofs.check.Kinds as CheckOfKinds
use Rattle.sums.proofs.own_of.Reads as OwnOf
use Rattle.sums.proofs.own_of.Kinds as OwnOfKinds

pub start_of : One 0 StartOfKinds.ps StartOfKinds.r StartOf.Learnt
start_of κs a p q x y h k = only h k

pub take-up : One 0 TakeUpKinds.ps TakeUpKinds.r TakeUp.Learnt
take-up κs a p q x y h k = only h.0 k.0

pub check : One 0 CheckOfKinds.ps CheckOfKinds.r CheckOf.Learnt
check κs a p q x y h k = only h k

pub own_of : One 0 OwnOfKinds.ps OwnOfKinds.r OwnOf.Learnt
own_of κs a p q x y h k = only h k
