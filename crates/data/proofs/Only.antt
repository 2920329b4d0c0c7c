-- One answer for each input of this crate's public function, and one content of what is lent to it.
-- Assumes nothing.
use Rattle.laws.specs.One.{One, OneBuffer}
use Rattle.laws.proofs.Only.{only}
use Rattle.data.proofs.reading.data_of.Reads as DataOf
use Rattle.data.proofs.reading.data_of.Kinds as DataOfKinds

pub data_of : One 2 DataOfKinds.ps DataOfKinds.r DataOf.Learnt
data_of κs a p q x y h k = only h.0 k.0

pub data-of-buffer : OneBuffer 2 DataOfKinds.ps DataOfKinds.r (λ κs x. x.1.1.1.0.now) DataOf.Learnt
data-of-buffer κs a p q x y h k = only h.1 k.1
