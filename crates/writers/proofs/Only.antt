-- One content of the lent buffer for each input of this crate's public functions.
-- Assumes nothing.
use Rattle.std.proofs.Common.{sym, ◌∙◌}
use Rattle.laws.specs.One.{OneBuffer}
use Rattle.writers.proofs.put_row.Reads as PutRow
use Rattle.writers.proofs.put_row.Kinds as PutRowKinds
use Rattle.writers.proofs.put_pair.Reads as PutPair
use Rattle.writers.proofs.put_pair.Kinds as PutPairKinds

pub put-row : OneBuffer 1 PutRowKinds.ps PutRowKinds.r (λ κs x. x.0.now) PutRow.Learnt
put-row κs a p q x y h k = h.is ∙ sym k.is

pub put-pair : OneBuffer 1 PutPairKinds.ps PutPairKinds.r (λ κs x. x.0.now) PutPair.Learnt
put-pair κs a p q x y h k = h.is ∙ sym k.is
