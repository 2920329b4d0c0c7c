-- One answer for each input of this crate's public functions.
-- Assumes nothing.
use Rattle.laws.specs.One.{One}
use Rattle.laws.proofs.Only.{only}
use Rattle.words.proofs.SaidFromAnswer.from.Reads as Say
use Rattle.words.proofs.SaidFromAnswer.from.Kinds as SayKinds

pub say : One 0 SayKinds.ps SayKinds.r Say.Learnt
say κs a p q x y = only
