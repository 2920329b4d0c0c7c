-- One answer for each input of this crate's public function, and one content of the lent buffer.
-- Assumes nothing.
use Rattle.laws.specs.One.{One, OneBuffer}
use Rattle.laws.proofs.Only.{only}
use Rattle.jobs.proofs.run.run_held.Reads as RunHeld
use Rattle.jobs.proofs.run.run_held.Kinds as RunHeldKinds

pub run-held : One 2 RunHeldKinds.ps RunHeldKinds.r RunHeld.Learnt
run-held κs a p q x y h k = only h.0 k.0

pub run-held-buffer : OneBuffer 2 RunHeldKinds.ps RunHeldKinds.r (λ κs x. x.1.1.1.0.now) RunHeld.Learnt
run-held-buffer κs a p q x y h k = only h.1.0 k.1.0
