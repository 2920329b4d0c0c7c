-- One answer for each input of this crate's public functions.
-- Assumes nothing.
use Rattle.laws.specs.One.{One}
use Rattle.laws.proofs.Only.{only}
use Rattle.search.proofs.seek.mark_at.Reads as MarkAt
use Rattle.search.proofs.seek.mark_at.Kinds as MarkAtKinds
use Rattle.search.proofs.seek.found_in.Reads as FoundIn
use Rattle.search.proofs.seek.found_in.Kinds as FoundInKinds
use Rattle.search.proofs.seek.sought_at.Reads as SoughtAt
use Rattle.search.proofs.seek.sought_at.Kinds as SoughtAtKinds

pub mark-at : One 1 MarkAtKinds.ps MarkAtKinds.r MarkAt.Learnt
mark-at κs a p q x y = only

pub found_in : One 1 FoundInKinds.ps FoundInKinds.r FoundIn.Learnt
found_in κs a p q x y = only

pub sought-at : One 1 SoughtAtKinds.ps SoughtAtKinds.r SoughtAt.Learnt
sought-at κs a p q x y = only
