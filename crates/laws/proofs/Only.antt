-- One answer for each input of this crate's public functions; and the law by which every crate shows it.
--
--   only       two results that are both the definition's are the same
--   index_in   so of `index_in`
--
-- Assumes nothing.
use Rattle.std.proofs.Common.{◌≡◌, sym, ◌∙◌}
use Rattle.laws.specs.One.{One}
use Rattle.laws.proofs.index_in.Reads as IndexIn
use Rattle.laws.proofs.index_in.Kinds as IndexInKinds

pub only : {A : Type 0} {p q d : A} → p ≡ d → q ≡ d → p ≡ q
only h k = h ∙ sym k

pub index_in : One 1 IndexInKinds.ps IndexInKinds.r IndexIn.Learnt
index_in κs a p q x y = only
