-- `first_record`: the body stands behind the kind, and the rest behind the body.
-- Assumes nothing.
use Rattle.std.proofs.Common.{sym, ◌∙◌, refl, arith}
use Rattle.std.proofs.lemmas.List.{take_rest}
use Rattle.jobs.proofs.Runs.{found}
use Rattle.jobs.proofs.run.first_record.Goals as goal

pub returns : goal.returns
returns c =
    found c.args.held.now _ _ _ c.in_ok-body.body (omega arith) (take_rest c.args.held.now 1) (sym c.body_of.ensures.value ∙ c.in_ok-body.ensures.ok_part)
    c.if-behind-body.false refl (take_rest _ c.in_ok-body.body)
