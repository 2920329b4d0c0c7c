-- `is_alone` asks `alone`.
-- Assumes nothing.
use Rattle.std.proofs.Common.{◌≡◌, ap, ◌∙◌, is_some, ltb, [], ◌∷◌, rules, tests}
use Rattle.laws.specs.Spelling.{byte_for}
use Rattle.symbologies.specs.Symbologies.{symbology_of}
use Rattle.coders.proofs.Numbers.{told}
use Rattle.coders.proofs.is_alone.Goals as goal

pub returns : goal.returns
returns c =
    let e : c.is_some.result ≡ ltb (byte_for ((symbology_of c.args.symbology).coder c.args.mode) (record { first = c.args.first; last = c.args.last }) (c.args.value ∷ [])) 256
    = c.is_some.ensures ∙ ap is_some c.alone.ensures ∙ told _ _ in
    rw (← e) (search (rules, tests))
