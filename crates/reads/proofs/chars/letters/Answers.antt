-- `letters` adds 16 at the first place and at the last; a row below 100 keeps the sum in a byte.
-- Assumes nothing.
use Rattle.std.proofs.Common.{refl, ap, ℕ, ◌+◌, ◌-◌, arith, get_or-set_other}
use Rattle.reads.proofs.Characters.{lettered}
use Rattle.reads.proofs.chars.letters.Goals as goal

pub returns : goal.returns
returns c =
    let p = c.requires.n_bound in
    lettered c.args.codes.now c.args.n c.told-codes p.0 p.1.0 c.requires.behind _ _ refl
    (ap (λ (x : ℕ). x + 16) (get_or-set_other c.args.codes.now 0 (c.args.n - 1) _ 0 (omega (arith, p.0))))
