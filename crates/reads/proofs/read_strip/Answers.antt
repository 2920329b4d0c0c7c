-- The walk is the reading of the units: a unit in no row is 10 at its place, and where there is none the row is what stands in the places.
-- Assumes nothing.
use Rattle.std.proofs.Common.{rules, arith}
use Rattle.std.proofs.lemmas.Result.{err_from_is_err_and}
use Rattle.reads.proofs.Mapped.{was-ok, was-err}
use Rattle.reads.proofs.Seeing.{stood, stop-seen, letters-asks, pairs-asks, first-asks, thirteen, all_seen, row-seen, plain-seen}
use Rattle.reads.proofs.read_strip.Goals as goal

pub returns-in_err-map_err : goal.returns-in_err-map_err
returns-in_err-map_err c =
    let w = was-err _ c.read_all.result _ c.map_err.ensures.cases c.in_err-map_err.was in
    let p = err_from_is_err_and c.from_residual.result c.from_residual.ensures.1 in
    rw (p.1, p.2, w.2) (stop-seen _ _ c.args.strip.now _ _ c.read_all.new.codes c.requires w.0 _ c.read_all.ensures w.1)

pub letters-requires-clause-n_bound : goal.letters-requires-clause-n_bound
letters-requires-clause-n_bound c =
    let s = stood _ _ c.args.strip.now _ _ c.read_all.new.codes c.requires c.read_all.ensures (was-ok _ c.read_all.result _ c.map_err.ensures.cases c.in_ok-map_err.was) in
    (letters-asks s c.in-3.is).0

pub letters-requires-clause-behind : goal.letters-requires-clause-behind
letters-requires-clause-behind c =
    let s = stood _ _ c.args.strip.now _ _ c.read_all.new.codes c.requires c.read_all.ensures (was-ok _ c.read_all.result _ c.map_err.ensures.cases c.in_ok-map_err.was) in
    (letters-asks s c.in-3.is).1

pub pairs-requires-clause-n_bound : goal.pairs-requires-clause-n_bound
pairs-requires-clause-n_bound c =
    let s = stood _ _ c.args.strip.now _ _ c.read_all.new.codes c.requires c.read_all.ensures (was-ok _ c.read_all.result _ c.map_err.ensures.cases c.in_ok-map_err.was) in
    (pairs-asks s c.in-5.is).0

pub pairs-requires-clause-behind : goal.pairs-requires-clause-behind
pairs-requires-clause-behind c =
    let s = stood _ _ c.args.strip.now _ _ c.read_all.new.codes c.requires c.read_all.ensures (was-ok _ c.read_all.result _ c.map_err.ensures.cases c.in_ok-map_err.was) in
    (pairs-asks s c.in-5.is).1

pub see_first-requires-clause-codes_small : goal.see_first-requires-clause-codes_small
see_first-requires-clause-codes_small c =
    let s = stood _ _ c.args.strip.now _ _ c.read_all.new.codes c.requires c.read_all.ensures (was-ok _ c.read_all.result _ c.map_err.ensures.cases c.in_ok-map_err.was) in
    (first-asks s c.in-7.is).0

pub see_first-requires-clause-codes_bound : goal.see_first-requires-clause-codes_bound
see_first-requires-clause-codes_bound c =
    let s = stood _ _ c.args.strip.now _ _ c.read_all.new.codes c.requires c.read_all.ensures (was-ok _ c.read_all.result _ c.map_err.ensures.cases c.in_ok-map_err.was) in
    (first-asks s c.in-7.is).1

pub returns-in-3 : goal.returns-in-3
returns-in-3 c =
    let s = stood _ _ c.args.strip.now _ _ c.read_all.new.codes c.requires c.read_all.ensures (was-ok _ c.read_all.result _ c.map_err.ensures.cases c.in_ok-map_err.was) in
    row-seen s 3 c.in-3.is (λ e. omega arith) _ c.letters.ensures

pub returns-in-5 : goal.returns-in-5
returns-in-5 c =
    let s = stood _ _ c.args.strip.now _ _ c.read_all.new.codes c.requires c.read_all.ensures (was-ok _ c.read_all.result _ c.map_err.ensures.cases c.in_ok-map_err.was) in
    row-seen s 5 c.in-5.is (λ e. omega arith) _ c.pairs.ensures

pub returns-in_err-see_first-in-7 : goal.returns-in_err-see_first-in-7
returns-in_err-see_first-in-7 c =
    let s = stood _ _ c.args.strip.now _ _ c.read_all.new.codes c.requires c.read_all.ensures (was-ok _ c.read_all.result _ c.map_err.ensures.cases c.in_ok-map_err.was) in
    let p = err_from_is_err_and c.from_residual-in_err-see_first-in-7.result c.from_residual-in_err-see_first-in-7.ensures.1 in
    rw (p.1, p.2) (all_seen s 7 13 c.in-7.is (thirteen s c.in-7.is) _ _ (rw c.in_err-see_first-in-7.was at c.see_first.ensures))

pub returns-in_ok-see_first-in-7 : goal.returns-in_ok-see_first-in-7
returns-in_ok-see_first-in-7 c =
    let s = stood _ _ c.args.strip.now _ _ c.read_all.new.codes c.requires c.read_all.ensures (was-ok _ c.read_all.result _ c.map_err.ensures.cases c.in_ok-map_err.was) in
    all_seen s 7 13 c.in-7.is (thirteen s c.in-7.is) _ _ (rw c.in_ok-see_first-in-7.was at c.see_first.ensures)

pub returns-in_default : goal.returns-in_default
returns-in_default c =
    let s = stood _ _ c.args.strip.now _ _ c.read_all.new.codes c.requires c.read_all.ensures (was-ok _ c.read_all.result _ c.map_err.ensures.cases c.in_ok-map_err.was) in
    plain-seen s (search rules) (search rules) (search rules)
