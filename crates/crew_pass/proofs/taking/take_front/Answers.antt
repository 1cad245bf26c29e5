use Rattle.std.proofs.Common.{Global, arith}
use Rattle.std.specs.Arc.{arc_value}
use Rattle.crew_label.specs.declared.pool.Pool.{Pool}
use Rattle.crew_labelling.proofs.Right.{fronts-long}
use Rattle.crew_pairing.specs.declared.duty.Duty.{Duty}
use Rattle.crew_pass.specs.Machinery.Terms.{terms}
use Rattle.crew_pass.proofs.More.{front-more}
use Rattle.crew_pass.proofs.taking.take_front.Goals as goal

pub has-requires : goal.has-requires
has-requires g c =
    let within = c.requires.rank in
    let one = c.requires.seen.fronts.long in
    let two = fronts-long (terms g.R.Value.Ord.cmp g.R.Lapses g.R.Staged g.R.Forgets g.R.Resource c.args.ground.now) c.requires.may.terms in
    omega (arith, within, one, two)

pub put-requires : goal.put-requires
put-requires g c =
    let within = c.requires.rank in
    let one = c.requires.seen.fronts.long in
    let two = fronts-long (terms g.R.Value.Ord.cmp g.R.Lapses g.R.Staged g.R.Forgets g.R.Resource c.args.ground.now) c.requires.may.terms in
    omega (arith, within, one, two)

pub returns-clause-seen : goal.returns-clause-seen
returns-clause-seen g c = (front-more (terms g.R.Value.Ord.cmp g.R.Lapses g.R.Staged g.R.Forgets g.R.Resource c.args.ground.now) c.requires.may c.args.seen.now c.requires.seen c.args.rank (arc_value {X = Pool g.row.R.Denot g.row.R-Value.Denot Duty} {Z = Global} c.in_ok-pool.pool) c.put.new.self c.put.ensures c.requires.rank c.in_ok-pool.ensures c.requires.there).0

pub returns-clause-stays : goal.returns-clause-stays
returns-clause-stays g c = (front-more (terms g.R.Value.Ord.cmp g.R.Lapses g.R.Staged g.R.Forgets g.R.Resource c.args.ground.now) c.requires.may c.args.seen.now c.requires.seen c.args.rank (arc_value {X = Pool g.row.R.Denot g.row.R-Value.Denot Duty} {Z = Global} c.in_ok-pool.pool) c.put.new.self c.put.ensures c.requires.rank c.in_ok-pool.ensures c.requires.there).1

pub returns-clause-there : goal.returns-clause-there
returns-clause-there g c = (front-more (terms g.R.Value.Ord.cmp g.R.Lapses g.R.Staged g.R.Forgets g.R.Resource c.args.ground.now) c.requires.may c.args.seen.now c.requires.seen c.args.rank (arc_value {X = Pool g.row.R.Denot g.row.R-Value.Denot Duty} {Z = Global} c.in_ok-pool.pool) c.put.new.self c.put.ensures c.requires.rank c.in_ok-pool.ensures c.requires.there).2
