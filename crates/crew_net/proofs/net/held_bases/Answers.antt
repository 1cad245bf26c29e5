use Rattle.std.proofs.Common.{arith}
use Rattle.std.specs.FinMap as fin
use Rattle.std.proofs.lemmas.List.{length-map}
use Rattle.crew_net.proofs.BaseOrder.{keys-rise}
use Rattle.crew_net.proofs.net.held_bases.Goals as goal

pub returns-clause-few : goal.returns-clause-few
returns-clause-few c =
    let t = c.args.timetable.now in
    let few = c.bases.ensures.sound.few_bases in
    let long = fin.len-entries t.bases in
    let keys = length-map (fin.entries t.bases) (λ e. e.0) in
    omega (arith, few, long, keys)

pub returns-clause-rising : goal.returns-clause-rising
returns-clause-rising c = keys-rise c.args.timetable.now
