use Rattle.std.proofs.Common.{◌-◌, length, take, drop, refl}
use Rattle.crew_label.proofs.Runs.{front-next, less-left, member-rest, rest_of, run-some-from}
use Rattle.crew_label.proofs.aboard.front_of_runs.Goals as goal

pub put_front-requires-clause-counts : goal.put_front-requires-clause-counts
put_front-requires-clause-counts g c l m = c.requires.counts l (member-rest c.loop-from.from c.run_len-len.result c.args.labels.now l m)

pub loop-from-smaller : goal.loop-from-smaller
loop-from-smaller g c =
    let f = g.met.R.Forgets.forgets c.args.resource.now in
    less-left (length c.args.labels.now) c.loop-from.from c.run_len-len.result c.loop-from-test.true
    (run-some-from g.R.Forgets.same_sums f.same_itself c.args.labels.now c.loop-from.from c.run_len-len.result c.loop-from-test.true c.run_len-len.ensures)

pub loop-from-preserved : goal.loop-from-preserved
loop-from-preserved g c =
    let r = c.args.resource.now in
    let labels = c.args.labels.now in
    let from = c.loop-from.from in
    let len = c.run_len-len.result in
    let rest = take (length labels - from) (drop from labels) in
    front-next g.R.Value.Ord.cmp g.R.Resource.below g.R.Forgets.same_sums (g.T.Trails.trail c.args.trails.now) (g.met.R.Forgets.forgets r).same_itself (g.met.R.Lapses.together r).same_other
    labels rest (take len rest) c.loop-from.front.items c.put_front.new.list.items from len (rest_of from labels) refl c.run_len-len.ensures c.requires.runs c.in_ok-put_front.ensures c.loop-from.invariant
