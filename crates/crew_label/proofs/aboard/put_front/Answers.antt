use Rattle.std.proofs.lemmas.Result.{on_ok_weaker}
use Rattle.crew_label.proofs.Runs.{front-one}
use Rattle.crew_label.proofs.aboard.put_front.Goals as goal

pub returns-in-len1 : goal.returns-in-len1
returns-in-len1 g c =
    let f = g.met.R.Forgets.forgets c.args.resource.now in
    on_ok_weaker c.push_copy.result (λ is. front-one g.R.Value.Ord.cmp g.R.Resource.below g.R.Forgets.same_sums g.met.R.Resource.order f.same_itself f.same_between (g.T.Trails.trail c.args.trails.now)
    c.args.labels.now c.args.list.now.items c.push_copy.new.labels.items c.label-item.result c.in-len1.len_at_least c.in-len1.len_below c.label-item.is is) c.push_copy.ensures
