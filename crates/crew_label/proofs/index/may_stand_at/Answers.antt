use Rattle.std.proofs.Common.{ap, sym, ◌∙◌}
use Rattle.crew_resource.proofs.Members.{Member-at}
use Rattle.crew_label.specs.Machinery.Indexes.{passes}
use Rattle.crew_label.specs.Machinery.Rules.{same_by}
use Rattle.crew_label.specs.Pools.{stands_label}
use Rattle.crew_label.specs.declared.seen.Seen.{Seen}
use Rattle.crew_label.proofs.SeenLabels.{member_label}
use Rattle.crew_label.proofs.index.may_stand_at.Goals as goal

pub may_stand-requires-clause-first : goal.may_stand-requires-clause-first
may_stand-requires-clause-first g c =
    c.requires.counted c.in-Some.held.now.label.now (member_label c.args.asked.now.others.now c.in-Some.held.now (Member-at c.args.asked.now.others.now c.args.place c.in-Some.held.now c.in-Some.ensures))

pub returns-in-None : goal.returns-in-None
returns-in-None g c =
    let test = λ (s : Seen g.row.R-Value.Denot). stands_label g.R.Resource.below (same_by g.R.Resource.below g.R.Forgets.same_sums c.args.asked.now.rule) (g.T.Trails.trail c.args.asked.now.trails.now) s.label.now c.args.asked.now.label.now in
    sym (ap (passes test) c.in-None.ensures)

pub returns-in-Some : goal.returns-in-Some
returns-in-Some g c =
    let test = λ (s : Seen g.row.R-Value.Denot). stands_label g.R.Resource.below (same_by g.R.Resource.below g.R.Forgets.same_sums c.args.asked.now.rule) (g.T.Trails.trail c.args.asked.now.trails.now) s.label.now c.args.asked.now.label.now in
    c.may_stand.ensures ∙ sym (ap (passes test) c.in-Some.ensures)
