use Rattle.std.proofs.Common.{◌≡◌, ◌∙◌, sym, rules}
use Rattle.crew_resource.proofs.uses.extend_ordered.Goals as goal

pub returns-clause-lesser : goal.returns-clause-lesser
returns-clause-lesser g c = search rules

pub returns-clause-greater : goal.returns-clause-greater
returns-clause-greater g c = search rules

pub returns-clause-ordered : goal.returns-clause-ordered
returns-clause-ordered g c z e =
    let r = c.args.resource.now in
    let lesser : c.in_ok-first.first ≡ g.R.Resource.extends r c.args.lesser.now c.args.last.now c.args.next.now = search rules in
    let greater : c.in_ok-second.second ≡ g.R.Resource.extends r c.args.greater.now c.args.last.now c.args.next.now = search rules in
    let step = (g.met.R.Resource.steps r).monotone _ _ z _ _ c.requires.ordered (sym greater ∙ e) in
    (step.0, lesser ∙ step.1, step.2)
