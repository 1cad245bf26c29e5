use Rattle.std.proofs.Common.{◌≡◌, ◌∙◌, Some, true, ap, sym}
use Rattle.std.specs.Prelude.{slice_get}
use Rattle.crew_label.specs.Machinery.Indexes.{passes}
use Rattle.crew_label.specs.Machinery.Rules.{same_by}
use Rattle.crew_label.specs.Pools.{stands_label}
use Rattle.crew_label.specs.declared.seen.Seen.{Seen}
use Rattle.crew_label.proofs.Listed.{any_here}
use Rattle.crew_resource.proofs.Members.{Member-at}
use Rattle.crew_label.proofs.index.stands_by_hint.Goals as goal

pub returns-then-are_at_most : goal.returns-then-are_at_most
returns-then-are_at_most g c h =
    let asked = c.args.asked.now in
    let others = asked.others.now in
    let place = c.load-place.result in
    let held = c.in-Some.held.now in
    let test = λ (s : Seen g.row.R-Value.Denot). stands_label g.R.Resource.below (same_by g.R.Resource.below g.R.Forgets.same_sums asked.rule) (g.T.Trails.trail asked.trails.now) s.label.now asked.label.now in
    let at : slice_get others place ≡ Some held = c.in-Some.ensures in
    let passed : test held ≡ true = ap (passes test) (sym at) ∙ (sym c.may_stand_at.ensures ∙ h) in
    any_here test others held (Member-at others place held at) passed
