use Rattle.std.proofs.Common.{◌∙◌, true, false, ap, sym}
use Rattle.std.specs.Option.{is_some}
use Rattle.std.proofs.lemmas.List.Quantifiers.{position-Some}
use Rattle.crew_label.specs.Pools.{stands_label}
use Rattle.crew_label.specs.declared.label.Label.{Label}
use Rattle.crew_pool.proofs.LabelLemmas.{found_any}
use Rattle.crew_room.proofs.Joined.{free_none, free_one}
use Rattle.crew_room.proofs.join.meet_own.Goals as goal

pub returns-in_default-clause-free : goal.returns-in_default-clause-free
returns-in_default-clause-free g c =
    let stands = λ (a b : Label g.row.R-Value.Denot). stands_label g.R.Resource.below g.R.Forgets.same_sums (g.T.Trails.trail c.args.trails.now) a b in
    let held = c.args.held.now in
    let label = c.args.label in
    c.in_ok-push.ensures.ok
    ∙ free_one stands held c.args.free.now label (found_any (λ l. stands l label) held c.first_standing.result false c.first_standing.ensures (ap is_some c.in_default.is))

pub advance-requires : goal.advance-requires
advance-requires g c =
    let stands = λ (a b : Label g.row.R-Value.Denot). stands_label g.R.Resource.below g.R.Forgets.same_sums (g.T.Trails.trail c.args.trails.now) a b in
    let held = c.args.held.now in
    let label = c.args.label in
    (position-Some (λ l. stands l label) held c.in-Some.place label (sym c.first_standing.ensures ∙ c.in-Some.is)).0

pub returns-clause-free : goal.returns-clause-free
returns-clause-free g c =
    let stands = λ (a b : Label g.row.R-Value.Denot). stands_label g.R.Resource.below g.R.Forgets.same_sums (g.T.Trails.trail c.args.trails.now) a b in
    let held = c.args.held.now in
    let label = c.args.label in
    free_none stands held c.args.free.now label (found_any (λ l. stands l label) held c.first_standing.result true c.first_standing.ensures (ap is_some c.in-Some.is))
