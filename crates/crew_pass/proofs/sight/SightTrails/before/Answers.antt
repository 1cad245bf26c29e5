use Rattle.std.proofs.Common.{◌≡◌, ◌∙◌, List, [], ◌∷◌, ◌++◌, Global, Some, get_or, true, sym, ap, subst}
use Rattle.std.specs.Prelude.{slice_get}
use Rattle.std.specs.Arc.{arc_value}
use Rattle.crew_label.specs.Tables.{departure_of, leads_in, rank_of, trail_in}
use Rattle.crew_label.specs.Walks.{Leads, walk_of}
use Rattle.crew_label.specs.declared.label.Label.{Label}
use Rattle.crew_label.specs.declared.pool.Pool.{Pool}
use Rattle.crew_label.proofs.Tabled.{leads_to, trail_goes_on}
use Rattle.crew_labelling.specs.Labellings.{labelling_of}
use Rattle.crew_net.proofs.Numbers.{get-within}
use Rattle.crew_net.proofs.Slices.{get-at, listed-at, map-get, member-got}
use Rattle.crew_pairing.specs.declared.duty.Duty.{Duty}
use Rattle.crew_pass.specs.Machinery.Shelves.{Sighted, or_none, pools_seen}
use Rattle.crew_pass.specs.Machinery.Terms.{leaving_of, terms}
use Rattle.crew_pass.proofs.sight.SightTrails.before.Goals as goal

pub returns-clause-walk : goal.returns-clause-walk
returns-clause-walk g c =
    let link = c.args.link in
    let w = terms g.R.Value.Ord.cmp g.R.Lapses g.R.Staged g.R.Forgets g.R.Resource c.self.inside.ground.now in
    let leaves = leaving_of c.self.inside.ground.now in
    let shelf = c.self.inside.departures.now in
    let seen = pools_seen shelf in
    let pools = (labelling_of w).departures in
    let at = departure_of leaves link.duty in
    let to = leads_to leaves seen link (subst (λ (x : Sighted g.row.R-Value.Denot). leads_in x.table.leaves x.seen link ≡ true) (sym c.self.view_is) c.requires) in
    let labels = arc_value {X = Pool g.row.R.Denot g.row.R-Value.Denot Duty} {Z = Global} c.in-Some.pool.now in
    let row : get_or seen at [] ≡ c.deref.result.now = get-at seen at labels [] (map-get or_none shelf at (Some labels) c.in-Some.ensures) ∙ sym c.deref.ensures in
    let is = c.before_of.ensures to.0 (ap (λ (p : List (Label g.row.R-Value.Denot)). slice_get p link.place) (sym row) ∙ to.2) in
    let there = c.self.invariant.same at link.place to.0 to.2 in
    let listed = listed-at pools at to.0 (member-got (get_or pools at []) link.place to.0 there) in
    subst (λ (x : Sighted g.row.R-Value.Denot). trail_in x.table.leaves x.table.pools link ≡ walk_of (λ k. trail_in x.table.leaves x.table.pools k) c.before_of.result ++ rank_of x.table.leaves link.duty ∷ []) c.self.view_is
    (trail_goes_on leaves pools c.self.invariant.linked link to.0 (get-within pools at listed.0 listed.1) there ∙ ap (λ o. walk_of (trail_in leaves pools) o ++ rank_of leaves link.duty ∷ []) (sym is))

pub returns-clause-leads : goal.returns-clause-leads
returns-clause-leads g c =
    let link = c.args.link in
    let leaves = leaving_of c.self.inside.ground.now in
    let shelf = c.self.inside.departures.now in
    let seen = pools_seen shelf in
    let at = departure_of leaves link.duty in
    let to = leads_to leaves seen link (subst (λ (x : Sighted g.row.R-Value.Denot). leads_in x.table.leaves x.seen link ≡ true) (sym c.self.view_is) c.requires) in
    let labels = arc_value {X = Pool g.row.R.Denot g.row.R-Value.Denot Duty} {Z = Global} c.in-Some.pool.now in
    let row : get_or seen at [] ≡ c.deref.result.now = get-at seen at labels [] (map-get or_none shelf at (Some labels) c.in-Some.ensures) ∙ sym c.deref.ensures in
    let is = c.before_of.ensures to.0 (ap (λ (p : List (Label g.row.R-Value.Denot)). slice_get p link.place) (sym row) ∙ to.2) in
    subst (λ (x : Sighted g.row.R-Value.Denot). Leads (λ k. leads_in x.table.leaves x.seen k) c.before_of.result) c.self.view_is
    (subst (Leads (leads_in leaves seen)) (sym is) (c.self.invariant.known at to.0 (member-got (get_or seen at []) link.place to.0 to.2)))
