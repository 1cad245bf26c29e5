use Rattle.std.proofs.Common.{◌≡◌, List, ◌∷◌, [], ◌++◌, Global, get_or, map, true, sym, ◌∙◌, ap, subst}
use Rattle.std.specs.Prelude.{slice_get}
use Rattle.std.specs.Arc.{arc_value}
use Rattle.crew_resource.proofs.Members.{Member-at}
use Rattle.crew_label.specs.Tables.{Leaving, Tabled, departure_of, leads_in, rank_of, trail_in}
use Rattle.crew_label.specs.Walks.{Leads, walk_of}
use Rattle.crew_label.specs.declared.label.Label.{Label}
use Rattle.crew_label.specs.declared.pool.Pool.{Pool}
use Rattle.crew_label.proofs.Tabled.{departure_read, label_leads, leads_to, mapped_at, trail_goes_on}
use Rattle.crew_label.proofs.table.TableTrails.before.Goals as goal

pub returns-clause-walk : goal.returns-clause-walk
returns-clause-walk g c =
    let link = c.args.link in
    let leaves : Leaving = record { ranks = c.self.inside.ranks.value.items; positions = c.self.inside.positions.value.items } in
    let pools = map (arc_value {X = Pool g.row.R.Denot g.row.R-Value.Denot g.row.R-Item.Denot} {Z = Global}) c.self.inside.pools.items in
    let to = leads_to leaves pools link (subst (λ (x : Tabled g.row.R-Value.Denot). leads_in x.leaves x.pools link ≡ true) (sym c.self.view_is) c.requires) in
    let ranked = c.rank-rank.ensures ∙ ap (λ (x : Tabled g.row.R-Value.Denot). rank_of x.leaves link.duty) (sym c.self.view_is) in
    let there = departure_read leaves pools link c.deref.result.now.items c.rank-rank.result c.index-departure.result.now (subst (λ (x : Tabled g.row.R-Value.Denot). leads_in x.leaves x.pools link ≡ true) (sym c.self.view_is) c.requires)
    ranked (ap (λ v. v.items) c.deref.ensures) c.index-departure.ensures in
    let row : get_or pools (departure_of leaves link.duty) [] ≡ c.deref-2.result.now =
    mapped_at (arc_value {X = Pool g.row.R.Denot g.row.R-Value.Denot g.row.R-Item.Denot} {Z = Global}) c.self.inside.pools.items (departure_of leaves link.duty) c.index.result.now [] to.1 (rw (← there) c.index.ensures) ∙ sym c.deref-2.ensures in
    let is = c.before_of.ensures to.0 (ap (λ (p : List (Label g.row.R-Value.Denot)). slice_get p link.place) (sym row) ∙ to.2) in
    subst (λ (x : Tabled g.row.R-Value.Denot). trail_in x.leaves x.pools link ≡ walk_of (λ k. trail_in x.leaves x.pools k) c.before_of.result ++ rank_of x.leaves link.duty ∷ []) c.self.view_is
    (trail_goes_on leaves pools c.self.invariant link to.0 to.1 to.2 ∙ ap (λ o. walk_of (trail_in leaves pools) o ++ rank_of leaves link.duty ∷ []) (sym is))

pub returns-clause-leads : goal.returns-clause-leads
returns-clause-leads g c =
    let link = c.args.link in
    let leaves : Leaving = record { ranks = c.self.inside.ranks.value.items; positions = c.self.inside.positions.value.items } in
    let pools = map (arc_value {X = Pool g.row.R.Denot g.row.R-Value.Denot g.row.R-Item.Denot} {Z = Global}) c.self.inside.pools.items in
    let to = leads_to leaves pools link (subst (λ (x : Tabled g.row.R-Value.Denot). leads_in x.leaves x.pools link ≡ true) (sym c.self.view_is) c.requires) in
    let ranked = c.rank-rank.ensures ∙ ap (λ (x : Tabled g.row.R-Value.Denot). rank_of x.leaves link.duty) (sym c.self.view_is) in
    let there = departure_read leaves pools link c.deref.result.now.items c.rank-rank.result c.index-departure.result.now (subst (λ (x : Tabled g.row.R-Value.Denot). leads_in x.leaves x.pools link ≡ true) (sym c.self.view_is) c.requires)
    ranked (ap (λ v. v.items) c.deref.ensures) c.index-departure.ensures in
    let row : get_or pools (departure_of leaves link.duty) [] ≡ c.deref-2.result.now =
    mapped_at (arc_value {X = Pool g.row.R.Denot g.row.R-Value.Denot g.row.R-Item.Denot} {Z = Global}) c.self.inside.pools.items (departure_of leaves link.duty) c.index.result.now [] to.1 (rw (← there) c.index.ensures) ∙ sym c.deref-2.ensures in
    let is = c.before_of.ensures to.0 (ap (λ (p : List (Label g.row.R-Value.Denot)). slice_get p link.place) (sym row) ∙ to.2) in
    subst (λ (x : Tabled g.row.R-Value.Denot). Leads (λ k. leads_in x.leaves x.pools k) c.before_of.result) c.self.view_is
    (subst (Leads (leads_in leaves pools)) (sym is)
    (label_leads leaves pools c.self.invariant (departure_of leaves link.duty) to.1 to.0 (Member-at (get_or pools (departure_of leaves link.duty) []) link.place to.0 to.2)))
