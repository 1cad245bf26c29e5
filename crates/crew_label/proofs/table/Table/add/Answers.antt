use Rattle.std.proofs.Common.{◌≡◌, List, ◌∷◌, [], Global, Some, length, map, true, sym, ◌∙◌, ap, subst}
use Rattle.std.specs.Prelude.{slice_get}
use Rattle.std.specs.Arc.{arc_value}
use Rattle.std.proofs.lemmas.List.{map-append}
use Rattle.crew_label.specs.Boarding.{LeadInto}
use Rattle.crew_label.specs.Tables.{AreLinked, Leaving, Tabled, leads_in, trail_in}
use Rattle.crew_label.specs.Walks.{Leads}
use Rattle.crew_label.specs.declared.label.Label.{Label}
use Rattle.crew_label.specs.declared.pool.Pool.{Pool}
use Rattle.crew_label.proofs.Tabled.{last_into, leads_more, linked_more, trail_stays}
use Rattle.crew_label.proofs.table.Table.add.Goals as goal

pub invariant_of-self-2 : goal.invariant_of-self-2
invariant_of-self-2 g c =
    let value = arc_value {X = Pool g.row.R.Denot g.row.R-Value.Denot g.row.R-Item.Denot} {Z = Global} in
    let leaves : Leaving = record { ranks = c.self.inside.ranks.value.items; positions = c.self.inside.positions.value.items } in
    let pools = map value c.self.inside.pools.items in
    let now = ap (map value) c.in_ok-push.ensures.items ∙ map-append value c.self.inside.pools.items (c.args.pool ∷ []) in
    subst (AreLinked leaves []) (sym now)
    (linked_more leaves [] pools (value c.args.pool) c.self.invariant
    (λ l m. subst (λ (x : Tabled g.row.R-Value.Denot). Leads (leads_in x.leaves x.pools) l.before) (sym c.self.view_is) (c.requires l m)))

pub returns-clause-stays : goal.returns-clause-stays
returns-clause-stays g c link h =
    let value = arc_value {X = Pool g.row.R.Denot g.row.R-Value.Denot g.row.R-Item.Denot} {Z = Global} in
    let leaves : Leaving = record { ranks = c.self.inside.ranks.value.items; positions = c.self.inside.positions.value.items } in
    let pools = map value c.self.inside.pools.items in
    let p = value c.args.pool in
    let now = ap (map value) c.in_ok-push.ensures.items ∙ map-append value c.self.inside.pools.items (c.args.pool ∷ []) in
    let leading = subst (λ (x : Tabled g.row.R-Value.Denot). leads_in x.leaves x.pools link ≡ true) (sym c.self.view_is) h in (
      ap (λ (ps : List (List (Label g.row.R-Value.Denot))). leads_in leaves ps link) now ∙ leads_more leaves pools (p ∷ []) link leading,
      ap (λ (ps : List (List (Label g.row.R-Value.Denot))). trail_in leaves ps link) now ∙ (trail_stays leaves pools p link leading ∙ ap (λ (x : Tabled g.row.R-Value.Denot). trail_in x.leaves x.pools link) c.self.view_is),
    )

pub returns-clause-into : goal.returns-clause-into
returns-clause-into g c duty rank d e =
    let value = arc_value {X = Pool g.row.R.Denot g.row.R-Value.Denot g.row.R-Item.Denot} {Z = Global} in
    let leaves : Leaving = record { ranks = c.self.inside.ranks.value.items; positions = c.self.inside.positions.value.items } in
    let pools = map value c.self.inside.pools.items in
    let p = value c.args.pool in
    let now = ap (map value) c.in_ok-push.ensures.items ∙ map-append value c.self.inside.pools.items (c.args.pool ∷ []) in
    let linked = linked_more leaves [] pools p c.self.invariant
    (λ l m. subst (λ (x : Tabled g.row.R-Value.Denot). Leads (leads_in x.leaves x.pools) l.before) (sym c.self.view_is) (c.requires l m)) in
    subst (λ (ps : List (List (Label g.row.R-Value.Denot))). LeadInto (leads_in leaves ps) (trail_in leaves ps) duty rank p) (sym now)
    (last_into leaves pools p linked duty rank (subst (λ (x : Tabled g.row.R-Value.Denot). slice_get x.leaves.ranks duty ≡ Some rank) (sym c.self.view_is) d)
    (subst (λ (x : Tabled g.row.R-Value.Denot). slice_get x.leaves.positions rank ≡ Some (length x.pools)) (sym c.self.view_is) e))
