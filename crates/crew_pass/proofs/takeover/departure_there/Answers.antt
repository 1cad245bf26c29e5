use Rattle.std.proofs.Common.{◌≡◌, ◌∙◌, ℕ, List, Some, Global, ap, subst}
use Rattle.std.specs.Arc.{arc_value}
use Rattle.std.specs.Prelude.{slice_get}
use Rattle.crew_label.specs.declared.label.Label.{Label}
use Rattle.crew_label.specs.declared.pool.Pool.{Pool}
use Rattle.crew_pairing.specs.declared.duty.Duty.{Duty}
use Rattle.crew_label.specs.Tables.{Tabled}
use Rattle.crew_labelling.specs.Passes.{BasePass}
use Rattle.crew_pass.proofs.Staying.{departure-shown, departure-there, if-found}
use Rattle.crew_pass.proofs.takeover.departure_there.Goals as goal

pub returns-clause-pool : goal.returns-clause-pool
returns-clause-pool g c =
    let other = c.in_ok-other.other in
    let right = c.fronts.ensures.right in
    let at = subst (λ (ts : List ℕ). slice_get ts c.args.position ≡ Some other) c.deref.ensures.value c.in_ok-other.ensures.at in
    let pools = ap (λ (t : Tabled g.row.R-Value.Denot). t.pools) c.table.ensures ∙ ap (λ (p : BasePass g.row.R-Value.Denot). p.pools) c.fronts.ensures.shows in
    let taken = departure-there g.R.Value.Ord.cmp g.R.Lapses g.R.Staged g.R.Forgets g.R.Resource c.args.ground.now c.args.beside.now c.requires.beside c.requires.may right c.args.position other c.window_at-here.result c.window_there-there.result at c.in_ok-other.ensures.some c.window_at-here.ensures c.window_there-there.ensures.window
    (c.wait_alike.ensures c.if-not-wait_alike.false) in
    if-found _ c.get.result c.get.ensures
    (λ pool is. departure-shown g.R.Value.Ord.cmp g.R.Lapses g.R.Staged g.R.Forgets g.R.Resource c.args.ground.now c.args.beside.now c.requires.beside c.requires.may right other (arc_value {X = Pool g.row.R.Denot g.row.R-Value.Denot Duty} {Z = Global} pool.now) (subst (λ (ps : List (List (Label g.row.R-Value.Denot))). slice_get ps other ≡ Some (arc_value {X = Pool g.row.R.Denot g.row.R-Value.Denot Duty} {Z = Global} pool.now)) pools is) ∙ taken.0)

pub returns-clause-alike : goal.returns-clause-alike
returns-clause-alike g c =
    let other = c.in_ok-other.other in
    let right = c.fronts.ensures.right in
    let at = subst (λ (ts : List ℕ). slice_get ts c.args.position ≡ Some other) c.deref.ensures.value c.in_ok-other.ensures.at in
    let pools = ap (λ (t : Tabled g.row.R-Value.Denot). t.pools) c.table.ensures ∙ ap (λ (p : BasePass g.row.R-Value.Denot). p.pools) c.fronts.ensures.shows in
    let taken = departure-there g.R.Value.Ord.cmp g.R.Lapses g.R.Staged g.R.Forgets g.R.Resource c.args.ground.now c.args.beside.now c.requires.beside c.requires.may right c.args.position other c.window_at-here.result c.window_there-there.result at c.in_ok-other.ensures.some c.window_at-here.ensures c.window_there-there.ensures.window
    (c.wait_alike.ensures c.if-not-wait_alike.false) in
    if-found _ c.get.result c.get.ensures
    (λ pool is. taken.1)
