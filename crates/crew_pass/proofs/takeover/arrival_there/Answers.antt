use Rattle.std.proofs.Common.{◌≡◌, ◌∙◌, ℕ, true, List, Option, Some, Global, length, get_or, sym, ap, subst, arith}
use Rattle.std.specs.Arc.{arc_value}
use Rattle.std.specs.Prelude.{slice_get}
use Rattle.crew_label.specs.declared.label.Label.{Label}
use Rattle.crew_label.specs.declared.pool.Pool.{Pool}
use Rattle.crew_pairing.specs.declared.duty.Duty.{Duty}
use Rattle.crew_net.proofs.Slices.{at-within}
use Rattle.crew_pass.proofs.Staying.{arrival-held, arrival-there, arrival-twin, if-found}
use Rattle.crew_pass.proofs.takeover.arrival_there.Goals as goal

pub get-requires : goal.get-requires
get-requires g c =
    let right = c.arrivals.ensures.right in
    let other = c.in_ok-other.other in
    let at = subst (λ (ts : List ℕ). slice_get ts c.args.place ≡ Some other) c.deref.ensures.value c.in_ok-other.ensures.at in
    let x = arrival-twin g.R.Value.Ord.cmp g.R.Lapses g.R.Staged g.R.Forgets g.R.Resource c.args.ground.now c.args.beside.now c.requires.beside c.requires.may right c.args.place other at c.in_ok-other.ensures.some in
    let held = arrival-held g.R.Value.Ord.cmp g.R.Lapses g.R.Staged g.R.Forgets g.R.Resource c.args.ground.now c.args.beside.now c.requires.beside c.requires.may right other x.0 x.2 in
    let same = ap length c.arrivals.ensures.shelf in
    omega (arith, held, same)

pub returns-clause-pool : goal.returns-clause-pool
returns-clause-pool g c =
    let other = c.in_ok-other.other in
    let shelf = c.arrivals.ensures.shelf in
    let at = subst (λ (ts : List ℕ). slice_get ts c.args.place ≡ Some other) c.deref.ensures.value c.in_ok-other.ensures.at in
    let long = c.requires.beside.twins.fed_long in
    let place = c.requires.place in
    let fed : slice_get c.args.beside.now.twins.fed.items c.args.place ≡ Some true = at-within c.args.beside.now.twins.fed.items c.args.place c.index.result.now (omega (arith, long, place)) ∙ ap Some (sym c.index.ensures ∙ c.if-not-index.false) in
    if-found _ c.get.result c.get.ensures
    (λ pool is. (arrival-there g.R.Value.Ord.cmp g.R.Lapses g.R.Staged g.R.Forgets g.R.Resource c.args.ground.now c.args.beside.now c.requires.beside c.requires.may c.arrivals.ensures.right c.args.place other (arc_value {X = Pool g.row.R.Denot g.row.R-Value.Denot Duty} {Z = Global} pool.now)
    at c.in_ok-other.ensures.some fed (c.board_alike.ensures c.if-not-board_alike.false) (subst (λ (s : List (Option (List (Label g.row.R-Value.Denot)))). slice_get s other ≡ Some (Some (arc_value {X = Pool g.row.R.Denot g.row.R-Value.Denot Duty} {Z = Global} pool.now))) shelf is)).0)

pub returns-clause-same : goal.returns-clause-same
returns-clause-same g c =
    let other = c.in_ok-other.other in
    let shelf = c.arrivals.ensures.shelf in
    let at = subst (λ (ts : List ℕ). slice_get ts c.args.place ≡ Some other) c.deref.ensures.value c.in_ok-other.ensures.at in
    let long = c.requires.beside.twins.fed_long in
    let place = c.requires.place in
    let fed : slice_get c.args.beside.now.twins.fed.items c.args.place ≡ Some true = at-within c.args.beside.now.twins.fed.items c.args.place c.index.result.now (omega (arith, long, place)) ∙ ap Some (sym c.index.ensures ∙ c.if-not-index.false) in
    if-found _ c.get.result c.get.ensures
    (λ pool is. (arrival-there g.R.Value.Ord.cmp g.R.Lapses g.R.Staged g.R.Forgets g.R.Resource c.args.ground.now c.args.beside.now c.requires.beside c.requires.may c.arrivals.ensures.right c.args.place other (arc_value {X = Pool g.row.R.Denot g.row.R-Value.Denot Duty} {Z = Global} pool.now)
    at c.in_ok-other.ensures.some fed (c.board_alike.ensures c.if-not-board_alike.false) (subst (λ (s : List (Option (List (Label g.row.R-Value.Denot)))). slice_get s other ≡ Some (Some (arc_value {X = Pool g.row.R.Denot g.row.R-Value.Denot Duty} {Z = Global} pool.now))) shelf is)).1)
