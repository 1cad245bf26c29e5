use Rattle.std.proofs.Common.{◌≡◌, ℕ, List, Option, Some, Global, length, ap, subst, arith}
use Rattle.std.specs.Arc.{arc_value}
use Rattle.std.specs.Prelude.{slice_get}
use Rattle.crew_label.specs.declared.label.Label.{Label}
use Rattle.crew_label.specs.declared.pool.Pool.{Pool}
use Rattle.crew_pairing.specs.declared.duty.Duty.{Duty}
use Rattle.crew_pass.proofs.Staying.{arrival-twin, if-found, rest-held, rest-there}
use Rattle.crew_pass.proofs.takeover.rest_there.Goals as goal

pub get-requires : goal.get-requires
get-requires g c =
    let right = c.rested.ensures.right in
    let other = c.in_ok-other.other in
    let at = subst (λ (ts : List ℕ). slice_get ts c.args.place ≡ Some other) c.deref.ensures.value c.in_ok-other.ensures.at in
    let x = arrival-twin g.R.Value.Ord.cmp g.R.Lapses g.R.Staged g.R.Forgets g.R.Resource c.args.ground.now c.args.beside.now c.requires.beside c.requires.may right c.args.place other at c.in_ok-other.ensures.some in
    let held = rest-held g.R.Value.Ord.cmp g.R.Lapses g.R.Staged g.R.Forgets g.R.Resource c.args.ground.now c.args.beside.now c.requires.beside c.requires.may right other x.0 x.2 in
    let same = ap length c.rested.ensures.shelf in
    omega (arith, held, same)

pub returns : goal.returns
returns g c =
    let other = c.in_ok-other.other in
    let shelf = c.rested.ensures.shelf in
    let at = subst (λ (ts : List ℕ). slice_get ts c.args.place ≡ Some other) c.deref.ensures.value c.in_ok-other.ensures.at in
    if-found _ c.get.result c.get.ensures
    (λ pool is. rest-there g.R.Value.Ord.cmp g.R.Lapses g.R.Staged g.R.Forgets g.R.Resource c.args.ground.now c.args.beside.now c.requires.beside c.requires.may c.rested.ensures.right c.args.place other (arc_value {X = Pool g.row.R.Denot g.row.R-Value.Denot Duty} {Z = Global} pool.now)
    at c.in_ok-other.ensures.some (c.is_same.ensures c.if-not-is_same.false) (subst (λ (s : List (Option (List (Label g.row.R-Value.Denot)))). slice_get s other ≡ Some (Some (arc_value {X = Pool g.row.R.Denot g.row.R-Value.Denot Duty} {Z = Global} pool.now))) shelf is))
