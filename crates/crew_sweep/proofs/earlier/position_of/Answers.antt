use Rattle.std.proofs.Common.{◌≡◌, ◌∙◌, ℕ, List, Some, ap, arith, subst, sym}
use Rattle.std.specs.Prelude.{slice_get}
use Rattle.crew_net.specs.Events.{leaves_at}
use Rattle.crew_net.proofs.ArrivalPlaces.{ranks-out}
use Rattle.crew_net.proofs.Numbers.{get-within, same-departure}
use Rattle.crew_net.proofs.Slices.{member-got, stands}
use Rattle.crew_pairing.specs.Events.{departure_of}
use Rattle.crew_resource.specs.Members.{Member}
use Rattle.crew_sweep.proofs.earlier.position_of.Goals as goal

pub bounds-positions-rank : goal.bounds-positions-rank
bounds-positions-rank c =
    let net = c.args.net.now in
    let g = stands net.departures c.args.departure c.requires.departure in
    let there : slice_get c.leaving.result.now 0 ≡ Some c.in_ok-rank.rank.now = sym c.in_ok-rank.ensures.value in
    let m = member-got c.leaving.result.now 0 c.in_ok-rank.rank.now there in
    let d = ranks-out (leaves_at g.0) net.duties c.in_ok-rank.rank.now (subst (λ (rs : List ℕ). Member rs c.in_ok-rank.rank.now) (c.leaving.ensures g.0 g.1) m) in
    let within = get-within net.duties c.in_ok-rank.rank.now d.0 d.1 in
    let long = c.requires.positions.long in
    omega (arith, within, long)

pub returns : goal.returns
returns c =
    let net = c.args.net.now in
    let g = stands net.departures c.args.departure c.requires.departure in
    let there : slice_get c.leaving.result.now 0 ≡ Some c.in_ok-rank.rank.now = sym c.in_ok-rank.ensures.value in
    let m = member-got c.leaving.result.now 0 c.in_ok-rank.rank.now there in
    let d = ranks-out (leaves_at g.0) net.duties c.in_ok-rank.rank.now (subst (λ (rs : List ℕ). Member rs c.in_ok-rank.rank.now) (c.leaving.ensures g.0 g.1) m) in
    c.requires.positions.exact c.in_ok-rank.rank.now d.0 d.1 ∙ (ap Some (sym (same-departure g.0 (departure_of d.0) d.2)) ∙ sym g.1)
