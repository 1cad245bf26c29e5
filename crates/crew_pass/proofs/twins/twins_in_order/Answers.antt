use Rattle.std.proofs.Common.{◌≡◌, ℕ, List, Some, ap, arith, get_or, length, subst}
use Rattle.std.specs.Prelude.{slice_get}
use Rattle.crew_net.specs.Positions.{in_order}
use Rattle.crew_net.proofs.Orders.{place-within}
use Rattle.crew_net.proofs.Slices.{at-within}
use Rattle.crew_pass.specs.Machinery.Twins.{IsTwin}
use Rattle.crew_pass.proofs.Twinned.{in-order-twin, one-so-far}
use Rattle.crew_pass.proofs.twins.twins_in_order.Goals as goal

pub bounds-places-place : goal.bounds-places-place
bounds-places-place c =
    let net = c.args.net.now in
    let i = c.loop-place.place-index in
    let places = c.by_report-place-items.result.now in
    let at : slice_get net.by_report i ≡ Some (get_or places i 0) =
    subst (λ (ps : List ℕ). slice_get ps i ≡ Some (get_or places i 0)) c.by_report-place-items.ensures.places (at-within places i 0 c.loop-place-test.true) in
    let within = place-within net c.chart.ensures.departs c.chart.ensures.ordered i (get_or places i 0) at in
    let long = c.requires.long in
    omega (arith, within, long)

pub loop-place-preserved : goal.loop-place-preserved
loop-place-preserved c =
    let net = c.args.net.now in
    let earlier = c.args.earlier.now in
    let i = c.loop-place.place-index in
    let places = c.by_report-place-items.result.now in
    let at : slice_get net.by_report i ≡ Some (get_or places i 0) =
    subst (λ (ps : List ℕ). slice_get ps i ≡ Some (get_or places i 0)) c.by_report-place-items.ensures.places (at-within places i 0 c.loop-place-test.true) in
    one-so-far (IsTwin (in_order net) (in_order earlier)) i c.loop-place.twins.items c.push.new.self.items c.position_at.result c.in_ok-push.ensures.items
    (in-order-twin net earlier c.chart.ensures c.position_at.ensures.few c.args.places.now c.requires.long c.requires.twins i (get_or places i 0) c.position_at.result at c.position_at.ensures.position)
    c.loop-place.invariant

pub returns-clause-long : goal.returns-clause-long
returns-clause-long c =
    let long = c.loop-place.invariant.long in
    let places = ap length c.by_report-place-items.ensures.places in
    omega (arith, c.loop-place-test.false, long, places)

pub returns-clause-twins : goal.returns-clause-twins
returns-clause-twins c = c.loop-place.invariant.each
