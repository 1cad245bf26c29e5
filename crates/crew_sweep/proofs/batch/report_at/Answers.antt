use Rattle.std.proofs.Common.{◌<◌, List, ℕ, get_or, length, subst, sym}
use Rattle.crew_pairing.specs.declared.events.Departure.{Departure}
use Rattle.crew_sweep.proofs.MadeAhead.{stands-at}
use Rattle.crew_sweep.proofs.batch.report_at.Goals as goal

pub bounds-by_report-position : goal.bounds-by_report-position
bounds-by_report-position c = subst (λ (ps : List ℕ). c.args.position < length ps) (sym c.by_report.ensures.places) c.requires.position

pub bounds-departures-by_report : goal.bounds-departures-by_report
bounds-departures-by_report c =
    let there = stands-at c.args.ground.now.net.now c.args.ground.now.positions.now c.requires.ground.passable c.args.position c.requires.position in
    let listed = subst (λ (ps : List ℕ). get_or ps c.args.position 0 < length c.args.ground.now.net.now.departures) (sym c.by_report.ensures.places) there in
    subst (λ (gs : List Departure). get_or c.by_report.result.now c.args.position 0 < length gs) (sym c.departures.ensures.events) listed

pub bounds-departures-by_report-2 : goal.bounds-departures-by_report-2
bounds-departures-by_report-2 c =
    let there = stands-at c.args.ground.now.net.now c.args.ground.now.positions.now c.requires.ground.passable c.args.position c.requires.position in
    let listed = subst (λ (ps : List ℕ). get_or ps c.args.position 0 < length c.args.ground.now.net.now.departures) (sym c.by_report.ensures.places) there in
    subst (λ (gs : List Departure). get_or c.by_report.result.now c.args.position 0 < length gs) (sym c.departures.ensures.events) listed
