use Rattle.std.proofs.Common.{◌<◌, ◌≤◌, List, ℕ, arith, get_or, length, subst, sym}
use Rattle.crew_net.proofs.Slices.{stands}
use Rattle.crew_sweep.proofs.MadeAhead.{stands-at}
use Rattle.crew_sweep.proofs.windows.made_until.Goals as goal

pub window-requires : goal.window-requires
window-requires c =
    let net = c.args.ground.now.net.now in
    let position = c.loop-position.position in
    let end = c.requires.end in
    let within : position < length net.by_report = omega (arith, c.loop-position-test.true, end) in
    subst (λ (ps : List ℕ). get_or ps position 0 < length net.departures) (sym c.by_report.ensures.places) (stands-at net c.args.ground.now.positions.now c.requires.ground.passable position within)

pub have_made-requires : goal.have_made-requires
have_made-requires c =
    let net = c.args.ground.now.net.now in
    let position = c.loop-position.position in
    let end = c.requires.end in
    let within : position < length net.by_report = omega (arith, c.loop-position-test.true, end) in
    let there = subst (λ (ps : List ℕ). get_or ps position 0 < length net.departures) (sym c.by_report.ensures.places) (stands-at net c.args.ground.now.positions.now c.requires.ground.passable position within) in
    let d = stands net.departures (get_or c.by_report.result.now position 0) there in
    subst (λ n. c.window.result.end ≤ n) (sym c.requires.made) (c.window.ensures d.0 d.1).within
