use Rattle.std.proofs.Common.{◌≡◌, ◌∙◌, ◌++◌, ◌<◌, List, ℕ, ap, arith, drop, get_or, length, subst, sym, take}
use Rattle.std.proofs.Math.Seq.{take-append_seam}
use Rattle.crew_net.proofs.Slices.{stands}
use Rattle.crew_sweep.proofs.MadeAhead.{stands-at}
use Rattle.crew_sweep.proofs.ahead.marks_of.Goals as goal

pub wanted-wish-requires : goal.wanted-wish-requires
wanted-wish-requires g c =
    let net = c.args.ground.now.net.now in
    let position = c.loop-position.position in
    let end = c.requires.end in
    let within : position < length net.by_report = omega (arith, c.loop-position-test.true, end) in
    let there = stands-at net c.args.ground.now.positions.now c.requires.ground.passable position within in
    c.requires.wanted _ (subst (λ (ps : List ℕ). get_or ps position 0 < length net.departures) (sym c.by_report.ensures.places) there)

pub window-window-requires : goal.window-window-requires
window-window-requires g c =
    let net = c.args.ground.now.net.now in
    let position = c.loop-position.position in
    let end = c.requires.end in
    let within : position < length net.by_report = omega (arith, c.loop-position-test.true, end) in
    let there = stands-at net c.args.ground.now.positions.now c.requires.ground.passable position within in
    subst (λ (ps : List ℕ). get_or ps position 0 < length net.departures) (sym c.by_report.ensures.places) there

pub mark_wanted-requires-clause-within : goal.mark_wanted-requires-clause-within
mark_wanted-requires-clause-within g c =
    let net = c.args.ground.now.net.now in
    let position = c.loop-position.position in
    let end = c.requires.end in
    let within : position < length net.by_report = omega (arith, c.loop-position-test.true, end) in
    let there = stands-at net c.args.ground.now.positions.now c.requires.ground.passable position within in
    let place = stands net.departures (get_or c.by_report.result.now position 0) (subst (λ (ps : List ℕ). get_or ps position 0 < length net.departures) (sym c.by_report.ensures.places) there) in
    let window = (c.window-window.ensures place.0 place.1).within in
    let long = c.loop-position.invariant in
    let same = ap length c.deref_mut.ensures.value in
    omega (arith, window, long, same)

pub mark_wanted-requires-clause-spared : goal.mark_wanted-requires-clause-spared
mark_wanted-requires-clause-spared g c place lt =
    let long = c.loop-position.invariant in
    let same = ap length c.deref_mut.ensures.value in
    c.requires.spared place (omega (arith, lt, long, same))

pub loop-position-preserved : goal.loop-position-preserved
loop-position-preserved g c =
    let now = c.mark_wanted.new.marks in
    let was = c.loop-position.marks.items in
    let len : length now ≡ c.loop-position.marks.len = c.mark_wanted.ensures ∙ c.deref_mut.ensures.len in
    let whole : take c.loop-position.marks.len (now ++ drop (length now) was) ≡ now = ap (λ (n : ℕ). take n (now ++ drop (length now) was)) (sym len) ∙ take-append_seam now (drop (length now) was) in
    ap length whole ∙ (c.mark_wanted.ensures ∙ (ap length c.deref_mut.ensures.value ∙ c.loop-position.invariant))
