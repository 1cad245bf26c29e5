use Rattle.std.proofs.Common.{◌≤◌, subst, sym}
use Rattle.crew_net.proofs.Slices.{stands}
use Rattle.crew_sweep.proofs.earlier.Earlier.wanted.Goals as goal

pub has_few_changes-requires-clause-marks : goal.has_few_changes-requires-clause-marks
has_few_changes-requires-clause-marks c =
    let at = stands c.args.ground.now.net.now.departures c.args.place c.requires.place in
    subst (λ n. c.window-window.result.end ≤ n) (sym c.requires.marks) (c.window-window.ensures at.0 at.1).within
