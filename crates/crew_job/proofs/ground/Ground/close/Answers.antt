use Rattle.crew_machine.proofs.CrewLaws.{timetable-sound}
use Rattle.crew_job.proofs.ground.Ground.close.Goals as goal

pub close-requires-clause-solution : goal.close-requires-clause-solution
close-requires-clause-solution c =
    let d = c.self.inside.draft in
    let is = c.in_ok-solution.ensures in
    record {
      network = is.network d.settings _ c.self.invariant.planned;
      scratch = is.scratch d.settings _ c.self.invariant.checked (timetable-sound d.entries) c.self.invariant.planned;
    }
