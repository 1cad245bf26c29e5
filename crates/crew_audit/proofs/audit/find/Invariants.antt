use Rattle.std.proofs.Common.{◌≤◌, length, take}
use Rattle.std.specs.FinMap as fin
use Rattle.std.specs.List.{flat_map}
use Rattle.crew_pairing.specs.Duties.{flights_of}
use Rattle.crew_audit.specs.Machinery.Listing.{of_base}
use Rattle.crew_audit.specs.Machinery.Taking.{Took}
use Rattle.crew_audit.proofs.audit.find.Given as goal

abbrev pub invariant-loop-base : goal.invariant-loop-base
invariant-loop-base g l = record {
  found : Took g.F.Sink.count g.F.Sink.holds l.initial.found l.found
      (flat_map (of_base l.settings (flights_of l.timetable)) (take (length l.yielded) (fin.entries l.timetable.bases)));
  room : g.F.Sink.count l.found ≤ l.limit;
}
