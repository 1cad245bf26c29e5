use Rattle.crew_audit.specs.Machinery.Leaving.{AreGroups}
use Rattle.crew_audit.proofs.flight_list.groups_of.Given as goal

abbrev pub invariant-loop-flight : goal.invariant-loop-flight
invariant-loop-flight l = AreGroups l.flights l.groups.items
