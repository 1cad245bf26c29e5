use Rattle.std.proofs.Common.{◌≤◌, ◌+◌, ◌-◌, ◌*◌, [], length, take, if◌then◌else◌}
use Rattle.std.specs.List.{flat_map}
use Rattle.crew_pairing.specs.Legality.{last_of, may_follow}
use Rattle.crew_pairing.specs.Machinery.Listing.{below, from_flight}
use Rattle.crew_audit.specs.Machinery.Listing.{with_next}
use Rattle.crew_audit.specs.Machinery.Taking.{Took}
use Rattle.crew_audit.proofs.search.+partials.Given as goal

abbrev pub decreases-list_after : goal.decreases-list_after
decreases-list_after g l = (l.scope.now.settings.now.max_duties - length l.before.now) * 30 + 29

abbrev pub decreases-list_from : goal.decreases-list_from
decreases-list_from g l = (l.scope.now.settings.now.max_duties - length l.before.now) * 30 + 28

abbrev pub decreases-list_legs : goal.decreases-list_legs
decreases-list_legs g l = (l.scope.now.settings.now.max_duties - length l.before.now) * 30 + (8 - length l.others.now) * 2 + 2

abbrev pub decreases-list_below : goal.decreases-list_below
decreases-list_below g l = (l.scope.now.settings.now.max_duties - length l.before.now) * 30 + (8 - length l.others.now) * 2 + 1

abbrev pub decreases-list_own : goal.decreases-list_own
decreases-list_own g l = (l.scope.now.settings.now.max_duties - length l.duties.now) * 30 + 30

abbrev pub invariant-list_after-loop-flight : goal.invariant-list_after-loop-flight
invariant-list_after-loop-flight g l = record {
  found : Took g.F.Sink.count g.F.Sink.holds l.initial.found l.found
      (flat_map (λ f. flat_map (with_next (l.scope.settings.now.max_duties - (length l.before + 1)) l.scope.settings.now l.scope.flights.now l.scope.base l.scope.base_price l.before) (from_flight l.scope.settings.now l.scope.flights.now f))
      (take l.flight-index l.leaving));
  room : g.F.Sink.count l.found ≤ l.scope.limit;
}

abbrev pub invariant-list_legs-loop-flight : goal.invariant-list_legs-loop-flight
invariant-list_legs-loop-flight g l = record {
  found : Took g.F.Sink.count g.F.Sink.holds l.initial.found l.found
      (flat_map (λ x. if may_follow l.scope.settings.now l.scope.flights.now.turns (last_of l.first l.others).flight x then
      flat_map (with_next (l.scope.settings.now.max_duties - (length l.before + 1)) l.scope.settings.now l.scope.flights.now l.scope.base l.scope.base_price l.before)
      (below (7 - length l.others) l.scope.settings.now l.scope.flights.now l.first l.others x) else [])
      (take l.flight-index l.leaving));
  room : g.F.Sink.count l.found ≤ l.scope.limit;
}
