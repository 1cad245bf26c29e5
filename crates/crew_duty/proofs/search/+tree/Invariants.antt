use Rattle.std.proofs.Common.{◌≡◌, ◌-◌, ◌*◌, List, take, length}
use Rattle.std.specs.List.{flat_map}
use Rattle.crew_duty.specs.Machinery.Held.{held}
use Rattle.crew_duty.specs.Machinery.Filling.{Goes}
use Rattle.crew_duty.specs.Machinery.Paths.{IsPath, LastAt}
use Rattle.crew_pairing.specs.declared.leg.TimedLeg.{TimedLeg}
use Rattle.crew_duty.specs.Machinery.Plans.{below_place}
use Rattle.crew_duty.proofs.search.+tree.Given as goal

abbrev pub decreases-walk : goal.decreases-walk
decreases-walk l = 30 - 3 * length l.key.now

abbrev pub decreases-step : goal.decreases-step
decreases-step l = 29 - 3 * length l.key.now

abbrev pub decreases-enter : goal.decreases-enter
decreases-enter l = 31 - 3 * length l.key.now

abbrev pub invariant-walk-loop-place : goal.invariant-walk-loop-place
invariant-walk-loop-place l = record {
  goes : (others : List TimedLeg) → IsPath l.plan.settings.now (held l.plan) l.first others l.fn.key l.totals → LastAt l.plan.flights.now l.first others l.last
      → Goes l.fn.so_far (flat_map (below_place (7 - length others) l.plan.settings.now (held l.plan) l.first others) (take l.place-index l.place-items)) l.fn.found l.counted l.found;
  kept : l.key ≡ l.fn.key;
}
