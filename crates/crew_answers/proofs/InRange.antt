-- Settings that are checked are so with pairings of at most 138 hours.
use Rattle.std.proofs.Common.{arith}
use Rattle.crew_rules.specs.Settings.{IsChecked}
use Rattle.crew_rules.specs.declared.settings.Settings.{Settings}

pub checked-short : (s : Settings) → IsChecked s → IsChecked (record s { away_cap = 8_280 })
checked-short s h = record {
  lead = h.lead;
  debrief = h.debrief;
  connect = h.connect;
  sit = h.sit;
  sit_most = h.sit_most;
  max_rest = h.max_rest;
  max_rest_most = h.max_rest_most;
  max_duties = h.max_duties;
  max_duties_most = h.max_duties_most;
  fdp_cap = h.fdp_cap;
  fdp_cap_most = h.fdp_cap_most;
  fly_cap = h.fly_cap;
  fly_cap_most = h.fly_cap_most;
  away_cap = omega arith;
  away_cap_most = omega arith;
  duty_rig = h.duty_rig;
  trip_rig = h.trip_rig;
  duty_min = h.duty_min;
  guarantee = h.guarantee;
  deadheads = h.deadheads;
  fdp_total = h.fdp_total;
  fdp_total_most = h.fdp_total_most;
}
