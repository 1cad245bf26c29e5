-- The resource of a base's pairings under some settings, and its parts side by side.
use Rattle.std.specs.Prelude.{◌&&◌, cond, int_le, ℤ, pos, Option, Some, None}
use Rattle.crew_pairing.specs.declared.duty.Duty.{Duty}
use Rattle.crew_pairing.specs.declared.vector.PairingVector.{PairingVector}
use Rattle.crew_resource.specs.declared.both.Both.{Both}
use Rattle.crew_resource.specs.declared.count.Count.{Count}
use Rattle.crew_resource.specs.declared.sum.Sum.{Sum}
use Rattle.crew_rules.specs.Settings.{fdp_most}
use Rattle.crew_rules.specs.declared.settings.Settings.{Settings}
use Rattle.crew_vector.specs.declared.amounts.DutyPay.{DutyPay}
use Rattle.crew_vector.specs.declared.amounts.TripRig.{TripRig}
use Rattle.crew_vector.specs.declared.amounts.Guarantee.{Guarantee}
use Rattle.crew_vector.specs.declared.amounts.DutyMinutes.{DutyMinutes}
use Rattle.crew_vector.specs.declared.amounts.FlightMinutes.{FlightMinutes}
use Rattle.crew_vector.specs.declared.amounts.MinutesAway.{MinutesAway}
use Rattle.crew_vector.specs.declared.resource.VectorResource.{VectorResource}

abbrev pub vector_resource : Settings → ℤ → VectorResource
vector_resource s base_price = record {
  base_price = base_price;
  trip_rig = s.trip_rig;
  guarantee = s.guarantee;
  fdp_cap = fdp_most s;
  fly_cap = s.fly_cap;
  max_duties = s.max_duties;
  away_cap = s.away_cap;
}

abbrev pub Sides : Type 0
Sides = Both (Both (Sum DutyPay) (Both (Sum TripRig) (Sum Guarantee)))
    (Both (Both (Sum DutyMinutes) (Sum FlightMinutes)) (Both (Count Duty) (Sum MinutesAway)))

abbrev pub sides_of : VectorResource → Sides
sides_of r = record {
  first = record {
    first = record { amount = record { base_price = r.base_price } };
    second = record {
      first = record { amount = record { rate = r.trip_rig; base_price = r.base_price } };
      second = record { amount = record { points = r.guarantee; base_price = r.base_price } };
    };
  };
  second = record {
    first = record {
      first = record { amount = record { cap = r.fdp_cap } };
      second = record { amount = record { cap = r.fly_cap } };
    };
    second = record {
      first = record { most = r.max_duties; items = record {} };
      second = record { amount = record { cap = r.away_cap } };
    };
  };
}

-- a vector, where it passes no cap
abbrev pub within_caps : VectorResource → PairingVector → Option PairingVector
within_caps r v = cond
    ((int_le v.fdp (pos r.fdp_cap) && int_le v.fly (pos r.fly_cap))
    && (int_le v.duties (pos r.max_duties) && int_le v.away (pos r.away_cap)))
    (Some v) None
