-- The end of the last long rest, kept from duty to duty, with a switch.
use Rattle.std.specs.Prelude.{Bool, cond, not, ◌&&◌, ◌||◌, int_le, ℤ, pos, ◌-ℤ◌, Option, Some, None}
use Rattle.std.specs.Ordering.{int_cmp}
use Rattle.std.specs.declared.cmp.Ordering.{Ordering}
use Rattle.crew_history.specs.crew_pairing.declared.duty.Duty.{Duty}
use Rattle.crew_history.specs.crew_pairing.declared.events.Arrival.{Arrival}
use Rattle.crew_history.specs.crew_pairing.declared.events.Departure.{Departure}
use Rattle.crew_long.specs.declared.rest_end.RestEnd.{RestEnd}

-- listed the later first
abbrev pub rest_end_cmp : RestEnd → RestEnd → Ordering
rest_end_cmp a b = int_cmp b.minute a.minute

-- at most: it ended no earlier
abbrev pub rest_end_at_most : RestEnd → RestEnd → Bool
rest_end_at_most a b = int_le b.minute a.minute

-- before the first duty: its report; off, one value for all lists
abbrev pub idle_rest : Bool → Departure → RestEnd
idle_rest is_on g = record { minute = cond is_on g.report (pos 0) }

-- at a report: the report where it comes off a rest of 1,800 minutes or more, and else as before
abbrev pub wait_rest : Bool → RestEnd → Arrival → Departure → RestEnd
wait_rest is_on v x g =
    cond is_on (record {
      minute = cond (int_le (pos 1_800) (g.report -ℤ x.release)) g.report
          v.minute;
    }) v

-- a duty is boarded where at most 8,280 minutes have passed
abbrev pub board_rest : Bool → RestEnd → Duty → Option RestEnd
board_rest is_on v d = cond (not is_on || int_le (d.report -ℤ v.minute) (pos 8_280)) (Some v) None

abbrev pub rest_end_at : ℤ → RestEnd
rest_end_at minute = record { minute = minute }

-- a wait is a rest of 1,800 minutes or more, which sets the end anew
abbrev pub is_rest : Bool → Arrival → Departure → Bool
is_rest is_on x g = is_on && int_le (pos 1_800) (g.report -ℤ x.release)

-- one end for all before a rest; off, the end itself
abbrev pub rested_end : Bool → RestEnd → RestEnd
rested_end is_on v = cond is_on (rest_end_at (pos 0)) v
