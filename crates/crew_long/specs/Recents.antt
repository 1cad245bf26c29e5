-- The flight duty periods of the last window, kept from duty to duty, with a switch.
use Rattle.std.specs.Prelude.{Bool, ◌&&◌, nat_le, nat_lt, int_le, ℤ, pos, ◌-ℤ◌, List}
use Rattle.crew_history.specs.crew_pairing.declared.duty.Duty.{Duty}
use Rattle.crew_history.specs.Histories.{begins_before, may_board}
use Rattle.crew_history.specs.HistoryValues.{periods_of, history_at_most}
use Rattle.crew_history.specs.Limits.{period_of}
use Rattle.crew_long.specs.declared.recent.Recent.{Recent}

-- its periods
abbrev pub recent_periods : Recent → List (ℤ × ℤ)
recent_periods v = periods_of v.history

-- at most: no more duties, and after every instant no more duty minutes
abbrev pub recent_at_most : Recent → Recent → Bool
recent_at_most a b = nat_le a.duties b.duties && history_at_most a.history b.history

-- a report between 1970 and 5772
abbrev pub is_dated : Duty → Bool
is_dated d = int_le (pos 0) d.report && int_le d.report (pos 2_000_000_000)

-- the duty is one of the first twelve, its flight duty period comes after the others, and the
-- 10,080 minutes that end with it keep the cap
abbrev pub may_take : ℤ → Recent → Duty → Bool
may_take cap v d =
    nat_lt v.duties 12 && (is_dated d && may_board (pos 10_080) cap (recent_periods v) (period_of d))

-- one of its periods starts before the 10,080 minutes that end with the duty's flight duty period
abbrev pub is_cut : Bool → Recent → Duty → Bool
is_cut is_on v d = is_on && begins_before (recent_periods v) ((period_of d).1 -ℤ pos 10_080)
