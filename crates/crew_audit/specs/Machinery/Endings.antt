-- What is asked of a list of duties where it ends: of all windows and of all reports of a list, these
-- tests are made of its beginnings, one by one (proofs/Beginnings.antt).
use Rattle.std.specs.Prelude.{Bool, ◌&&◌, int_le, ℤ, pos, ◌-ℤ◌, List, [], ◌∷◌}
use Rattle.crew_rules.specs.declared.settings.Settings.{Settings}
use Rattle.crew_pairing.specs.Legality.{total}
use Rattle.crew_pairing.specs.Pairings.{last_duty}
use Rattle.crew_pairing.specs.declared.duty.Duty.{Duty}
use Rattle.crew_history.specs.Limits.{arrival, fdp_between, since_rest}

-- flight duty minutes within the 10,080 minutes that end with an instant
abbrev pub window_to : ℤ → List Duty → ℤ
window_to end duties = total (fdp_between (end -ℤ pos 10_080) end) duties

-- within those that end with the last arrival
abbrev pub last_window : List Duty → ℤ
last_window [] = pos 0
last_window (first ∷ others) = window_to (arrival (last_duty first others)) (first ∷ others)

-- minutes from the end of the last long rest, or the first report, to the last report
abbrev pub since_last_rest : List Duty → ℤ
since_last_rest [] = pos 0
since_last_rest (first ∷ others) = since_rest first others

-- the last window keeps the cap, and a long rest ended no more than 138 hours before the last report
abbrev pub keeps_limits : Settings → List Duty → Bool
keeps_limits s duties =
    int_le (last_window duties) (pos s.fdp_cap) && int_le (since_last_rest duties) (pos 8_280)
