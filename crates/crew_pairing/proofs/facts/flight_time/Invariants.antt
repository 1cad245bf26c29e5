use Rattle.std.proofs.Common.{◌≡◌, ◌+◌, ◌*◌, ◌∷◌, ◌≤ℤ◌, ◌-ℤ◌, pos, take}
use Rattle.crew_pairing.specs.Legality.{minutes_flown, total}
use Rattle.crew_pairing.proofs.facts.flight_time.Given as goal

abbrev pub invariant-loop-leg : goal.invariant-loop-leg
invariant-loop-leg l =
    (l.minutes ≡ total minutes_flown (l.first ∷ take l.leg-index l.others))
    × ((pos 0 -ℤ pos (60_000_000 * (l.leg-index + 1))) ≤ℤ l.minutes)
    × (l.minutes ≤ℤ pos (60_000_000 * (l.leg-index + 1)))
