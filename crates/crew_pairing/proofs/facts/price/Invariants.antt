use Rattle.std.proofs.Common.{◌≡◌, ◌+◌, ◌*◌, ◌∷◌, ◌≤ℤ◌, ◌-ℤ◌, pos, take}
use Rattle.crew_pairing.specs.Legality.{price_of, total}
use Rattle.crew_pairing.proofs.facts.price.Given as goal

abbrev pub invariant-loop-leg : goal.invariant-loop-leg
invariant-loop-leg l =
    (l.sum ≡ total price_of (l.first ∷ take l.leg-index l.others))
    × ((pos 0 -ℤ pos (1_000_000_000 * (l.leg-index + 1))) ≤ℤ l.sum)
    × (l.sum ≤ℤ pos (1_000_000_000 * (l.leg-index + 1)))
