use Rattle.std.proofs.Common.{◌≡◌, ◌∷◌, map, take}
use Rattle.crew_pairing.specs.Legality.{leg_of}
use Rattle.crew_explain.proofs.legs.duty_from.Given as goal

abbrev pub invariant-loop-leg : goal.invariant-loop-leg
invariant-loop-leg l = l.key ≡ leg_of l.first ∷ map leg_of (take l.leg-index l.others)
