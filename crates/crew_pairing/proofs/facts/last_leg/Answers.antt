use Rattle.std.proofs.Common.{◌∙◌, sym, ap}
use Rattle.std.specs.Option.{option_copied}
use Rattle.crew_pairing.proofs.Sums.{last_of-last}
use Rattle.crew_pairing.proofs.facts.last_leg.Goals as goal

pub returns-in-Some : goal.returns-in-Some
returns-in-Some c = last_of-last c.args.first.now c.args.others.now c.in-Some.leg.now (sym c.last.ensures.value ∙ ap option_copied c.in-Some.is)
