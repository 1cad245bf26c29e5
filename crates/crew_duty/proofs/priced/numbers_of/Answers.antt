use Rattle.std.proofs.Common.{◌∙◌, ap, sym, arith}
use Rattle.std.specs.Option.{option_copied}
use Rattle.crew_duty.proofs.NewPrices.{number-at-most-last}
use Rattle.crew_duty.proofs.priced.numbers_of.Goals as goal

pub returns-in-Some : goal.returns-in-Some
returns-in-Some c i d k =
    let flights = c.args.flights.now in
    let least = number-at-most-last flights i d c.in-Some.last.now c.requires.1.rising k (sym c.last.ensures.value ∙ ap option_copied c.in-Some.is) in
    let value = c.get.ensures.value in
    let range = c.get.ensures.range in
    omega (arith, least, value, range)
