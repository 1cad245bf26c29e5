use Rattle.std.proofs.Common.{◌∙◌, sym}
use Rattle.crew_flights.proofs.Codes.{airport_is_code}
use Rattle.crew_flights.proofs.flight.Code.new.Goals as goal

pub invariant_of-result : goal.invariant_of-result
invariant_of-result c = airport_is_code c.args.letters (sym c.are_letters.ensures ∙ c.if-are_letters.true)
