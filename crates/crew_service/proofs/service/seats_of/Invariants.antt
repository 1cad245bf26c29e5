use Rattle.std.proofs.Common.{◌≡◌, length}
use Rattle.crew_service.specs.Plans.{AreSeatsFrom}
use Rattle.crew_service.proofs.service.seats_of.Given as goal

abbrev pub invariant-loop : goal.invariant-loop
invariant-loop l = (l.log.seats ≡ l.counter) × (length l.seats.items ≡ l.counter) × AreSeatsFrom 0 l.seats.items
