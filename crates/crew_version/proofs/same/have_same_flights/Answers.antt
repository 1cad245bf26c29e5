use Rattle.std.proofs.Common.{◌≡◌, ◌∙◌, List}
use Rattle.std.specs.FinMap as fin
use Rattle.std.specs.Map.Iter.{deref}
use Rattle.crew_flights.specs.declared.flight.Flight.{Flight}
use Rattle.crew_version.proofs.SameTimetable.{flight-decides}
use Rattle.crew_version.proofs.Alongside.{compared}
use Rattle.crew_version.proofs.same.have_same_flights.Goals as goal

pub returns-clause-same : goal.returns-clause-same
returns-clause-same c =
    compared {U = List Flight} (deref {X = Flight}) (λ (s : List Flight). s) (λ (s : List Flight). s) (λ s t. t ≡ s) _ (λ x y. flight-decides x.now y.now) _ _ _ (fin.values c.args.one.now.flights) (fin.values c.args.other.now.flights) c.flights.ensures.held (λ it e. e ∙ c.flights-2.ensures.held) c.eq.ensures.ran
