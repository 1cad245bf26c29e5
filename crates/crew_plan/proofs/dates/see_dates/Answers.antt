use Rattle.std.proofs.Common.{Bor, ◌∙◌, List, [], ◌∷◌, map, subst}
use Rattle.std.specs.FinMap as fin
use Rattle.std.specs.Map.Iter.{deref}
use Rattle.std.proofs.lemmas.Map.Iter.{iter_end}
use Rattle.crew_flights.specs.Places.{placed}
use Rattle.crew_flights.specs.Timetable.{Timetable}
use Rattle.crew_flights.specs.declared.flight.Flight.{Flight}
use Rattle.crew_pairing.proofs.Tree.{Each-member}
use Rattle.crew_pairing.specs.Duties.{flights_of}
use Rattle.crew_resource.specs.Members.{Each}
use Rattle.crew_time.specs.Instant.{IsInstant}
use Rattle.crew_plan.proofs.dates.see_dates.Goals as goal

abbrev Dated : Flight → Type 0
Dated f = IsInstant f.dep

lent : (fs : List (Bor Flight)) → Each (λ (f : Bor Flight). Dated f.now) fs → Each Dated (map deref fs)
lent [] each = tt
lent (f ∷ fs) each = (each.0, lent fs each.1)

-- a flight departs at the same minute where it is placed
dated-placed : (t : Timetable) (fs : List Flight) → Each Dated fs → Each Dated (map (placed t) fs)
dated-placed t [] each = tt
dated-placed t (f ∷ fs) each = (each.0, dated-placed t fs each.1)

pub returns-clause-dated : goal.returns-clause-dated
returns-clause-dated c =
    let t = c.args.timetable.now in
    let all = fin.values t.flights in
    let end = iter_end deref all c.loop-flight.yielded _ _ _ _ (c.into_iter-flight-iterator.ensures.into_iter_gives ∙ c.flights-flight-items.ensures.held) c.loop-flight.yielded_by c.in-None.is c.next.ensures.steps in
    let seen = dated-placed t all (subst (Each Dated) end.0 (lent c.loop-flight.yielded c.loop-flight.invariant)) in
    λ flight m. Each-member Dated (flights_of t).list flight seen m
