use Rattle.std.proofs.Common.{[], false, true, sym, subst, arith, List}
use Rattle.rayon.proofs.ListFacts.{IfOk-then}
use Rattle.crew_duty.specs.Machinery.Held.{held}
use Rattle.crew_duty.specs.Machinery.Filling.{Goes}
use Rattle.crew_pairing.specs.Machinery.Listing.{from_flight, listing, timed}
use Rattle.crew_pairing.specs.declared.duty.Duty.{Duty}
use Rattle.crew_duty.proofs.Filling.{goes-more}
use Rattle.crew_duty.proofs.Parts.{place-gives, there}
use Rattle.crew_duty.proofs.search.walk_from.Goals as goal

pub walk_first-requires-2-clause-so_far : goal.walk_first-requires-2-clause-so_far
walk_first-requires-2-clause-so_far c =
    let at = there c.args.plan.now.flights.now c.args.place c.requires.place in
    omega (arith, (c.in_ok-flown.ensures at.0 at.1).0)

pub walk_first-requires-2-clause-room : goal.walk_first-requires-2-clause-room
walk_first-requires-2-clause-room c =
    let at = there c.args.plan.now.flights.now c.args.place c.requires.place in
    omega (arith, (c.in_ok-flown.ensures at.0 at.1).1.0, c.requires.room)

pub returns : goal.returns
returns c =
    let s = c.args.plan.now.settings.now in
    let flights = held c.args.plan.now in
    let at = there flights.list c.args.place c.requires.place in
    let flown = listing 8 s flights (timed false at.0) [] in
    let ridden = listing 8 s flights (timed true at.0) [] in
    let gives = place-gives (from_flight s flights) flights.list c.args.place at.0 at.1 in
    IfOk-then c.walk_first-2.result _ _ c.walk_first-2.ensures
    (λ n e. subst (λ (l : List Duty). Goes c.args.so_far l c.args.found.now n c.walk_first-2.new.found) (sym gives)
    (goes-more c.args.so_far flown ridden c.args.found.now c.in_ok-flown.flown c.walk_first.new.found n c.walk_first-2.new.found c.requires.room (c.in_ok-flown.ensures at.0 at.1) (e at.0 at.1)))
