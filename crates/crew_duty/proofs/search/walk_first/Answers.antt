use Rattle.std.proofs.Common.{◌≡◌, true, [], ◌∷◌, ◌∙◌, ap, sym, get_or, refl}
use Rattle.std.proofs.lemmas.Option.{get_or_from_slice_get, slice_get-get_or}
use Rattle.rayon.proofs.ListFacts.{IfOk-then}
use Rattle.crew_pairing.specs.Legality.{leg_of}
use Rattle.crew_pairing.specs.Machinery.Listing.{is_hopeless, listing, timed}
use Rattle.crew_duty.specs.Machinery.Held.{held}
use Rattle.crew_duty.proofs.Filling.{goes-none}
use Rattle.crew_duty.proofs.Leads.{ridden-first}
use Rattle.crew_duty.proofs.Paths.{path-one}
use Rattle.crew_pairing.proofs.Tree.{listing-closed}
use Rattle.crew_duty.proofs.search.walk_first.Goals as goal

pub returns-then-plan-eq0 : goal.returns-then-plan-eq0
returns-then-plan-eq0 c = λ flight h.
    let s = c.args.plan.now.settings.now in
    let flights = held c.args.plan.now in
    let none : listing 8 s flights (timed true flight) [] ≡ [] = listing-closed 8 s flights (timed true flight) [] (ridden-first s flight c.if-plan-eq0.true) in
    rw (c.if-deadhead.true, none) (goes-none c.args.so_far c.args.found.now c.requires.so_far)

pub returns-then-forbid : goal.returns-then-forbid
returns-then-forbid c =
    let s = c.args.plan.now.settings.now in
    let flights = held c.args.plan.now in
    let d = c.args.deadhead in
    let g = get_or flights.list c.args.place c.index-plan-place.result in
    let leg : c.timed_leg-first.result ≡ timed d g = c.timed_leg-first.ensures in
    let tested : c.forbid.result ≡ is_hopeless s (timed d g) [] = c.forbid.ensures s (timed d g) [] (rw (sym leg) c.of-limits.ensures) c.of-totals.ensures refl in
    λ flight h.
    let same : g ≡ flight = get_or_from_slice_get flights.list c.args.place flight c.index-plan-place.result h in
    let none : listing 8 s flights (timed d flight) [] ≡ [] = rw same at (listing-closed 8 s flights (timed d g) [] (sym tested ∙ c.if-forbid.true)) in
    rw none (goes-none c.args.so_far c.args.found.now c.requires.so_far)

pub enter-requires-clause-path : goal.enter-requires-clause-path
enter-requires-clause-path c =
    let s = c.args.plan.now.settings.now in
    let flights = held c.args.plan.now in
    let d = c.args.deadhead in
    let g = get_or flights.list c.args.place c.index-plan-place.result in
    let at = slice_get-get_or flights.list c.args.place c.index-plan-place.result c.requires.place in
    let leg : c.timed_leg-first.result ≡ timed d g = c.timed_leg-first.ensures in
    let tested : c.forbid.result ≡ is_hopeless s (timed d g) [] = c.forbid.ensures s (timed d g) [] (rw (sym leg) c.of-limits.ensures) c.of-totals.ensures refl in
    let key : c.of-key.result ≡ leg_of (timed d g) ∷ [] = c.of-key.ensures ∙ ap (λ l. l ∷ []) (c.leg.ensures ∙ ap leg_of leg) in
    rw leg ([], path-one s flights d g c.args.place c.of-key.result c.of-totals.result at (sym tested ∙ c.if-forbid.false) key c.of-totals.ensures, record { flight = at; is_ridden = refl })

pub returns : goal.returns
returns c =
    let s = c.args.plan.now.settings.now in
    let flights = held c.args.plan.now in
    let d = c.args.deadhead in
    let g = get_or flights.list c.args.place c.index-plan-place.result in
    let at = slice_get-get_or flights.list c.args.place c.index-plan-place.result c.requires.place in
    let leg : c.timed_leg-first.result ≡ timed d g = c.timed_leg-first.ensures in
    let tested : c.forbid.result ≡ is_hopeless s (timed d g) [] = c.forbid.ensures s (timed d g) [] (rw (sym leg) c.of-limits.ensures) c.of-totals.ensures refl in
    let key : c.of-key.result ≡ leg_of (timed d g) ∷ [] = c.of-key.ensures ∙ ap (λ l. l ∷ []) (c.leg.ensures ∙ ap leg_of leg) in
    let path = path-one s flights d g c.args.place c.of-key.result c.of-totals.result at (sym tested ∙ c.if-forbid.false) key c.of-totals.ensures in
    IfOk-then c.enter.result _ _ c.enter.ensures.goes
    (λ n e flight h.
    let same : g ≡ flight = get_or_from_slice_get flights.list c.args.place flight c.index-plan-place.result h in
    rw same at (rw leg at e [] path (record { flight = at; is_ridden = refl })))
