use Rattle.std.proofs.Common.{◌≡◌, ◌∙◌, List, ap, length, subst, sym, ℕ}
use Rattle.crew_carry.specs.Carried.{IsCarried}
use Rattle.crew_pairing.specs.declared.events.Arrival.{Arrival}
use Rattle.crew_sweep.proofs.Besides as besides
use Rattle.crew_sweep.proofs.renewal.Renewal.new.Goals as goal

pub returns-clause-stands : goal.returns-clause-stands
returns-clause-stands c =
    let e = c.args.earlier.now in
    let old = e.sweep.now in
    let net = c.args.ground.now.net.now in
    let passing = c.in_ok-passing.passing in
    let changed = c.in_ok-changed.changed in
    let long : length changed.items ≡ length net.arrivals = sym changed.ok.0 ∙ (c.in_ok-changed.ensures.len ∙ ap (λ (xs : List Arrival). length xs) c.arrivals.ensures.events) in
    let alike = c.in_ok-alike.alike in
    let alike-long : length alike.items ≡ length net.arrivals = c.in_ok-alike.ensures.long ∙ ap (λ (xs : List Arrival). length xs) c.arrivals-2.ensures.events in
    besides.stands-beside e c.args.ground.now c.in_ok-passing.ensures.stands (besides.renewing-first old net passing.passed.walks passing.passed.pools changed.items alike.items c.in_ok-passing.ensures.none long alike-long c.in_ok-alike.ensures.none)
    (subst (λ (ws : List (List ℕ)). IsCarried e.twins.now.ranks old.walks ws c.in_ok-carrier.carrier) (sym c.in_ok-passing.ensures.walks) c.in_ok-carrier.ensures)
