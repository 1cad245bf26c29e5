use Rattle.std.proofs.Common.{◌≡◌, ◌+◌, ◌++◌, ◌<◌, ◌∙◌, List, ap, arith, drop, get_or, length, subst, sym, take, ℕ}
use Rattle.std.proofs.Math.Seq.{take-append_seam}
use Rattle.crew_net.proofs.InTime.{item-at, leaver-within}
use Rattle.crew_pairing.specs.declared.events.Departure.{Departure}
use Rattle.crew_dirty.proofs.Sames.{HavePlaces, places-all, places-more}
use Rattle.crew_dirty.proofs.places.departure_places.Goals as goal

pub write_at-requires : goal.write_at-requires
write_at-requires c rank m =
    let net = c.args.net.now in
    let k = c.loop-departure.departure in
    let within : k < length net.departures = subst (λ (xs : List Departure). k < length xs) c.departures-departure-end.ensures.events c.loop-departure-test.true in
    let g = item-at net.departures k within in
    let bound = leaver-within net g.0 c.leaving.result.now (c.leaving.ensures g.0 g.1) rank m in
    let long = c.loop-departure.invariant.0 in
    let same = ap length c.deref_mut.ensures.value in
    omega (arith, bound, long, same)

pub loop-departure-preserved : goal.loop-departure-preserved
loop-departure-preserved c =
    let net = c.args.net.now in
    let k = c.loop-departure.departure in
    let now = c.write_at.new.places in
    let was = c.loop-departure.places.items in
    let within : k < length net.departures = subst (λ (xs : List Departure). k < length xs) c.departures-departure-end.ensures.events c.loop-departure-test.true in
    let g = item-at net.departures k within in
    let value = c.deref_mut.ensures.value in
    let long : length now ≡ length net.duties = c.write_at.ensures.long ∙ (ap length value ∙ c.loop-departure.invariant.0) in
    let len : length now ≡ c.loop-departure.places.len = c.write_at.ensures.long ∙ c.deref_mut.ensures.len in
    let whole : take c.loop-departure.places.len (now ++ drop (length now) was) ≡ now = ap (λ (n : ℕ). take n (now ++ drop (length now) was)) (sym len) ∙ take-append_seam now (drop (length now) was) in
    let next : HavePlaces net (k + 1) now = places-more net k g.0 g.1 c.leaving.result.now (c.leaving.ensures g.0 g.1) was now c.write_at.ensures.there
    (λ rank out. c.write_at.ensures.elsewhere rank out ∙ ap (λ (ps : List ℕ). get_or ps rank 0) value)
    c.loop-departure.invariant.1 in
    subst (λ (ps : List ℕ). (length ps ≡ length net.duties) × HavePlaces net (k + 1) ps) (sym whole) (long, next)

pub returns-clause-leaves : goal.returns-clause-leaves
returns-clause-leaves c =
    let net = c.args.net.now in
    let all = c.loop-departure-test.false in
    let events = ap length c.departures-departure-end.ensures.events in
    places-all net c.departures-departure-end.ensures.exact c.loop-departure.departure (omega (arith, all, events)) c.loop-departure.places.items c.loop-departure.invariant.1
