use Rattle.std.proofs.Common.{◌≡◌, ◌∙◌, ap, arith, get_or, of_z, subst, sym, to_z, w64}
use Rattle.std.proofs.lemmas.Int.{ints}
use Rattle.std.proofs.lemmas.List.{take_all}
use Rattle.crew_net.specs.Machinery.Moments.{IsBounded, IsReal}
use Rattle.crew_net.proofs.Codes.{real-bounded}
use Rattle.crew_net.proofs.Keyed.{all-keys, one-key-more}
use Rattle.crew_pairing.proofs.Tree.{Each-member}
use Rattle.crew_pairing.specs.declared.events.Departure.{Departure}
use Rattle.crew_resource.proofs.Members.{Member-get}
use Rattle.crew_net.proofs.events.report_keys.Goals as goal

pub slot_key-requires-clause-bounded : goal.slot_key-requires-clause-bounded
slot_key-requires-clause-bounded c =
    let events = c.args.departures.now in
    let k = c.loop-place.place in
    let g = c.index-departures-place.result in
    let real : IsReal g.report = subst (λ (x : Departure). IsReal x.report) (sym c.index-departures-place.is) (Each-member (λ (x : Departure). IsReal x.report) events (get_or events k g) c.requires.real (Member-get events k g c.loop-place-test.true)) in
    let bound = real-bounded g.report real in
    subst IsBounded (let lo = bound.least in let hi = bound.most in let e : g.report ≡ to_z w64 (of_z w64 g.report) = omega (arith, ints, lo, hi) in e) bound

pub loop-place-preserved : goal.loop-place-preserved
loop-place-preserved c =
    let events = c.args.departures.now in
    let k = c.loop-place.place in
    let g = c.index-departures-place.result in
    let real : IsReal g.report = subst (λ (x : Departure). IsReal x.report) (sym c.index-departures-place.is) (Each-member (λ (x : Departure). IsReal x.report) events (get_or events k g) c.requires.real (Member-get events k g c.loop-place-test.true)) in
    let same : to_z w64 (of_z w64 g.report) ≡ g.report = let lo = real.least in let hi = real.most in omega (arith, ints, lo, hi) in
    let at : to_z w64 (of_z w64 g.report) ≡ (get_or events k g).report = same ∙ ap (λ (x : Departure). x.report) c.index-departures-place.is in
    one-key-more (λ (x : Departure). x.report) events k g c.loop-place-test.true c.loop-place.keys.items c.slot_key.result c.push.new.self.items c.loop-place.invariant (c.slot_key.ensures ∙ (λ i. record { at = at i; place = k })) c.in_ok-push.ensures.items

pub returns : goal.returns
returns c = all-keys (λ (x : Departure). x.report) c.args.departures.now _ c.loop-place.keys.items c.loop-place.invariant (take_all c.loop-place.place c.args.departures.now c.loop-place-test.false)
