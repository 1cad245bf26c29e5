use Rattle.std.proofs.Common.{◌≡◌, ◌∙◌, ◌+◌, ◌++◌, ap, arith, length, map, of_z, subst, suc, sym, to_z, w64, ℤ}
use Rattle.std.proofs.lemmas.Int.{ints}
use Rattle.crew_flights.specs.Timetable.{IsBasePrice}
use Rattle.crew_pairing.specs.Local.{IsLocalOf}
use Rattle.crew_rules.specs.declared.settings.Settings.{Settings}
use Rattle.crew_pairing.specs.Events.{IsSound, MayFollow, arrival_of, departure_of}
use Rattle.crew_pairing.specs.declared.duty.Duty.{Duty}
use Rattle.crew_pairing.specs.declared.events.Arrival.{Arrival}
use Rattle.crew_pairing.specs.declared.events.Departure.{Departure}
use Rattle.crew_pairing.specs.declared.vector.PairingVector.{PairingVector}
use Rattle.crew_resource.specs.Members.{Member}
use Rattle.crew_vector.specs.Dominance.{is_at_most}
use Rattle.crew_vector.specs.Locals.{Feed}
use Rattle.crew_vector.specs.Machinery.VectorLaws.{vector_bounds, vector_staged}
use Rattle.crew_vector.specs.Machinery.VectorResources.{vector_resource}
use Rattle.crew_vector.specs.Values.{value_of}
use Rattle.crew_vector.proofs.Paths.{follows}
use Rattle.crew_step.specs.Machinery.Candidates.{all_extensions, openings}
use Rattle.crew_step.proofs.Fed.{by_opening, by_step, fed as of_predecessor}
use Rattle.crew_step.proofs.Listed.{apart-rises, local-made}
use Rattle.crew_step.proofs.Rooms.{value-room}
use Rattle.crew_step.proofs.Values.{few-duties, local-value, steps-of}
use Rattle.crew_step.proofs.step.front_of.Goals as goal

made-of : (s s' : Settings) (price price' : ℤ) → s ≡ s' → price ≡ price' → IsBasePrice price' → vector_resource s (to_z w64 (of_z w64 price)) ≡ vector_resource s' price'
made-of s s' price price' p q h =
    let least = h.least in
    let most = h.most in
    let whole : to_z w64 (of_z w64 price) ≡ price' = omega (arith, ints, q, least, most) in
    ap (λ z. vector_resource z (to_z w64 (of_z w64 price))) p ∙ ap (vector_resource s') whole

pub offer_feed-requires-clause-follows : goal.offer_feed-requires-clause-follows
offer_feed-requires-clause-follows c = λ p m.
    let j = c.args.job.now in
    let fed = c.predecessors-feed.ensures ∙ c.feed.ensures.same in
    let known : Member j.feed p = subst (λ (f : Feed). Member f p) fed m in
    subst (λ (d : Duty). MayFollow (arrival_of p.0) (departure_of d)) (sym c.duty.ensures.same)
    (follows j.settings p.0 j.duty c.settings.ensures.checked (c.feed.ensures.before.rested p.0 p.1 known))

pub offer_feed-requires-clause-room : goal.offer_feed-requires-clause-room
offer_feed-requires-clause-room c = λ p m e n.
    let j = c.args.job.now in
    let r = c.new-resource.result in
    let fed = c.predecessors-feed.ensures ∙ c.feed.ensures.same in
    let known : Member j.feed p = subst (λ (f : Feed). Member f p) fed m in
    let value = c.feed.ensures.before.values p.0 p.1 known e.0 e.1 n in
    let made : r ≡ vector_resource j.settings j.base_price =
    c.new-resource.ensures.made ∙ made-of c.settings.result.now j.settings c.base_price.result j.base_price c.settings.ensures.same c.base_price.ensures.same c.base_price.ensures.price in
    value-room PairingVector Duty Arrival Departure IsSound (λ _. Unit {0}) MayFollow arrival_of departure_of _ _ _ _ _ _ _ _ _ _ _ _ _ is_at_most (value_of j.settings j.base_price)
    (vector_bounds r) (vector_staged r) (steps-of j.settings j.base_price r made)
    value.first value.others e.0 value.line.0 tt value.line.1 value.value
    (c.new-resource.ensures.fits (suc (length value.others + 1)) (few-duties j.settings j.base_price c.settings.ensures.checked value.first value.others e.0 value.value))

pub returns : goal.returns
returns c =
    let j = c.args.job.now in
    let r = c.new-resource.result in
    let F = c.offer_feed.new.front in
    let made : r ≡ vector_resource j.settings j.base_price =
    c.new-resource.ensures.made ∙ made-of c.settings.result.now j.settings c.base_price.result j.base_price c.settings.ensures.same c.base_price.ensures.same c.base_price.ensures.price in
    let fed = c.predecessors-feed.ensures ∙ c.feed.ensures.same in
    let local = c.in_ok-offer_feed.ensures (openings (by_opening r) j.base j.duty) c.in_ok-front.ensures in
    let here = subst (λ (d : Duty). IsLocalOf is_at_most (openings (by_opening r) j.base j.duty ++ all_extensions (by_step r) d (map of_predecessor c.predecessors-feed.result.now)) F) c.duty.ensures.same local in
    let whole = subst (λ (f : Feed). IsLocalOf is_at_most (openings (by_opening r) j.base j.duty ++ all_extensions (by_step r) j.duty f) F) fed here in
    let left = local-made j.settings j.base j.base_price j.duty j.feed r made F whole in
    record {
      local = left;
      rises = apart-rises F c.as_slice.ensures.apart;
      values = local-value j.settings j.base j.base_price j.duty j.feed F c.settings.ensures.checked c.duty.ensures.sound c.feed.ensures.before left;
    }
