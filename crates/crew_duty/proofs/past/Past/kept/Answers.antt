use Rattle.std.proofs.Common.{◌≡◌, ◌∙◌, ℕ, ap, arith, filter, of_z, refl, to_z, w64}
use Rattle.std.proofs.lemmas.Int.{ints}
use Rattle.crew_flights.specs.declared.flight.Flight.{Flight}
use Rattle.crew_pairing.specs.Machinery.Listing.{from_flight}
use Rattle.crew_pairing.proofs.Tree.{Each-member}
use Rattle.crew_duty.specs.Machinery.Kept.{AreApart, begins_with, reach_of}
use Rattle.crew_duty.proofs.Blocks.{starts-apart, starts-ordered}
use Rattle.crew_duty.proofs.past.Past.kept.Goals as goal

pub returns : goal.returns
returns c = λ flights past m.
    let s = c.args.settings.now in
    let f = c.args.flight.now in
    let duties = c.args.self.now.duties.now in
    let minutes = c.args.self.now.minutes.now in
    let number = c.get-number.result in
    let from = c.start_of-from.result in
    let to = c.start_of-to.result in
    let dep : to_z w64 (of_z w64 c.get.result) ≡ f.dep = omega (arith, ints, c.get.ensures.value, c.get.ensures.range) in
    let end : to_z w64 (of_z w64 c.reach.result) ≡ reach_of s f = omega (arith, ints, c.reach.ensures.value, c.reach.ensures.least, c.reach.ensures.most) in
    let apart = rw (dep, end) at (c.if-not-apart.ensures refl) in
    let one = Each-member (λ (g : Flight). AreApart g.dep (reach_of s g) minutes → filter (begins_with g.id) duties ≡ from_flight s flights g) flights.list f past.same m in
    let ordered = starts-ordered duties number from to c.start_of-from.ensures c.start_of-to.ensures in
    record {
      ordered = ordered;
      within = c.start_of-to.ensures.within;
      same = starts-apart duties number from to ordered c.start_of-from.ensures c.start_of-to.ensures ∙ ap (λ (n : ℕ). filter (begins_with n) duties) c.get-number.ensures.value ∙ one apart;
    }
