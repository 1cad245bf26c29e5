use Rattle.std.proofs.Common.{◌≡◌, ◌∙◌, ℤ, List, None, Ok, Option, Some, ap, arith, of_z, subst, sym, to_z, w64}
use Rattle.std.specs.FinMap as fin
use Rattle.std.specs.Result.{result_map_both}
use Rattle.std.proofs.lemmas.Int.{ints}
use Rattle.crew_flights.specs.Timetable.{IsBasePrice}
use Rattle.crew_pairing.specs.declared.duty.Duty.{Duty}
use Rattle.crew_explain.specs.Explanations.{AreNumbers}
use Rattle.crew_explain.specs.Rules.{based, broken_of, first_of, read_walk, walk_rules}
use Rattle.crew_explain.proofs.Legal.{pairing-of}
use Rattle.crew_explain.proofs.explained.explain.Goals as goal

pub numbers_of-requires-clause-price : goal.numbers_of-requires-clause-price
numbers_of-requires-clause-price c =
    let held : fin.get c.args.timetable.now.bases c.args.base ≡ Some c.in-Some.price = sym c.base_price.ensures.held ∙ c.in-Some.is in
    let p = c.base_price.ensures.sound.bases c.args.base c.in-Some.price held in
    let read : to_z w64 (of_z w64 c.in-Some.price) ≡ c.in-Some.price = omega (arith, ints, p.least, p.most) in
    subst IsBasePrice (sym read) p

pub returns-in-None : goal.returns-in-None
returns-in-None c =
    let s = c.args.settings.now in
    let t = c.args.timetable.now in
    let base = c.args.base in
    let walk = c.args.walk.now in
    let own = c.in-Ok.read in
    let sound = c.base_price.ensures.sound in
    let held : fin.get t.bases base ≡ Some c.in-Some.price = sym c.base_price.ensures.held ∙ c.in-Some.is in
    let p = sound.bases base c.in-Some.price held in
    let price : to_z w64 (of_z w64 c.in-Some.price) ≡ c.in-Some.price = omega (arith, ints, p.least, p.most) in
    let is : read_walk s t walk ≡ Ok (own.duties.items, own.limits.items) =
    sym c.in_ok-read.ensures.value ∙ ap (result_map_both (λ r. (r.duties.items, r.limits.items)) (λ b. b)) c.in-Ok.is in
    let none : first_of (walk_rules s base own.duties.items) ≡ None = ap (λ (ds : List Duty). first_of (walk_rules s base ds)) (sym c.deref.ensures.value) ∙ sym c.walk_breach.ensures ∙ c.in-None.is in
    let pairing = pairing-of s t base walk c.in-Some.price (own.duties.items, own.limits.items) sound held is none in
    let duties = ap (λ d. d.items) c.numbers_of.ensures.duties in
    let limits = ap (λ d. d.items) c.numbers_of.ensures.limits in
    record {
      pairing = record {
        price = c.in-Some.price;
        based = held;
        first = pairing.first;
        others = pairing.others;
        given = duties ∙ pairing.given;
        partial = pairing.partial;
        returns = pairing.returns;
        walked = pairing.walked;
      };
      unbroken = ap (λ (o : Option ℤ). based o (broken_of s base (read_walk s t walk))) held ∙ ap (broken_of s base) is ∙ none;
      limits = is ∙ (λ i. Ok (sym duties i, sym limits i));
      numbers = subst (λ (z : ℤ). AreNumbers s z c.numbers_of.result) price c.numbers_of.ensures.numbers;
    }
