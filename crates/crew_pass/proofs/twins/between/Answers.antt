use Rattle.std.proofs.Common.{◌∙◌, ℕ, Global, List, Vec, ap, length, subst}
use Rattle.crew_pairing.specs.declared.events.Arrival.{Arrival}
use Rattle.crew_pass.specs.Machinery.Twins.{AreFedAt, AreTwinsByNumber, AreTwinsIn}
use Rattle.crew_pass.proofs.Twinned.{told-duties}
use Rattle.crew_pass.proofs.twins.between.Goals as goal

pub returns : goal.returns
returns c =
    let net = c.args.net.now in
    let earlier = c.args.earlier.now in
    let numbers = c.args.places.now.numbers.value.items in
    let before = c.args.before.now.numbers.value.items in
    let ranks = c.args.before.now.ranks.value.items in
    let duties = c.in_ok-duties.duties.items in
    let arrivals = c.in_ok-arrivals.arrivals.items in
    let fed = c.in_ok-fed.fed.items in
    let told = subst (λ (ns : List ℕ). AreTwinsByNumber net.duties earlier.duties ns ranks duties) (c.deref-2.ensures.value ∙ ap (λ (v : Vec ℕ Global). v.items) c.deref.ensures)
    (subst (λ (rs : List ℕ). AreTwinsByNumber net.duties earlier.duties c.deref-2.result.now rs duties) (c.deref-4.ensures.value ∙ ap (λ (v : Vec ℕ Global). v.items) c.deref-3.ensures) c.in_ok-duties.ensures.twins) in
    record {
      duties_long = c.in_ok-duties.ensures.long;
      arrivals_long = c.in_ok-arrivals.ensures.long ∙ ap length c.arrivals.ensures.events;
      fed_long = c.in_ok-fed.ensures.long;
      departures_long = c.in_ok-departures.ensures.long;
      duties = told-duties net earlier numbers before ranks duties c.requires.before.numbered told;
      arrivals = subst (λ (xs : List Arrival). AreTwinsIn xs earlier.arrivals arrivals) c.arrivals.ensures.events
          (subst (λ (ys : List Arrival). AreTwinsIn c.arrivals.result.now ys arrivals) c.arrivals-2.ensures.events c.in_ok-arrivals.ensures.twins);
      fed = subst (λ (ds : List ℕ). AreFedAt net earlier ds arrivals fed) c.deref-5.ensures.value
          (subst (λ (xs : List ℕ). AreFedAt net earlier c.deref-5.result.now xs fed) c.deref-6.ensures.value c.in_ok-fed.ensures.fed);
      departures = c.in_ok-departures.ensures.twins;
    }
