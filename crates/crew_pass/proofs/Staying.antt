-- An earlier pass of the same resource and base: what is made of the same there is the same here.
use Rattle.std.proofs.Common.{◌≡◌, ◌∙◌, ◌<◌, ℕ, true, List, [], Option, None, Some, get_or, length, map, sym, subst, ⊎_elim, arith}
use Rattle.std.specs.Prelude.{IfSome, MatchOption, slice_get}
use Rattle.std.specs.declared.cmp.Ordering.{Ordering}
use Rattle.crew_forgetful.specs.declared.Forgets as Forgets
use Rattle.crew_forgetful.specs.declared.Lapses as Lapses
use Rattle.crew_label.specs.Alike.{AreTwinEntries}
use Rattle.crew_label.specs.Walks.{shown}
use Rattle.crew_label.specs.declared.label.Label.{Label}
use Rattle.crew_labelling.specs.Beside.{AreAlike, StayAlike, WaitAlike}
use Rattle.crew_labelling.specs.Held.{trail_of}
use Rattle.crew_labelling.specs.Labellings.{labelling_of, table_of}
use Rattle.crew_labelling.specs.Passes.{BasePass}
use Rattle.crew_labelling.specs.Terms.{AreLawful, AreTerms, Terms, terms_of}
use Rattle.crew_labelling.proofs.BesideLabels.{HaveRanks}
use Rattle.crew_labelling.proofs.BesideWhole.{stay-alike}
use Rattle.crew_labelling.proofs.Right.{arrivals-held, arrivals-long, departures-ready, rested-long}
use Rattle.crew_net.specs.Events.{IsWindow}
use Rattle.crew_net.specs.Positions.{in_order}
use Rattle.crew_net.specs.declared.window.Window.{Window}
use Rattle.crew_net.proofs.Numbers.{get-within}
use Rattle.crew_net.proofs.Slices.{get-at}
use Rattle.crew_pairing.specs.Events.{may_wait}
use Rattle.crew_pairing.specs.declared.duty.Duty.{Duty}
use Rattle.crew_pairing.specs.declared.events.Arrival.{Arrival}
use Rattle.crew_pairing.specs.declared.events.Departure.{Departure}
use Rattle.crew_resource.specs.declared.Resource as Resource
use Rattle.crew_resource.specs.declared.Staged as Staged
use Rattle.crew_pass.specs.Machinery.Beside.{AreBeside, IsAlikeThere, IsSameThere}
use Rattle.crew_pass.specs.Machinery.Ended.{IsPassed, passed_terms}
use Rattle.crew_pass.specs.Machinery.Passing.{ArrivesAt}
use Rattle.crew_pass.specs.Machinery.Terms.{MayPass, terms}
use Rattle.crew_pass.specs.Machinery.Twins.{AreTwinsIn}
use Rattle.crew_pass.specs.declared.beside.Beside.{Beside}
use Rattle.crew_pass.specs.declared.ground.Ground.{Ground}
use Rattle.crew_pass.proofs.Likened.{keys-alike}
use Rattle.crew_pass.proofs.Taken.{alike-there, arrival-taken, board-alike, departure-taken, front-taken, rest-taken, same-there}

-- what holds of what is found
pub if-found : {X : Type 0} (A : Type 0) (o : Option X) {P Q : X → Type 0} → MatchOption o A P → ((x : X) → P x → Q x) → IfSome o Q
if-found A None m f = tt
if-found A (Some x) m f = f x m

-- a twin that is one stands in both lists
pub twin-of : {X : Type 0} (here there : List X) (twins : List ℕ) → AreTwinsIn here there twins → (place other : ℕ) → slice_get twins place ≡ Some other → other < 4_294_967_295
    → (x : X) × (slice_get here place ≡ Some x) × (slice_get there other ≡ Some x)
twin-of {X} here there twins are place other at some =
    ⊎_elim {C = (x : X) × (slice_get here place ≡ Some x) × (slice_get there other ≡ Some x)} (λ none. absurd (omega (arith, some, none))) (λ t. t) (are place other at)

module _ {R V : Type 0} (listing : V → V → Ordering) (lapses : Lapses.Ghosts R Duty V Arrival Departure) (staged : Staged.Ghosts R Duty V Arrival Departure)
    (forgets : Forgets.Ghosts R Duty V Arrival Departure) (resource : Resource.Ghosts R V Duty) (g : Ground R) (b : Beside R V) (is : AreBeside g b)
    (may : MayPass (terms listing lapses staged forgets resource g)) (right : IsPassed listing lapses staged forgets resource b.earlier.now) where
  abbrev there : R → List ℕ → Terms V
  there r base = let p = b.earlier.now in terms_of listing lapses staged forgets resource r p.pass.net base p.numbers p.pass.leaves

  terms-there : AreTerms (there g.resource.now g.base)
  terms-there = subst (λ (r : R). AreTerms (there r g.base)) is.resource (subst (λ (s : List ℕ). AreTerms (there b.earlier.now.resource s)) is.base right.may.terms)

  lawful-there : AreLawful (there g.resource.now g.base)
  lawful-there = subst (λ (r : R). AreLawful (there r g.base)) is.resource (subst (λ (s : List ℕ). AreLawful (there b.earlier.now.resource s)) is.base right.may.lawful)

  pub stays : StayAlike (terms listing lapses staged forgets resource g) (passed_terms listing lapses staged forgets resource b.earlier.now)
  stays =
      let p = b.earlier.now in
      let w = terms listing lapses staged forgets resource g in
      subst (λ (r : R). StayAlike w (there r p.base)) (sym is.resource)
      (subst (λ (s : List ℕ). StayAlike w (there g.resource.now s)) (sym is.base)
      (stay-alike w p.pass.net p.numbers p.pass.leaves (record { here = may.terms; there = terms-there; lawful = may.lawful; lawful_there = lawful-there })))

  abbrev w : Terms V
  w = terms listing lapses staged forgets resource g

  abbrev z : Terms V
  z = passed_terms listing lapses staged forgets resource b.earlier.now

  -- an arrival there has a place on the shelves of that pass
  pub arrival-held : (other : ℕ) (x : Arrival) → slice_get z.net.arrivals other ≡ Some x → other < length b.earlier.now.arrivals
  arrival-held other x at =
      let one = right.arrivals.long in
      let two = arrivals-long z right.may.terms in
      let within = get-within z.net.arrivals other x at in
      omega (arith, one, two, within)

  pub rest-held : (other : ℕ) (x : Arrival) → slice_get z.net.arrivals other ≡ Some x → other < length b.earlier.now.rested
  rest-held other x at =
      let one = right.rested.long in
      let two = rested-long z right.may.terms in
      let within = get-within z.net.arrivals other x at in
      omega (arith, one, two, within)

  -- the twin of an arrival
  pub arrival-twin : (place other : ℕ) → slice_get b.twins.arrivals.items place ≡ Some other → other < 4_294_967_295
      → (x : Arrival) × (slice_get w.net.arrivals place ≡ Some x) × (slice_get z.net.arrivals other ≡ Some x)
  arrival-twin = twin-of w.net.arrivals z.net.arrivals b.twins.arrivals.items is.twins.arrivals

  -- the twin of a departure
  pub departure-twin : (position other : ℕ) → slice_get b.twins.departures.items position ≡ Some other → other < 4_294_967_295
      → (x : Departure) × (slice_get (in_order w.net) position ≡ Some x) × (slice_get (in_order z.net) other ≡ Some x)
  departure-twin = twin-of (in_order w.net) (in_order z.net) b.twins.departures.items is.twins.departures

  abbrev IsTwinDuty : ℕ → ℕ → Type 0
  IsTwinDuty rank other = (d : Duty) × (slice_get w.net.duties rank ≡ Some d) × (slice_get z.net.duties other ≡ Some d) × (get_or w.numbers rank 0 ≡ get_or z.numbers other 0)

  -- the twin of a duty
  pub duty-twin : (rank other : ℕ) → slice_get b.twins.duties.items rank ≡ Some other → other < 4_294_967_295 → IsTwinDuty rank other
  duty-twin rank other at some = ⊎_elim {C = IsTwinDuty rank other} (λ none. absurd (omega (arith, some, none))) (λ t. t) (is.twins.duties rank other at)

  -- the earlier pool of an arrival into which the same duties go
  pub arrival-there : (place other : ℕ) (labels : List (Label V)) → slice_get b.twins.arrivals.items place ≡ Some other → other < 4_294_967_295 → slice_get b.twins.fed.items place ≡ Some true
      → ((rank : ℕ) → ArrivesAt w.net place rank → IsAlikeThere w z (get_or w.leaves.positions rank 0)) → slice_get b.earlier.now.arrivals other ≡ Some (Some labels)
      → (labels ≡ get_or (labelling_of w).arrivals place []) × IsSameThere w z place
  arrival-there place other labels at some fed alike held =
      let x = arrival-twin place other at some in
      let paired = (is.twins.fed place other at fed).paired x.0 x.1 in
      let taken = arrival-taken w z may right.may stays place other x.0 b.twins.duties.items x.1 x.2 (λ rank there at few. duty-twin rank there at (omega (arith, few))) paired alike in
      (right.arrivals.same other labels held ∙ taken.0, taken.1)

  -- what a rest after an arrival went by
  pub rest-there : (place other : ℕ) (labels : List (Label V)) → slice_get b.twins.arrivals.items place ≡ Some other → other < 4_294_967_295 → IsSameThere w z place
      → slice_get b.earlier.now.rested other ≡ Some (Some labels) → labels ≡ get_or (labelling_of w).rested place []
  rest-there place other labels at some same held =
      let x = arrival-twin place other at some in
      right.rested.same other labels held ∙ rest-taken w z may right.may stays place other x.0 x.1 x.2 same

  -- the earlier front of a duty
  pub front-there : (rank other : ℕ) → slice_get b.twins.duties.items rank ≡ Some other → other < 4_294_967_295 → IsAlikeThere w z (get_or w.leaves.positions rank 0)
      → get_or (labelling_of z).fronts other [] ≡ get_or (labelling_of w).fronts rank []
  front-there rank other at some alike =
      let d = duty-twin rank other at some in
      front-taken w z may right.may stays rank other (board-alike w z may right.may rank other d.0 d.1 d.2 d.3 alike)

  -- the earlier pool of a departure that waits on the same arrivals
  pub departure-there : (position other : ℕ) (here there : Window) → slice_get b.twins.departures.items position ≡ Some other → other < 4_294_967_295
      → ((g : Departure) → slice_get (in_order w.net) position ≡ Some g → IsWindow (λ x. may_wait w.net.settings x g) w.net.arrivals here)
      → ((g : Departure) → slice_get (in_order z.net) other ≡ Some g → IsWindow (λ x. may_wait z.net.settings x g) z.net.arrivals there) → WaitAlike w z here there
      → (get_or (labelling_of z).departures other [] ≡ get_or (labelling_of w).departures position []) × IsAlikeThere w z position
  departure-there position other here there at some window window-there wait =
      let d = departure-twin position other at some in
      departure-taken w z may right.may stays position other d.0 here there d.1 d.2 (window d.0 d.1) (window-there d.0 d.2) wait

  -- what that pass shows of a departure
  pub departure-shown : (other : ℕ) (labels : List (Label V)) → slice_get b.earlier.now.pass.pools other ≡ Some labels → labels ≡ get_or (labelling_of z).departures other []
  departure-shown other labels at = sym (get-at (labelling_of z).departures other labels [] (subst (λ (p : BasePass V). slice_get p.pools other ≡ Some labels) right.shown at))

  -- pools whose walks are of twins are alike
  pub alike-by-twins : (labels others : List (Label V)) → HaveRanks z others
      → AreTwinEntries b.twins.duties.items (map (shown (trail_of (table_of w (labelling_of w)))) labels) (map (shown (trail_of (table_of z (labelling_of z)))) others) → AreAlike w z labels others
  alike-by-twins labels others ranked twins =
      keys-alike w.net.duties z.net.duties b.twins.duties.items right.may.terms.passable.few
      (λ rank other at few. let d = duty-twin rank other at (omega (arith, few)) in (d.0, d.1, d.2))
      (trail_of (table_of w (labelling_of w))) (trail_of (table_of z (labelling_of z))) labels others ranked twins

  -- the pool of a departure that came out alike
  pub departure-alike : (position other : ℕ) → slice_get b.twins.departures.items position ≡ Some other → other < 4_294_967_295
      → AreTwinEntries b.twins.duties.items (map (shown (trail_of (table_of w (labelling_of w)))) (get_or (labelling_of w).departures position []))
      (map (shown (trail_of (table_of z (labelling_of z)))) (get_or (labelling_of z).departures other [])) → IsAlikeThere w z position
  departure-alike position other at some twins =
      let d = departure-twin position other at some in
      alike-there w z may right.may position other d.0 d.1 d.2
      (alike-by-twins (get_or (labelling_of w).departures position []) (get_or (labelling_of z).departures other []) (λ l m. (departures-ready z right.may.terms right.may.lawful other l m).entry.ranked) twins)

  -- and that of an arrival that came out the same
  pub arrival-same : (place other : ℕ) → slice_get b.twins.arrivals.items place ≡ Some other → other < 4_294_967_295 → get_or (labelling_of w).arrivals place [] ≡ get_or (labelling_of z).arrivals other []
      → AreTwinEntries b.twins.duties.items (map (shown (trail_of (table_of w (labelling_of w)))) (get_or (labelling_of w).arrivals place []))
      (map (shown (trail_of (table_of z (labelling_of z)))) (get_or (labelling_of z).arrivals other [])) → IsSameThere w z place
  arrival-same place other at some same twins =
      let x = arrival-twin place other at some in
      same-there w z may right.may place other x.0 x.1 x.2
      (record {
        labels = same;
        alike = alike-by-twins (get_or (labelling_of w).arrivals place []) (get_or (labelling_of z).arrivals other []) (λ l m. (arrivals-held z right.may.terms right.may.lawful other l m).entry.ranked) twins;
      })
