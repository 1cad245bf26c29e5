-- A pass that has ended, which is right for what it went by.
use Rattle.std.specs.Prelude.{◌≡◌}
use Rattle.std.specs.declared.cmp.Ordering.{Ordering}
use Rattle.crew_forgetful.specs.declared.Forgets as Forgets
use Rattle.crew_forgetful.specs.declared.Lapses as Lapses
use Rattle.crew_labelling.specs.Labellings.{labelling_of}
use Rattle.crew_labelling.specs.Passes.{pass_of}
use Rattle.crew_labelling.specs.Terms.{Terms, terms_of}
use Rattle.crew_pairing.specs.declared.duty.Duty.{Duty}
use Rattle.crew_pairing.specs.declared.events.Arrival.{Arrival}
use Rattle.crew_pairing.specs.declared.events.Departure.{Departure}
use Rattle.crew_resource.specs.declared.Resource as Resource
use Rattle.crew_resource.specs.declared.Staged as Staged
use Rattle.crew_pass.specs.Machinery.Shelves.{AreRight}
use Rattle.crew_net.specs.Nets.{Net}
use Rattle.crew_pass.specs.Machinery.Terms.{ArePlaces, MayPass}
use Rattle.crew_pass.specs.Passes.{Passed}
use Rattle.crew_pass.specs.declared.places.Places.{Places}

-- the terms of a pass that has ended
abbrev pub passed_terms : {R V : Type 0} → (V → V → Ordering)
    → Lapses.Ghosts R Duty V Arrival Departure
    → Staged.Ghosts R Duty V Arrival Departure → Forgets.Ghosts R Duty V Arrival Departure
    → Resource.Ghosts R V Duty → Passed R V → Terms V
passed_terms listing lapses staged forgets resource p =
    terms_of listing lapses staged forgets resource p.resource p.pass.net p.base p.numbers
    p.pass.leaves

-- it shows the labelling of its terms
pub record ShowsLabelling {R V : Type 0} (w : Terms V) (p : Passed R V) : Type 0 where
  pub may : MayPass w
  pub shown : p.pass ≡ pass_of w (labelling_of w)
  pub arrivals : AreRight (labelling_of w).arrivals p.arrivals
  pub rested : AreRight (labelling_of w).rested p.rested

abbrev pub IsPassed : {R V : Type 0} → (V → V → Ordering)
    → Lapses.Ghosts R Duty V Arrival Departure
    → Staged.Ghosts R Duty V Arrival Departure → Forgets.Ghosts R Duty V Arrival Departure
    → Resource.Ghosts R V Duty → Passed R V → Type 0
IsPassed listing lapses staged forgets resource p =
    ShowsLabelling (passed_terms listing lapses staged forgets resource p) p

-- what it went by: the network of a course, and the numbers of the network's duties
pub record IsOver (net : Net) (course : Net) (places : Places) : Type 0 where
  pub same : course ≡ net
  pub are : ArePlaces net places
