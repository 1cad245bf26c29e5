-- What a pass of one base goes by, as one value.
use Rattle.std.specs.Prelude.{◌≡◌}
use Rattle.std.specs.declared.cmp.Ordering.{Ordering}
use Rattle.crew_forgetful.specs.declared.Forgets as Forgets
use Rattle.crew_forgetful.specs.declared.Lapses as Lapses
use Rattle.crew_label.specs.Tables.{Leaving, Tabled}
use Rattle.crew_labelling.specs.Labellings.{labelling_of, table_of}
use Rattle.crew_labelling.specs.Terms.{AreLawful, AreNumbers, AreTerms, Terms, terms_of}
use Rattle.crew_net.specs.Nets.{Net}
use Rattle.crew_net.specs.Positions.{ArePositions}
use Rattle.crew_pairing.specs.declared.duty.Duty.{Duty}
use Rattle.crew_pairing.specs.declared.events.Arrival.{Arrival}
use Rattle.crew_pairing.specs.declared.events.Departure.{Departure}
use Rattle.crew_resource.specs.declared.Resource as Resource
use Rattle.crew_resource.specs.declared.Staged as Staged
use Rattle.crew_pass.specs.declared.ground.Basis.{Basis}
use Rattle.crew_pass.specs.declared.ground.Ground.{Ground}
use Rattle.crew_pass.specs.declared.places.Places.{Places}

-- where the duties of a pass leave
abbrev pub leaving_of : {R : Type 0} → Ground R → Leaving
leaving_of g = record { ranks = g.ranks.now; positions = g.positions.now }

-- the terms that a pass goes by
abbrev pub terms : {R V : Type 0} → (V → V → Ordering) → Lapses.Ghosts R Duty V Arrival Departure
    → Staged.Ghosts R Duty V Arrival Departure → Forgets.Ghosts R Duty V Arrival Departure
    → Resource.Ghosts R V Duty → Ground R → Terms V
terms listing lapses staged forgets resource g =
    terms_of listing lapses staged forgets resource g.resource.now g.net.now g.base g.numbers.now
    (leaving_of g)

-- the numbers of a network's duties, and where these leave
pub record ArePlaces (net : Net) (p : Places) : Type 0 where
  pub numbered : AreNumbers net p.numbers.value.items p.ranks.value.items
  pub are_positions : ArePositions net p.positions.value.items

-- those that a pass goes by
pub record ArePlacesOf {R : Type 0} (g : Ground R) (p : Places) : Type 0 where
  pub numbers : p.numbers.value.items ≡ g.numbers.now
  pub ranks : p.ranks.value.items ≡ g.ranks.now
  pub positions : p.positions.value.items ≡ g.positions.now

-- the same, without the references
pub record IsBasisOf {R : Type 0} (g : Ground R) (b : Basis R) : Type 0 where
  pub net : b.net.value ≡ g.net.now
  pub places : ArePlacesOf g b.places.value
  pub resource : b.resource.value ≡ g.resource.now
  pub base : b.base ≡ g.base

-- where the duties of a basis leave
abbrev pub basis_leaving : {R : Type 0} → Basis R → Leaving
basis_leaving b = record {
  ranks = b.places.value.ranks.value.items;
  positions = b.places.value.positions.value.items;
}

-- the terms of a basis
abbrev pub basis_terms : {R V : Type 0} → (V → V → Ordering)
    → Lapses.Ghosts R Duty V Arrival Departure
    → Staged.Ghosts R Duty V Arrival Departure → Forgets.Ghosts R Duty V Arrival Departure
    → Resource.Ghosts R V Duty → Basis R → Terms V
basis_terms listing lapses staged forgets resource b =
    terms_of listing lapses staged forgets resource b.resource.value b.net.value b.base
    b.places.value.numbers.value.items (basis_leaving b)

-- terms by which a pass may go, of a resource that keeps its laws
pub record MayPass {V : Type 0} (w : Terms V) : Type 0 where
  pub terms : AreTerms w
  pub lawful : AreLawful w

-- the table of the departures of the labelling
abbrev pub labels_table : {V : Type 0} → Terms V → Tabled V
labels_table w = table_of w (labelling_of w)
