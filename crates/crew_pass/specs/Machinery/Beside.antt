-- A pass beside an earlier one of the same resource and base: what it knows to be the same there.
use Rattle.std.specs.Prelude.{◌≡◌, ℕ, List, [], Some, get_or, length, slice_get}
use Rattle.crew_labelling.specs.Beside.{AreAlike, AreSame}
use Rattle.crew_labelling.specs.Labellings.{labelling_of}
use Rattle.crew_labelling.specs.Terms.{Terms}
use Rattle.crew_net.specs.Positions.{in_order}
use Rattle.crew_pairing.specs.declared.duty.Duty.{Duty}
use Rattle.crew_pairing.specs.declared.events.Arrival.{Arrival}
use Rattle.crew_pairing.specs.declared.events.Departure.{Departure}
use Rattle.crew_cells.specs.Shapes.{CellsOver}
use Rattle.crew_pass.specs.Machinery.Terms.{IsBasisOf}
use Rattle.crew_pass.specs.Machinery.Twins.{AreTwins}
use Rattle.crew_pass.specs.Passes.{Passed}
use Rattle.crew_pass.specs.declared.beside.Bases.{Bases}
use Rattle.crew_pass.specs.declared.beside.Beside.{Beside}
use Rattle.crew_pass.specs.declared.ground.Ground.{Ground}
use Rattle.crew_pass.specs.declared.twins.Twins.{Twins}

-- the pool of a departure is alike to the one that the earlier labelling has at that departure
pub record IsAlikeThere {V : Type 0} (w z : Terms V) (position : ℕ) : Type 0 where
  pub departure : Departure
  pub reports : slice_get (in_order w.net) position ≡ Some departure
  pub alike : (other : ℕ) → slice_get (in_order z.net) other ≡ Some departure
      → AreAlike w z (get_or (labelling_of w).departures position [])
      (get_or (labelling_of z).departures other [])

-- the pool of the arrival at a place is the one that the earlier labelling has at the same arrival, at
-- this place
abbrev pub IsSameAs : {V : Type 0} → Terms V → Terms V → ℕ → ℕ → Type 0
IsSameAs w z place other = (x : Arrival) × (slice_get w.net.arrivals place ≡ Some x)
    × (slice_get z.net.arrivals other ≡ Some x)
    × AreSame w z (get_or (labelling_of w).arrivals place [])
    (get_or (labelling_of z).arrivals other [])

-- the pool of an arrival is the one that the earlier labelling has at that arrival
pub record IsSameThere {V : Type 0} (w z : Terms V) (place : ℕ) : Type 0 where
  pub arrival : Arrival
  pub releases : slice_get w.net.arrivals place ≡ Some arrival
  pub same : (other : ℕ) → slice_get z.net.arrivals other ≡ Some arrival
      → AreSame w z (get_or (labelling_of w).arrivals place [])
      (get_or (labelling_of z).arrivals other [])

-- bases of this pass and of that earlier one
pub record AreBasesOf {R V : Type 0} (g : Ground R) (p : Passed R V) (b : Bases R V) : Type 0 where
  pub now : IsBasisOf g b.now
  pub earlier : b.earlier.value ≡ p

-- so many cells over these
pub record AreNotesOver {R V : Type 0} (g : Ground R) (p : Passed R V)
    (cells : CellsOver (Bases R V)) (many : ℕ) : Type 0 where
  pub bases : AreBasesOf g p cells.basis
  pub count : cells.count ≡ many

-- the twins of what a pass goes by and of what an earlier one went by
abbrev pub AreTwinsOf : {R V : Type 0} → Ground R → Passed R V → Twins → Type 0
AreTwinsOf g p t = AreTwins g.net.now p.pass.net g.numbers.now p.numbers t.duties.items
    t.arrivals.items t.fed.items t.departures.items

-- an earlier pass of the same resource and base beside which a pass goes, and its notes
pub record AreBeside {R V : Type 0} (g : Ground R) (b : Beside R V) : Type 0 where
  pub resource : b.earlier.now.resource ≡ g.resource.now
  pub base : b.earlier.now.base ≡ g.base
  pub twins : AreTwinsOf g b.earlier.now b.twins
  pub alike : AreNotesOver g b.earlier.now b.alike (length g.net.now.by_report)
  pub same : AreNotesOver g b.earlier.now b.same (length g.net.now.arrivals)
