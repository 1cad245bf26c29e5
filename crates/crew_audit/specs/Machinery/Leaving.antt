-- Flights at hand: lists in which no flight is missed that a test asks for.
use Rattle.std.specs.Prelude.{◌≡◌, ℕ, Bool, ◌&&◌, int_le, List}
use Rattle.std.specs.List.{filter}
use Rattle.std.specs.Ordering.{eq_by_cmp}
use Rattle.crew_flights.specs.Codes.{code_cmp}
use Rattle.crew_flights.specs.declared.flight.Flight.{Flight}
use Rattle.crew_resource.specs.Members.{Member}
use Rattle.crew_audit.specs.declared.flight_list.Block.{Block}
use Rattle.crew_audit.specs.declared.flight_list.Leaving.{Leaving}
use Rattle.crew_audit.specs.declared.flight_list.Span.{Span}

abbrev pub leaves : List ℕ → Flight → Bool
leaves airport f = eq_by_cmp code_cmp airport f.from

abbrev pub departs_within : Span → Flight → Bool
departs_within span f = int_le span.from f.dep && int_le f.dep span.end

abbrev pub leaves_within : List ℕ → Span → Flight → Bool
leaves_within airport span f = leaves airport f && departs_within span f

-- among the flights that were found are all those that the test asks for, in order, and each is one
-- of the flights
pub record AreAmong (asked : Flight → Bool) (flights found : List Flight) : Type 0 where
  pub same : filter asked found ≡ filter asked flights
  pub known : (f : Flight) → Member found f → Member flights f

-- each block has what departs within its minutes
abbrev pub AreBlocks : List Flight → List Block → Type 0
AreBlocks flights blocks = (b : Block) → Member blocks b
    → AreAmong (departs_within b.span) flights b.flights.items

-- what leaves an airport, and the same by blocks
pub record IsGroup (flights : List Flight) (g : Leaving) : Type 0 where
  pub all : AreAmong (leaves g.airport) flights g.flights.items
  pub legs : AreBlocks g.flights.items g.legs.items
  pub days : AreBlocks g.flights.items g.days.items

abbrev pub AreGroups : List Flight → List Leaving → Type 0
AreGroups flights groups = (g : Leaving) → Member groups g → IsGroup flights g
