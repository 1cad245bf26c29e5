-- What the labels of one base go by, as one value: a resource's members, and a network.
use Rattle.std.specs.Prelude.{◌≡◌, ◌<◌, ◌≤◌, ◌+◌, ℕ, suc, ℤ, Bool, List, Option, Some, get_or, length, slice_get}
use Rattle.std.specs.Cmp.{IsTotalOrder}
use Rattle.std.specs.declared.cmp.Ordering.{Ordering}
use Rattle.crew_forgetful.specs.Forgetful.{Forgetful}
use Rattle.crew_forgetful.specs.Sweeps.{TellCount}
use Rattle.crew_forgetful.specs.declared.Forgets as Forgets
use Rattle.crew_forgetful.specs.declared.Lapses as Lapses
use Rattle.crew_label.specs.Tables.{Leaving}
use Rattle.crew_net.specs.Events.{AreEvents, arrival_cmp, departure_cmp}
use Rattle.crew_net.specs.Nets.{AreByReport, Net}
use Rattle.crew_net.specs.Positions.{ArePositions}
use Rattle.crew_pairing.specs.Duties.{RiseByKey}
use Rattle.crew_pairing.specs.Events.{IsSound, MayFollow, arrival_of, departure_of}
use Rattle.crew_pairing.specs.declared.duty.Duty.{Duty}
use Rattle.crew_pairing.specs.declared.events.Arrival.{Arrival}
use Rattle.crew_pairing.specs.declared.events.Departure.{Departure}
use Rattle.crew_resource.specs.Members.{Member}
use Rattle.crew_resource.specs.Resource.{OrderLaws}
use Rattle.crew_resource.specs.Stages.{CountingLaws}
use Rattle.crew_resource.specs.declared.Resource as Resource
use Rattle.crew_resource.specs.declared.Staged as Staged

-- how labels are compared and listed, what becomes of their values, and within which bounds these
-- lie; a network, the base, the number of each duty by rank, and where duties leave
pub record Terms (V : Type 0) : Type 1 where
  pub cmp : V → V → Ordering
  pub below : V → V → Bool
  pub same : V → V → Bool
  pub idle : Departure → V
  pub wait : V → Arrival → Departure → V
  pub board : V → Duty → Option V
  pub rest : V → V
  pub count : V → ℤ
  pub ready : ℕ → V → Type 0
  pub arrived : ℕ → V → Type 0
  pub most : Option ℕ
  pub fits : ℕ → Type 0
  pub net : Net
  pub base : List ℕ
  pub numbers : List ℕ
  pub leaves : Leaving

-- the terms of a resource whose values are listed in an order, over a network
abbrev pub terms_of : {R V : Type 0} → (V → V → Ordering)
    → Lapses.Ghosts R Duty V Arrival Departure
    → Staged.Ghosts R Duty V Arrival Departure → Forgets.Ghosts R Duty V Arrival Departure
    → Resource.Ghosts R V Duty → R → Net → List ℕ → List ℕ → Leaving → Terms V
terms_of listing lapses staged forgets resource r network from by_rank leaving = record {
  cmp = listing;
  below = resource.below;
  same = forgets.same_sums;
  idle = staged.idle_of r;
  wait = staged.waited r;
  board = staged.boards r;
  rest = lapses.rested_of r;
  count = staged.count_of r;
  ready = staged.ready r;
  arrived = staged.arrived r;
  most = staged.most r;
  fits = staged.fits r;
  net = network;
  base = from;
  numbers = by_rank;
  leaves = leaving;
}

-- the number of a duty, by its rank
abbrev pub number_of : {V : Type 0} → Terms V → ℕ → ℕ
number_of w rank = get_or w.numbers rank 0

-- a resource counts the duties of a list, values with the same sums have as many, there is a most,
-- and sums over one more fit
pub record CountsDuties {V : Type 0} (same : V → V → Bool) (count : V → ℤ) (most : Option ℕ)
    (fits : ℕ → Type 0) : Type 0 where
  pub tell : TellCount same count
  pub limit : ℕ
  pub has_most : most ≡ Some limit
  pub fit : (n : ℕ) → n ≤ limit + 1 → fits n

-- a network over which a pass may go, and the positions of its duties' departures
pub record IsPassable (net : Net) (positions : List ℕ) : Type 0 where
  pub departs : AreEvents departure_of departure_cmp net.duties net.departures
  pub arrives : AreEvents arrival_of arrival_cmp net.duties net.arrivals
  pub ordered : AreByReport net.departures net.by_report
  pub rise : RiseByKey net.duties
  pub few : length net.duties ≤ 200_000
  pub sound : (d : Duty) → Member net.duties d → IsSound d
  pub rests : net.settings.max_rest ≤ 8_280
  pub are_positions : ArePositions net positions

-- there are as many numbers as duties: a duty's number tells its rank, and is no other duty's
pub record AreNumbers (net : Net) (numbers ranks : List ℕ) : Type 0 where
  pub long : length numbers ≡ length net.duties
  pub told : (rank duty : ℕ) → slice_get numbers rank ≡ Some duty
      → slice_get ranks duty ≡ Some rank
  pub own : (rank duty : ℕ) → rank < length net.duties → slice_get ranks duty ≡ Some rank
      → slice_get numbers rank ≡ Some duty

-- terms by which a pass may go: such a network with numbers, and a resource that counts duties
pub record AreTerms {V : Type 0} (w : Terms V) : Type 0 where
  pub passable : IsPassable w.net w.leaves.positions
  pub numbered : AreNumbers w.net w.numbers w.leaves.ranks
  pub counts : CountsDuties w.same w.count w.most w.fits

-- what the terms have of a resource's laws: values are listed in a total order, in which equal ones
-- alone tie; walks decide only between values with the same sums; and each stage keeps the count and
-- the bounds
pub record AreLawful {V : Type 0} (w : Terms V) : Type 0 where
  pub order : OrderLaws w.cmp w.below
  pub total : IsTotalOrder w.cmp
  pub forgets : Forgetful w.below w.same w.wait w.board
  pub counting : (m : ℕ) → w.most ≡ Some m → CountingLaws w.count m w.idle w.wait w.board
  pub idle_ready : (g : Departure) → w.ready 0 (w.idle g)
  pub wait_ready : (n : ℕ) (v : V) (x : Arrival) (g : Departure) → MayFollow x g → w.arrived n v
      → w.ready n (w.wait v x g)
  pub board_arrived : (n : ℕ) (v z : V) (d : Duty) → IsSound d → w.ready n v
      → w.board v d ≡ Some z → w.arrived (suc n) z
  pub rest_counts : (v : V) → w.count (w.rest v) ≡ w.count v
  pub rest_arrived : (n : ℕ) (v : V) → w.arrived n v → w.arrived n (w.rest v)
