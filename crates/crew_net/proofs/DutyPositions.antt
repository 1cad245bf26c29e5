-- The positions of the departures of duties, by rank: their places in order of report.
use Rattle.std.proofs.Common.{◌≡◌, ◌<◌, ◌≤◌, ◌+◌, ℕ, true, List, Some, length, get_or, sym, ap, subst, ◌∙◌, arith, ⊎_elim}
use Rattle.std.specs.Prelude.{slice_get}
use Rattle.std.proofs.lemmas.Bool.Decides.{eqb_tells}
use Rattle.crew_net.specs.Events.{AreEvents, departure_cmp, leaves_at}
use Rattle.crew_net.specs.Nets.{AreByReport, Net}
use Rattle.crew_net.specs.Ranks.{ranks_where}
use Rattle.crew_pairing.specs.Events.{departure_of}
use Rattle.crew_pairing.specs.declared.duty.Duty.{Duty}
use Rattle.crew_pairing.specs.declared.events.Departure.{Departure}
use Rattle.crew_resource.specs.Members.{Member}
use Rattle.crew_net.specs.Machinery.Numbered.{departure_place}
use Rattle.crew_net.specs.Positions.{in_order}
use Rattle.crew_net.proofs.Numbers.{at-departure, departure-itself, get-within, same-departure}
use Rattle.crew_net.proofs.Orders.{in-order-distinct, leaves-in}
use Rattle.crew_net.proofs.ArrivalPlaces.{ranks-in, ranks-out}
use Rattle.crew_net.proofs.Slices.{member-got, some-same}

-- the duties of the departures so far have their positions
abbrev pub HavePositions : Net → ℕ → List ℕ → Type 0
HavePositions net count positions = (rank : ℕ) (d : Duty) (k : ℕ) → slice_get net.duties rank ≡ Some d → k < count → slice_get (in_order net) k ≡ Some (departure_of d) → get_or positions rank 0 ≡ k

module _ (net : Net) (departs : AreEvents departure_of departure_cmp net.duties net.departures) (ordered : AreByReport net.departures net.by_report) where
  -- one departure more
  pub position-more : (k : ℕ) (g : Departure) (was after : List ℕ) → slice_get (in_order net) k ≡ Some g
      → ((rank : ℕ) → Member (ranks_where (leaves_at g) net.duties) rank → get_or after rank 0 ≡ k)
      → ((rank : ℕ) → (Member (ranks_where (leaves_at g) net.duties) rank → ⊥) → get_or after rank 0 ≡ get_or was rank 0)
      → HavePositions net k was → HavePositions net (k + 1) after
  position-more k g was after at there elsewhere so-far rank d j known below here =
      ⊎_elim {C = get_or after rank 0 ≡ j}
      (λ t.
      let j-is : j ≡ k = t.1 in
      let same = some-same (slice_get (in_order net) k) g (departure_of d) at (ap (slice_get (in_order net)) (sym j-is) ∙ here) in
      there rank (ranks-in (leaves_at g) net.duties rank d known (subst (λ (z : Departure). leaves_at z d ≡ true) (sym same) (departure-itself (departure_of d)))) ∙ sym j-is)
      (λ f.
      let ne = f.1 in
      let before : j < k = omega (arith, below, ne) in
      elsewhere rank (λ m.
      let r = ranks-out (leaves_at g) net.duties rank m in
      let duty = some-same (slice_get net.duties rank) r.0 d r.1 known in
      let same : g ≡ departure_of d = same-departure g (departure_of r.0) r.2 ∙ ap departure_of duty in
      ne (in-order-distinct net departs ordered j k (departure_of d) here (at ∙ ap Some same)))
      ∙ so-far rank d j known before here)
      (eqb_tells j k)

  -- all departures
  pub positions-all : (count : ℕ) (positions : List ℕ) → length (in_order net) ≤ count → HavePositions net count positions
      → (rank : ℕ) (d : Duty) → slice_get net.duties rank ≡ Some d → slice_get (in_order net) (get_or positions rank 0) ≡ Some (departure_of d)
  positions-all count positions all so-far rank d known =
      let k = departure_place (in_order net) (departure_of d) in
      let here = at-departure (in_order net) (departure_of d) (leaves-in net departs ordered d (member-got net.duties rank d known)) in
      let within = get-within (in_order net) k (departure_of d) here in
      ap (slice_get (in_order net)) (so-far rank d k known (omega (arith, within, all)) here) ∙ here
