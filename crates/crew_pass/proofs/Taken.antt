-- What an earlier pass has of the same duties and events is this pass's.
use Rattle.std.proofs.Common.{◌≡◌, ◌∙◌, ◌<◌, ℕ, List, [], Some, length, get_or, sym, ap, subst, ⊎_elim, arith}
use Rattle.std.specs.Prelude.{slice_get}
use Rattle.crew_label.specs.declared.label.Label.{Label}
use Rattle.crew_labelling.specs.Beside.{AllBoardAlike, AreAlike, AreSame, BoardAlike, StayAlike, WaitAlike}
use Rattle.crew_labelling.specs.Labellings.{labelling_of}
use Rattle.crew_labelling.specs.Terms.{Terms}
use Rattle.crew_net.specs.Events.{IsWindow, arrives_at}
use Rattle.crew_net.specs.Positions.{in_order}
use Rattle.crew_net.specs.Ranks.{ranks_where}
use Rattle.crew_net.specs.declared.window.Window.{Window}
use Rattle.crew_net.proofs.ArrivalPlaces.{ranks-out}
use Rattle.crew_net.proofs.Numbers.{get-within}
use Rattle.crew_net.proofs.Orders.{arrivals-distinct, in-order-distinct}
use Rattle.crew_net.proofs.Slices.{member-got, some-same}
use Rattle.crew_pairing.specs.Events.{departure_of, may_wait}
use Rattle.crew_pairing.specs.declared.duty.Duty.{Duty}
use Rattle.crew_pairing.specs.declared.events.Arrival.{Arrival}
use Rattle.crew_pairing.specs.declared.events.Departure.{Departure}
use Rattle.crew_pass.specs.Machinery.Beside.{IsAlikeThere, IsSameThere}
use Rattle.crew_pass.specs.Machinery.Passing.{ArrivesAt}
use Rattle.crew_pass.specs.Machinery.Terms.{MayPass}
use Rattle.crew_pass.specs.Machinery.Twins.{AreFed, AreTwins, ArePaired}

module _ {V : Type 0} (w z : Terms V) (may : MayPass w) (was : MayPass z) where
  -- a departure of both networks, whose pools are alike
  pub alike-there : (position other : ℕ) (g : Departure) → slice_get (in_order w.net) position ≡ Some g → slice_get (in_order z.net) other ≡ Some g
      → AreAlike w z (get_or (labelling_of w).departures position []) (get_or (labelling_of z).departures other []) → IsAlikeThere w z position
  alike-there position other g here there alike = record {
    departure = g;
    reports = here;
    alike = λ k at.
        let p = was.terms.passable in
        let one : other ≡ k = in-order-distinct z.net p.departs p.ordered other k g there at in
        subst (λ (n : ℕ). AreAlike w z (get_or (labelling_of w).departures position []) (get_or (labelling_of z).departures n [])) one alike;
  }

  -- an arrival of both, whose pools are the same
  pub same-there : (place other : ℕ) (x : Arrival) → slice_get w.net.arrivals place ≡ Some x → slice_get z.net.arrivals other ≡ Some x
      → AreSame w z (get_or (labelling_of w).arrivals place []) (get_or (labelling_of z).arrivals other []) → IsSameThere w z place
  same-there place other x here there same = record {
    arrival = x;
    releases = here;
    same = λ k at.
        let p = was.terms.passable in
        let one : other ≡ k = arrivals-distinct z.net p.arrives other k x there at in
        subst (λ (n : ℕ). AreSame w z (get_or (labelling_of w).arrivals place []) (get_or (labelling_of z).arrivals n [])) one same;
  }

  -- a duty of both that leaves by a departure whose pools are alike boards alike
  pub board-alike : (rank other : ℕ) (d : Duty) → slice_get w.net.duties rank ≡ Some d → slice_get z.net.duties other ≡ Some d → get_or w.numbers rank 0 ≡ get_or z.numbers other 0
      → IsAlikeThere w z (get_or w.leaves.positions rank 0) → BoardAlike w z rank other
  board-alike rank other d here there number alike =
      let leaves = may.terms.passable.are_positions.exact rank d here in
      let g : alike.departure ≡ departure_of d = some-same (slice_get (in_order w.net) (get_or w.leaves.positions rank 0)) alike.departure (departure_of d) alike.reports leaves in
      let left = was.terms.passable.are_positions.exact other d there in
      record { duty = d; here = here; there = there; number = number; alike = alike.alike (get_or z.leaves.positions other 0) (left ∙ ap Some (sym g)) }

  module _ (stay : StayAlike w z) where
    -- the pool of a departure that waits on the same arrivals
    pub departure-taken : (position other : ℕ) (g : Departure) (a b : Window) → slice_get (in_order w.net) position ≡ Some g → slice_get (in_order z.net) other ≡ Some g
        → IsWindow (λ x. may_wait w.net.settings x g) w.net.arrivals a → IsWindow (λ x. may_wait z.net.settings x g) z.net.arrivals b → WaitAlike w z a b
        → (get_or (labelling_of z).departures other [] ≡ get_or (labelling_of w).departures position []) × IsAlikeThere w z position
    departure-taken position other g a b here there p q wait =
        let same = stay.departures position other g a b here there p q wait in
        (sym same.labels, alike-there position other g here there same.alike)

    -- the front of a duty that boards alike
    pub front-taken : (rank other : ℕ) → BoardAlike w z rank other → get_or (labelling_of z).fronts other [] ≡ get_or (labelling_of w).fronts rank []
    front-taken rank other board = sym (stay.fronts rank other board).labels

    -- what a rest after an arrival goes by whose pool is the same
    pub rest-taken : (place other : ℕ) (x : Arrival) → slice_get w.net.arrivals place ≡ Some x → slice_get z.net.arrivals other ≡ Some x → IsSameThere w z place
        → get_or (labelling_of z).rested other [] ≡ get_or (labelling_of w).rested place []
    rest-taken place other x here there is =
        let one : is.arrival ≡ x = some-same (slice_get w.net.arrivals place) is.arrival x is.releases here in
        sym (stay.rested place other x here there (is.same other (there ∙ ap Some (sym one)))).labels

    -- the pool of an arrival at which the same duties arrive, which board alike
    pub arrival-taken : (place other : ℕ) (x : Arrival) (duties : List ℕ) → slice_get w.net.arrivals place ≡ Some x → slice_get z.net.arrivals other ≡ Some x
        → ((rank there : ℕ) → slice_get duties rank ≡ Some there → there < 200_000 → (d : Duty) × (slice_get w.net.duties rank ≡ Some d) × (slice_get z.net.duties there ≡ Some d) × (get_or w.numbers rank 0 ≡ get_or z.numbers there 0))
        → ArePaired duties (ranks_where (arrives_at x) w.net.duties) (ranks_where (arrives_at x) z.net.duties)
        → ((rank : ℕ) → ArrivesAt w.net place rank → IsAlikeThere w z (get_or w.leaves.positions rank 0))
        → (get_or (labelling_of z).arrivals other [] ≡ get_or (labelling_of w).arrivals place []) × IsSameThere w z place
    arrival-taken place other x duties here there told paired alike =
        let all : AllBoardAlike w z (ranks_where (arrives_at x) w.net.duties) (ranks_where (arrives_at x) z.net.duties) = record {
          long = paired.long;
          each = λ k rank one p q.
              let found = ranks-out (arrives_at x) z.net.duties one (member-got (ranks_where (arrives_at x) z.net.duties) k one q) in
              let within = get-within z.net.duties one found.0 found.1 in
              let few = was.terms.passable.few in
              let twin = told rank one (paired.each k rank one p q) (omega (arith, within, few)) in
              board-alike rank one twin.0 twin.1 twin.2 twin.3 (alike rank (record { arrival = x; releases = here; among = member-got (ranks_where (arrives_at x) w.net.duties) k rank p }));
        } in
        let same = stay.arrivals place other x here there all in
        (sym same.labels, same-there place other x here there same)
