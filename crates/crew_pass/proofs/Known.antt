-- What is seen leads to what is seen.
use Rattle.std.proofs.Common.{◌≡◌, ◌∙◌, ◌<◌, ℕ, Bool, true, false, inl, inr, List, [], Option, Some, None, length, map, get_or, refl, sym, ap, subst, arith}
use Rattle.std.specs.Prelude.{◌&&◌, nat_lt, slice_get}
use Rattle.crew_label.specs.Boarding.{LeadInto, waited_label}
use Rattle.crew_label.specs.Pools.{AreCounted}
use Rattle.crew_label.specs.Tables.{Leaving, departure_of, is_known, leads_in, trail_in}
use Rattle.crew_label.specs.Walks.{Leads}
use Rattle.crew_label.specs.declared.label.Label.{Label}
use Rattle.crew_label.specs.declared.label.Link.{Link}
use Rattle.crew_labelling.specs.Candidates.{idle_labels}
use Rattle.crew_labelling.specs.Held.{AreHeld}
use Rattle.crew_labelling.specs.Labellings.{arrival_pool, labelling_of, table_of}
use Rattle.crew_labelling.specs.Terms.{Terms, number_of}
use Rattle.crew_labelling.proofs.Numbered.{departure-told}
use Rattle.crew_labelling.proofs.PoolOf.{pool_from}
use Rattle.crew_labelling.proofs.Right.{arrival-is, arrivals-held, arrivals-link, departures-into, departures-link, departures-linked, departures-long, departures-ready, front-links, fronts-held, rested-of}
use Rattle.crew_net.specs.Events.{arrives_at}
use Rattle.crew_net.specs.Positions.{in_order}
use Rattle.crew_net.proofs.ArrivalPlaces.{ranks-in}
use Rattle.crew_net.proofs.Numbers.{arrival-itself}
use Rattle.crew_net.proofs.Orders.{in-order-long}
use Rattle.crew_net.proofs.Slices.{member-got, member-place, stands}
use Rattle.crew_pairing.specs.Events.{arrival_of}
use Rattle.crew_pairing.specs.declared.duty.Duty.{Duty}
use Rattle.crew_pairing.specs.declared.events.Arrival.{Arrival}
use Rattle.crew_resource.specs.Members.{Member}
use Rattle.crew_resource.proofs.Members.{Member-map_out}
use Rattle.crew_pass.specs.Machinery.Passing.{ArrivesAt, MayWaitAt}
use Rattle.crew_pass.specs.Machinery.Seen.{AreSeen}
use Rattle.crew_pass.specs.Machinery.Shelves.{AreKnown, IsSighted, IsThere, Sighted, pools_seen, sighted}
use Rattle.crew_pass.specs.Machinery.Terms.{MayPass}
use Rattle.crew_pass.specs.declared.seen.Seen.{Seen}
use Rattle.crew_pass.proofs.Shelved.{pools-seen-at, seen-got, there-within}

-- the empty label leads nowhere
pub idle-known : {V : Type 0} (leaves : Leaving) (departures : List (Option (List (Label V)))) (here : Bool) (v : V) → AreKnown leaves departures (idle_labels here v)
idle-known {V} leaves departures true v l (inl e) = subst (λ (z : Label V). Leads (leads_in leaves (pools_seen departures)) z.before) e tt
idle-known leaves departures true v l (inr m) = absurd m
idle-known leaves departures false v l m = absurd m

module _ {R V : Type 0} (w : Terms V) (may : MayPass w) (seen : Seen R V Duty) (is : AreSeen w seen) where
  abbrev Known : Option Link → Type 0
  Known o = Leads (leads_in w.leaves (pools_seen seen.departures)) o

  leads-there : (link : Link) → leads_in w.leaves (labelling_of w).departures link ≡ true → IsThere seen.departures (departure_of w.leaves link.duty)
      → leads_in w.leaves (pools_seen seen.departures) link ≡ true
  leads-there link e there =
      let position = departure_of w.leaves link.duty in
      let same = pools-seen-at (labelling_of w).departures seen.departures is.departures position there in
      ap (λ (p : List (Label V)). is_known w.leaves link.duty && nat_lt link.place (length p)) same ∙ e

  -- the departure of a duty's number is that of its rank
  by-number : (rank : ℕ) (d : Duty) → slice_get w.net.duties rank ≡ Some d → IsThere seen.departures (get_or w.leaves.positions rank 0) → IsThere seen.departures (departure_of w.leaves (number_of w rank))
  by-number rank d known there = subst (λ (n : ℕ). IsThere seen.departures n) (sym (departure-told w may.terms rank d known)) there

  -- a link of a duty whose departure is seen
  front-leads : (rank : ℕ) (d : Duty) → slice_get w.net.duties rank ≡ Some d → (place : ℕ) (o : Option Link) → o ≡ Some (record { duty = number_of w rank; place = place })
      → Leads (leads_in w.leaves (labelling_of w).departures) o → IsThere seen.departures (get_or w.leaves.positions rank 0) → Known o
  front-leads rank d known place o e led there =
      let link : Link = record { duty = number_of w rank; place = place } in
      subst (λ (p : Option Link). Known p) (sym e)
      (leads-there link (subst (λ (p : Option Link). Leads (leads_in w.leaves (labelling_of w).departures) p) e led) (by-number rank d known there))

  -- a duty that arrives there
  arriving : (place : ℕ) (rank : ℕ) (d : Duty) → slice_get w.net.duties rank ≡ Some d → slice_get w.net.arrivals place ≡ Some (arrival_of d) → ArrivesAt w.net place rank
  arriving place rank d known at = record {
    arrival = arrival_of d;
    releases = at;
    among = ranks-in (arrives_at (arrival_of d)) w.net.duties rank d known (arrival-itself (arrival_of d));
  }

  pub front-known : (rank : ℕ) → IsThere seen.fronts rank → (l : Label V) → Member (get_or (labelling_of w).fronts rank []) l → Known l.before
  front-known rank there l m =
      let k = front-links w may.terms may.lawful rank l m in
      front-leads rank k.0 k.2 k.1 l.before k.3 (fronts-held w may.terms may.lawful rank l m).leading (is.boarded rank there)

  -- an arrival's labels, where the departures of its duties are seen
  pub made-arrival-known : (place : ℕ) (x : Arrival) → slice_get w.net.arrivals place ≡ Some x → ((rank : ℕ) → ArrivesAt w.net place rank → IsThere seen.departures (get_or w.leaves.positions rank 0))
      → (l : Label V) → Member (get_or (labelling_of w).arrivals place []) l → Known l.before
  made-arrival-known place x at there l m =
      let k = arrivals-link w may.terms may.lawful place x at l m in
      let arrives = arriving place k.0 k.1 k.3 (at ∙ ap Some (sym k.4)) in
      front-leads k.0 k.1 k.3 k.2 l.before k.5 (arrivals-held w may.terms may.lawful place l m).leading (there k.0 arrives)

  pub arrival-known : (place : ℕ) (x : Arrival) → slice_get w.net.arrivals place ≡ Some x → IsThere seen.arrivals place → (l : Label V) → Member (get_or (labelling_of w).arrivals place []) l → Known l.before
  arrival-known place x at there = made-arrival-known place x at (λ rank arrives. is.gathered place rank there arrives)

  pub rested-known : (place : ℕ) (x : Arrival) → slice_get w.net.arrivals place ≡ Some x → IsThere seen.arrivals place → (l : Label V) → Member (get_or (labelling_of w).rested place []) l → Known l.before
  rested-known place x at there l m =
      let pools = (labelling_of w).departures in
      let labels = arrival_pool w pools x in
      let from = pool_from w.below w.same w.cmp (trail_in w.leaves pools) (map (waited_label w.rest) labels) l (subst (λ (ls : List (Label V)). Member ls l) (rested-of w may.terms place x at) m) in
      let s = Member-map_out (waited_label w.rest) labels l from in
      let k = arrival-known place x at there s.0 (subst (λ (ls : List (Label V)). Member ls s.0) (sym (arrival-is w may.terms place x at)) s.1) in
      subst (λ (z : Label V). Known z.before) s.2 k

  -- a departure's labels, where its arrivals are seen
  pub made-departure-known : (i : ℕ) → i < length w.net.by_report → ((place : ℕ) → MayWaitAt w.net i place → IsThere seen.arrivals place)
      → (l : Label V) → Member (get_or (labelling_of w).departures i []) l → Known l.before
  made-departure-known i within there l m = by-link l.before refl (departures-ready w may.terms may.lawful i l m).leading
    where
      by-link : (o : Option Link) → l.before ≡ o → Leads (leads_in w.leaves (labelling_of w).departures) o → Known o
      by-link None e led = tt
      by-link (Some link) e led =
          let p = may.terms.passable in
          let long = in-order-long w.net p.departs p.ordered in
          let g = stands (in_order w.net) i (omega (arith, within, long)) in
          let k = departures-link w may.terms may.lawful i g.0 g.1 l m link e in
          let at = member-place w.net.arrivals (arrival_of k.1) (p.arrives.every k.1 (member-got w.net.duties k.0 k.1 k.2)) in
          let waits : MayWaitAt w.net i at.0 = record { departure = g.0; arrival = arrival_of k.1; reports = g.1; releases = at.1; may = k.4 } in
          let from = by-number k.0 k.1 k.2 (is.gathered at.0 k.0 (there at.0 waits) (arriving at.0 k.0 k.1 k.2 at.1)) in
          leads-there link led (subst (λ (n : ℕ). IsThere seen.departures (departure_of w.leaves n)) (sym k.3) from)

  pub departure-known : (i : ℕ) → IsThere seen.departures i → (l : Label V) → Member (get_or (labelling_of w).departures i []) l → Known l.before
  departure-known i there =
      let within = there-within seen.departures i there in
      let one = is.departures.long in
      let two = departures-long w may.terms in
      made-departure-known i (omega (arith, within, one, two)) (λ place waits. is.waited i place there waits)

  -- walks can be read from what is seen
  pub all-sighted : IsSighted (sighted w seen.departures)
  all-sighted = record {
    linked = departures-linked w may.terms may.lawful;
    same = λ i k l at.
        let s = seen-got seen.departures i k l at in
        subst (λ (ls : List (Label V)). slice_get ls k ≡ Some l) (is.departures.same i s.0 s.1) s.2;
    known = λ i l m.
        let at = member-place (get_or (pools_seen seen.departures) i []) l m in
        let s = seen-got seen.departures i at.0 l at.1 in
        departure-known i (s.0, s.1) l (subst (λ (ls : List (Label V)). Member ls l) (is.departures.same i s.0 s.1) (member-got s.0 at.0 l s.2));
  }

  -- labels that are seen, as they are counted there
  pub counted-seen : (Bound : ℕ → V → Type 0) (labels : List (Label V)) → AreHeld w Bound (table_of w (labelling_of w)) labels → AreKnown w.leaves seen.departures labels
      → (s : Sighted V) → s ≡ sighted w seen.departures
      → AreCounted w.count (λ link. leads_in s.table.leaves s.seen link) (λ link. trail_in s.table.leaves s.table.pools link) labels
  counted-seen Bound labels held known s same =
      subst (λ (z : Sighted V). AreCounted w.count (λ link. leads_in z.table.leaves z.seen link) (λ link. trail_in z.table.leaves z.table.pools link) labels) (sym same)
      (λ l m. record { leading = known l m; counts = (held l m).entry.counts })

  -- a duty's links lead to the departure that is seen
  pub into-seen : (rank : ℕ) (d : Duty) → slice_get w.net.duties rank ≡ Some d → IsThere seen.departures (get_or w.leaves.positions rank 0)
      → (s : Sighted V) → s ≡ sighted w seen.departures
      → LeadInto (λ link. leads_in s.table.leaves s.seen link) (λ link. trail_in s.table.leaves s.table.pools link) (number_of w rank) rank (get_or (labelling_of w).departures (get_or w.leaves.positions rank 0) [])
  into-seen rank d known there s same =
      let pools = (labelling_of w).departures in
      let i = departures-into w may.terms may.lawful rank d known in
      subst (λ (z : Sighted V). LeadInto (λ link. leads_in z.table.leaves z.seen link) (λ link. trail_in z.table.leaves z.table.pools link) (number_of w rank) rank (get_or pools (get_or w.leaves.positions rank 0) [])) (sym same)
      (record {
        there = λ k l at. leads-there (record { duty = number_of w rank; place = k }) (i.there k l at) (by-number rank d known there);
        walk = λ k l at. i.walk k l at;
      })
