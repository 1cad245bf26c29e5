-- One labelling is right.
use Rattle.std.proofs.Common.{◌≡◌, ◌∙◌, ◌<◌, ◌≤◌, ◌+◌, ◌++◌, ℕ, zero, suc, List, [], ◌∷◌, Some, length, map, take, drop, get_or, refl, sym, ap, subst, arith}
use Rattle.std.specs.Prelude.{slice_get}
use Rattle.std.proofs.lemmas.List.{length-map, take-append-drop, take_all, take_more}
use Rattle.crew_label.specs.Pools.{AreRising}
use Rattle.crew_label.specs.declared.label.Label.{Label}
use Rattle.crew_net.specs.Positions.{departure_at, in_order}
use Rattle.crew_net.proofs.Numbers.{get-within}
use Rattle.crew_net.proofs.Orders.{in-order-long}
use Rattle.crew_net.proofs.Slices.{get-at, member-place, stands}
use Rattle.crew_pairing.specs.declared.events.Arrival.{Arrival}
use Rattle.crew_pairing.specs.declared.events.Departure.{Departure}
use Rattle.crew_resource.specs.Members.{Member}
use Rattle.crew_labelling.specs.Candidates.{AreGathered, Arrives, IsRested, Waits}
use Rattle.crew_labelling.specs.Held.{AreReady, trail_of}
use Rattle.crew_labelling.specs.Labellings.{Labelling, arrival_pool, departure_pool, front_of, fronts_of, labelling_by, labelling_of, pools_upto, rested_pool, table_of}
use Rattle.crew_labelling.specs.Right.{IsRight}
use Rattle.crew_labelling.specs.Terms.{AreLawful, AreTerms, Terms}
use Rattle.crew_labelling.proofs.After.{departure-stays}
use Rattle.crew_labelling.proofs.Only.{arrival-only, departure-only, front-only, rested-only}
use Rattle.crew_labelling.proofs.Sound.{AreSound, tabled}
use Rattle.crew_labelling.proofs.Stages.{arrival-gathered, arrival-held, arrival-rises, departure-gathered, departure-ready, departure-rises, front-at, front-held, front-is, front-rises, fronts-long, made-at, rested-is, rested-rises}
use Rattle.crew_labelling.proofs.Upto.{leaves-before, next-is, upto-long, upto-sound}

-- lists of as many lists that are the same at each place
same-lists : {A : Type 0} (xs ys : List (List A)) → length xs ≡ length ys → ((i : ℕ) → i < length xs → get_or xs i [] ≡ get_or ys i []) → xs ≡ ys
same-lists [] [] e f = refl
same-lists [] (y ∷ ys) e f = absurd (omega (arith, e))
same-lists (x ∷ xs) [] e f = absurd (omega (arith, e))
same-lists (x ∷ xs) (y ∷ ys) e f =
    ap (λ z. z ∷ xs) (f 0 (omega arith)) ∙ ap (λ zs. y ∷ zs) (same-lists xs ys (omega (arith, e)) (λ i h. f (suc i) (omega (arith, h))))

module _ {V : Type 0} (w : Terms V) (terms : AreTerms w) (lawful : AreLawful w) (y : Labelling V) (right : IsRight w y) where
  abbrev pools : List (List (Label V))
  pools = y.departures

  -- a departure stands at each position
  there : (i : ℕ) → i < length pools → (g : Departure) × (slice_get (in_order w.net) i ≡ Some g)
  there i h =
      let long = right.departures_long in
      let all = in-order-long w.net terms.passable.departs terms.passable.ordered in
      stands (in_order w.net) i (omega (arith, h, long, all))

  at-each : (P : List (Label V) → Type 0) → ((i : ℕ) (g : Departure) → slice_get (in_order w.net) i ≡ Some g → P (get_or pools i [])) → (labels : List (Label V)) → Member pools labels → P labels
  at-each P each labels m =
      let place = member-place pools labels m in
      let g = there place.0 (get-within pools place.0 labels place.1) in
      subst P (get-at pools place.0 labels [] place.1) (each place.0 g.0 g.1)

  sound : AreSound w pools
  sound = record {
    linked = right.linked;
    ready = at-each (AreReady w (tabled w pools)) (λ i g at. (right.departures i g at).ready);
    rise = at-each (AreRising w.cmp) (λ i g at. (right.departures i g at).rises);
  }

  -- its fronts are what its pools of departures make
  same-fronts : y.fronts ≡ fronts_of w pools
  same-fronts =
      let long = right.fronts_long in
      same-lists y.fronts (fronts_of w pools) (long ∙ sym (fronts-long w pools)) (λ rank h.
      let d = stands w.net.duties rank (omega (arith, h, long)) in
      sym (front-only w terms lawful y right rank d.0 d.1 (front_of w pools rank d.0)
      (record { rises = front-rises w terms lawful pools sound rank d.0 d.1; held = front-held w terms lawful pools sound rank d.0 d.1; front = front-is w terms lawful pools sound rank d.0 d.1 }))
      ∙ sym (front-at w pools rank d.0 d.1))

  -- and so are the pools of arrivals
  same-arrival : (place : ℕ) (x : Arrival) → slice_get w.net.arrivals place ≡ Some x → get_or y.arrivals place [] ≡ arrival_pool w pools x
  same-arrival place x at = sym (arrival-only w terms lawful y right place x at (arrival_pool w pools x) (record {
    rises = arrival-rises w terms lawful pools sound x;
    held = arrival-held w terms lawful pools sound x;
    gathered = subst (λ (fs : List (List (Label V))). AreGathered w (trail_of (table_of w y)) (Arrives w.net (trail_of (table_of w y)) fs x) (arrival_pool w pools x)) (sym same-fronts) (arrival-gathered w terms lawful pools sound x);
  }))

  same-arrivals : y.arrivals ≡ map (arrival_pool w pools) w.net.arrivals
  same-arrivals =
      let long = right.arrivals_long in
      same-lists y.arrivals (map (arrival_pool w pools) w.net.arrivals) (long ∙ sym (length-map w.net.arrivals (arrival_pool w pools))) (λ place h.
      let x = stands w.net.arrivals place (omega (arith, h, long)) in
      same-arrival place x.0 x.1 ∙ sym (made-at (arrival_pool w pools) w.net.arrivals place x.0 x.1))

  same-rested : y.rested ≡ map (rested_pool w pools) w.net.arrivals
  same-rested =
      let long = right.rested_long in
      same-lists y.rested (map (rested_pool w pools) w.net.arrivals) (long ∙ sym (length-map w.net.arrivals (rested_pool w pools))) (λ place h.
      let x = stands w.net.arrivals place (omega (arith, h, long)) in
      sym (rested-only w terms lawful y right place x.0 x.1 (rested_pool w pools x.0) (record {
        rises = rested-rises w terms lawful pools sound x.0;
        rested = subst (λ (ls : List (Label V)). IsRested w (table_of w y) ls (rested_pool w pools x.0)) (sym (same-arrival place x.0 x.1)) (rested-is w terms lawful pools sound x.0);
      }))
      ∙ sym (made-at (rested_pool w pools) w.net.arrivals place x.0 x.1))

  -- and the pool of each departure
  same-departure : (i : ℕ) (g : Departure) → slice_get (in_order w.net) i ≡ Some g → get_or pools i [] ≡ departure_pool w pools g
  same-departure i g at = sym (departure-only w terms lawful y right i g at (departure_pool w pools g) (record {
    rises = departure-rises w terms lawful pools sound g;
    ready = departure-ready w terms lawful pools sound g;
    gathered = subst (λ (hs : List (List (Label V))). AreGathered w (trail_of (table_of w y)) (Waits w (trail_of (table_of w y)) hs g) (departure_pool w pools g)) (sym same-arrivals) (departure-gathered w terms lawful pools sound g);
  }))

  -- which its first pools make too, one after another
  first-pools : (i : ℕ) → i ≤ length pools → take i pools ≡ pools_upto w i
  first-pools zero h = refl
  first-pools (suc i) h =
      let g = there i (omega (arith, h)) in
      let first = pools_upto w i in
      let rest = drop i pools in
      let before = first-pools i (omega (arith, h)) in
      let whole : first ++ rest ≡ pools = ap (λ (ps : List (List (Label V))). ps ++ rest) (sym before) ∙ take-append-drop i pools in
      let long = upto-long w terms i in
      let stays = departure-stays w terms lawful first rest (upto-sound w terms lawful i) g.0 (λ x waits rank d known is. let k = leaves-before w terms i g.0 g.1 x waits rank d known is in omega (arith, k, long)) in
      let own : get_or pools i [] ≡ departure_pool w first (departure_at w.net.departures (get_or w.net.by_report i 0)) =
      same-departure i g.0 g.1
      ∙ (ap (λ (ps : List (List (Label V))). departure_pool w ps g.0) (sym whole)
      ∙ (stays ∙ ap (departure_pool w first) (sym (next-is w terms i g.0 g.1)))) in
      let one : suc i ≡ i + 1 = omega arith in
      ap (λ (k : ℕ). take k pools) one
      ∙ (take_more pools i [] (omega (arith, h))
      ∙ (ap (λ (ps : List (List (Label V))). ps ++ get_or pools i [] ∷ []) before ∙ ap (λ (p : List (Label V)). first ++ p ∷ []) own))

  same-pools : pools ≡ pools_upto w (length w.net.by_report)
  same-pools =
      let long = right.departures_long in
      sym (take_all (length w.net.by_report) pools (omega (arith, long))) ∙ first-pools (length w.net.by_report) (omega (arith, long))

  same-by : y ≡ labelling_by w pools
  same-by =
      ap {B = Labelling V} (λ a. record { departures = pools; arrivals = a; rested = y.rested; fronts = y.fronts }) same-arrivals
      ∙ (ap {B = Labelling V} (λ r. record { departures = pools; arrivals = map (arrival_pool w pools) w.net.arrivals; rested = r; fronts = y.fronts }) same-rested
      ∙ ap {B = Labelling V} (λ f. record { departures = pools; arrivals = map (arrival_pool w pools) w.net.arrivals; rested = map (rested_pool w pools) w.net.arrivals; fronts = f }) same-fronts)

  -- a labelling that is right is the labelling
  pub the-labelling : y ≡ labelling_of w
  unfolding labelling_of
  the-labelling = same-by ∙ ap (labelling_by w) same-pools
