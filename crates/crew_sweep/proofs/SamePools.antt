-- A departure that waits on what another waits on has that one's pool.
use Rattle.std.proofs.Common.{◌≡◌, ◌∙◌, ◌<◌, ◌++◌, ◌∷◌, [], ℕ, Bool, true, List, Option, None, Some, length, map, get_or, inr, sym, ap, subst, ⊎_elim}
use Rattle.std.specs.Prelude.{slice_get}
use Rattle.crew_anchor.specs.declared.resource.AnchoredResource.{AnchoredResource}
use Rattle.crew_net.specs.Machinery.Numbered.{arrival_place}
use Rattle.crew_net.specs.Nets.{Net}
use Rattle.crew_net.specs.Positions.{in_order}
use Rattle.crew_net.specs.declared.window.Window.{Window}
use Rattle.crew_net.proofs.Numbers.{at-arrival}
use Rattle.crew_net.proofs.Orders.{in-order-of}
use Rattle.crew_net.proofs.Slices.{at-within, member-got}
use Rattle.crew_pairing.specs.Events.{arrival_of, may_wait}
use Rattle.crew_pairing.specs.Keys.{walk_at_most}
use Rattle.crew_pairing.specs.Legs.{Leg}
use Rattle.crew_pairing.specs.declared.duty.Duty.{Duty}
use Rattle.crew_pairing.specs.declared.events.Departure.{Departure}
use Rattle.crew_pairing.specs.declared.vector.PairingVector.{PairingVector}
use Rattle.crew_pool.specs.declared.label_walk.LabelWalk.{LabelWalk}
use Rattle.crew_resource.specs.Events.{FromFronts, Network, Views}
use Rattle.crew_resource.specs.Labels.{IsLocal}
use Rattle.crew_resource.specs.Members.{Member}
use Rattle.crew_carry.proofs.crew_step_lemmas.Grown.{grown-itself}
use Rattle.crew_sweep.specs.Machinery.Numbered.{idle_at}
use Rattle.crew_sweep.specs.Machinery.Passing.{IsPassable, IsPassing, passed_network}
use Rattle.crew_sweep.specs.Machinery.Same.{HasSamePool, WaitsOn}
use Rattle.crew_sweep.specs.Sweeps.{keyed}
use Rattle.crew_sweep.proofs.Keepings as keepings
use Rattle.crew_sweep.proofs.KeptSteps.{laid-of, pool-by-key}
use Rattle.crew_sweep.proofs.Renewed as renewed
use Rattle.crew_vector.specs.Dominance.{is_at_most}

abbrev Labels : Type 0
Labels = List (PairingVector × LabelWalk)

abbrev Shown : Type 0
Shown = List (PairingVector × List (List Leg))

no-idle : {A : Type 0} (o : Option A) (x : A) → o ≡ None → o ≡ Some x → ⊥
no-idle o x none some = let q : None ≡ Some x = sym none ∙ some in absurd (let z : ⊥ = (cc) in z)

module _ (net : Net) (positions : List ℕ) (passable : IsPassable net positions) (base : List ℕ) (r : AnchoredResource) (shown-pools : List Shown) where
  abbrev Num : Network Duty PairingVector (List (List Leg)) ℕ ℕ
  Num = passed_network net base r

  abbrev Candidate : ℕ → PairingVector → List (List Leg) → Type 0
  Candidate = FromFronts Num (Views Num shown-pools)

  -- what one waits on the other waits on
  crossed : (i j : ℕ) (g h : Departure) → slice_get (in_order net) i ≡ Some g → slice_get (in_order net) j ≡ Some h → (w : Window) → WaitsOn net base r g w → WaitsOn net base r h w
      → (x : PairingVector) (y : List (List Leg)) → Candidate i x y → Candidate j x y
  crossed i j g h at there w own other x y = ⊎_elim {C = Candidate j x y}
      (λ c. absurd (no-idle (idle_at r base (Some g)) x own.idle (ap (idle_at r base) (sym at) ∙ c.1)))
      (λ c.
      let e = c.0 in
      let m = c.2 in
      let laid = laid-of net positions passable in
      let stands = at-arrival net.arrivals (arrival_of e) (passable.arrives.every e m) in
      let waits : may_wait net.settings (arrival_of e) g ≡ true = sym (renewed.may-wait net laid i g at e m) ∙ c.3 in
      let inside = (own.window.exact (arrival_place net.arrivals (arrival_of e)) (arrival_of e) stands).0 waits in
      let also = (other.window.exact (arrival_place net.arrivals (arrival_of e)) (arrival_of e) stands).1 inside in
      inr (e, c.1, m, renewed.may-wait net laid j h there e m ∙ also, c.4, c.5))

module _ (net : Net) (positions : List ℕ) (passable : IsPassable net positions) (base : List ℕ) (r : AnchoredResource) (walks : List (List ℕ)) (pools : List Labels) (made : List Bool) (held : List Labels) (passing : IsPassing net base r walks pools made held)
    (place : ℕ) (at-place : slice_get net.by_report (length pools) ≡ Some place) (position : ℕ) (short : position < length pools) (same : HasSamePool net base r place position) where
  abbrev now : List Shown
  now = map (keyed net walks) pools

  abbrev pool : Labels
  pool = get_or pools position []

  at : slice_get (in_order net) (length pools) ≡ Some same.event
  at = in-order-of net passable.departs passable.ordered (length pools) place same.event at-place same.at

  member : Member pools pool
  member = member-got pools position pool (at-within pools position [] short)

  local : IsLocal is_at_most walk_at_most (FromFronts (passed_network net base r) (Views (passed_network net base r) now) (length pools)) (keyed net walks pool)
  local =
      let was = passing.swept.pooled position short in
      let own : IsLocal is_at_most walk_at_most (FromFronts (passed_network net base r) (Views (passed_network net base r) now) (length pools)) (get_or now position []) = record {
        among = λ v w m. crossed net positions passable base r now position (length pools) same.before same.event same.before_at at same.window same.before_waits same.waits v w (was.among v w m);
        covers = λ x y c. was.covers x y (crossed net positions passable base r now (length pools) position same.event same.before at same.before_at same.window same.waits same.before_waits x y c);
        alone = was.alone;
      } in
      subst (λ (ls : Shown). IsLocal is_at_most walk_at_most (FromFronts (passed_network net base r) (Views (passed_network net base r) now) (length pools)) ls) (pool-by-key net walks pools position) own

  pub passing-shared : IsPassing net base r walks (pools ++ pool ∷ []) made held
  passing-shared = keepings.passing-with net positions passable base r walks walks (grown-itself walks) pools made held passing pool local (passing.whole pool member) (passing.pooled pool member)
