-- One departure of a network over which a pass may go.
use Rattle.std.proofs.Common.{◌≡◌, ◌<◌, ◌≤◌, ◌++◌, ◌∷◌, ℕ, suc, Bool, ℤ, true, pos, List, [], length, get_or, Option, Some, ap, refl, subst, arith, ◌∙◌}
use Rattle.std.specs.Prelude.{slice_get}
use Rattle.std.specs.Ordering.{eq_by_cmp}
use Rattle.std.proofs.lemmas.Int.{ints}
use Rattle.std.proofs.lemmas.Option.{cond_some}
use Rattle.crew_anchor.specs.Machinery.AnchorLaws.{anchored_bounds}
use Rattle.crew_anchor.specs.Machinery.Bounds.{fits_in, is_ready, may_board}
use Rattle.crew_anchor.specs.Machinery.Values.{near}
use Rattle.crew_anchor.specs.Stages.{anchored_idle}
use Rattle.crew_anchor.specs.declared.resource.AnchoredResource.{AnchoredResource}
use Rattle.crew_flights.specs.Codes.{code_cmp}
use Rattle.crew_net.specs.Events.{IsWindow}
use Rattle.crew_net.specs.Machinery.Moments.{IsReal}
use Rattle.crew_net.specs.Nets.{Net}
use Rattle.crew_net.specs.Positions.{in_order}
use Rattle.crew_net.specs.declared.window.Window.{Window}
use Rattle.crew_net.proofs.Orders.{in-order-of, place-within}
use Rattle.crew_net.proofs.Slices.{at-within, member-got}
use Rattle.crew_pairing.specs.Events.{may_wait}
use Rattle.crew_pairing.specs.declared.duty.Duty.{Duty}
use Rattle.crew_pairing.specs.declared.events.Arrival.{Arrival}
use Rattle.crew_pairing.specs.declared.events.Departure.{Departure}
use Rattle.crew_pairing.specs.declared.vector.PairingVector.{PairingVector}
use Rattle.crew_pool.specs.Counted.{AreCounted}
use Rattle.crew_pool.specs.LabelWalks.{shown}
use Rattle.crew_pool.specs.declared.label_walk.LabelWalk.{LabelWalk}
use Rattle.crew_resource.specs.Members.{Member}
use Rattle.crew_carry.specs.crew_step.Walks.{HasGrown}
use Rattle.crew_sweep.specs.Machinery.Numbered.{idle_at, window_at}
use Rattle.crew_sweep.specs.Machinery.Passing.{AreMade, IsPassable, IsPassing, IsPooled, IsSealed}
use Rattle.crew_sweep.proofs.Before.{sealed-at}
use Rattle.crew_sweep.proofs.Steps as steps

abbrev Labels : Type 0
Labels = List (PairingVector × LabelWalk)

near-real : (m : ℤ) → IsReal m → near m ≡ m
near-real m h = let a = h.least in let b = h.most in grind (arith, ints)

-- the empty label lies within the bound
pub idle-ready : (r : AnchoredResource) (base : List ℕ) (g : Departure) → IsReal g.report → (v : PairingVector) → idle_at r base (Some g) ≡ Some v → is_ready r 0 v
idle-ready r base g real v h =
    let k = cond_some (eq_by_cmp code_cmp g.airport base) (anchored_idle r g.report) v h in
    subst (is_ready r 0) k.1 (subst (λ m. is_ready r 0 (anchored_idle r m)) (near-real g.report real) ((anchored_bounds r).idle_ready g tt))

module _ (net : Net) (positions : List ℕ) (passable : IsPassable net positions) where
  pub within : (i place : ℕ) → slice_get net.by_report i ≡ Some place → place < length net.departures
  within i place h = place-within net passable.departs passable.ordered i place h

  pub departs-at : (i place : ℕ) → slice_get net.by_report i ≡ Some place → (g : Departure) × (slice_get net.departures place ≡ Some g) × (slice_get (in_order net) i ≡ Some g) × IsReal g.report
  departs-at i place h =
      let nowhere : Departure = record { airport = []; report = pos 0 } in
      let g = get_or net.departures place nowhere in
      let at = at-within net.departures place nowhere (within i place h) in
      (g, at, in-order-of net passable.departs passable.ordered i place g h at, passable.real g (member-got net.departures place g at))

  -- nothing more arrives where the departure's window is
  pub window-sealed : (i : ℕ) (g : Departure) → slice_get (in_order net) i ≡ Some g → (w : Window) → IsWindow (λ x. may_wait net.settings x g) net.arrivals w → (p : ℕ) → w.from ≤ p → p < w.end → IsSealed net i p
  window-sealed i g at w window p from end d m arrives =
      let within = window.within in
      let nowhere : Arrival = record { airport = []; release = pos 0 } in
      let a = get_or net.arrivals p nowhere in
      let there = at-within net.arrivals p nowhere (omega (arith, end, within)) in
      sealed-at net passable.departs passable.ordered passable.arrives d i m (passable.sound d m)
      (ap (λ n. window_at net.settings (slice_get net.arrivals n) (slice_get (in_order net) i)) arrives
      ∙ (ap (λ (o : Option Arrival). window_at net.settings o (slice_get (in_order net) i)) there
      ∙ (ap (window_at net.settings (Some a)) at ∙ (window.exact p a there).1 (from, end))))

  pub may-board : (base : List ℕ) (r : AnchoredResource) (walks : List (List ℕ)) (pools : List Labels) (made : List Bool) (held : List Labels) → IsPassing net base r walks pools made held
      → ((n : ℕ) → n ≤ 100_000 → fits_in r n) → r.max_duties ≤ 12 → (pool : Labels) (l : PairingVector × LabelWalk) (d : Duty) → Member pools pool → Member pool l → Member net.duties d → may_board l.0 d
  may-board base r walks pools made held passing fits most pool l d known m k =
      let label = passing.pooled pool known l m in
      let few = label.few in
      (anchored_bounds r).boards (length (shown walks l).1) l.0 d (passable.sound d k) (fits (suc (length (shown walks l).1)) (omega (arith, few, most))) label.ready

  pub passed : (base : List ℕ) (r : AnchoredResource) (before after : List (List ℕ)) → HasGrown before after → (pools : List Labels) (made : List Bool) (held : List Labels) → IsPassing net base r before pools made held
      → (place : ℕ) → slice_get net.by_report (length pools) ≡ Some place → (w : Window) → ((g : Departure) → slice_get net.departures place ≡ Some g → IsWindow (λ x. may_wait net.settings x g) net.arrivals w) → AreMade made w
      → (pool : Labels) → IsPooled net base r before after place w held pool → AreCounted (λ (v : PairingVector). v.duties) after true pool → IsPassing net base r after (pools ++ pool ∷ []) made held
  passed base r before after grown pools made held passing place at w window are-made pool pooled counts =
      let g = departs-at (length pools) place at in
      steps.passing-more net positions passable base r before after grown pools made held passing g.0 g.2 w (window g.0 g.1) (idle_at r base (Some g.0)) refl (idle-ready r base g.0 g.3) pool (pooled g.0 g.1) counts are-made
