-- Nodes that are untouched, before which the fronts are those that were there.
use Rattle.std.proofs.Common.{◌≡◌, ◌<◌, ◌≤◌, ◌&&◌, ℕ, true, false, List, Some, get_or, refl, sym, subst}
use Rattle.std.specs.Prelude.{slice_get}
use Rattle.std.specs.FinMap as map
use Rattle.crew_dirty.specs.Carried.{Carried, IsCarriedOver}
use Rattle.crew_dirty.specs.Dirty.{IsUntouched}
use Rattle.crew_dirty.specs.Unchanged.{IsUnchanged}
use Rattle.crew_dirty.specs.declared.node_state.NodeState.{NodeState}
use Rattle.crew_dirty.specs.declared.node_state.NodeState.TheVariants.{Same}
use Rattle.crew_dirty.proofs.Nodes.{is-node, own-duty, untouched-at}
use Rattle.crew_flights.specs.Timetable.{Timetable}
use Rattle.crew_net.proofs.ArrivalPlaces.{arrives, own-arrival, ranks-in, ranks-out}
use Rattle.crew_net.proofs.Longest.{stands}
use Rattle.crew_net.specs.Events.{AreEvents, IsWindow, arrival_cmp, arrives_at}
use Rattle.crew_net.specs.Nets.{Net}
use Rattle.crew_net.specs.Ranks.{ranks_where}
use Rattle.crew_net.specs.declared.node.Node.{Node}
use Rattle.crew_net.specs.declared.window.Window.{Window}
use Rattle.crew_pairing.specs.Events.{arrival_of, departure_of, may_wait}
use Rattle.crew_pairing.specs.declared.duty.Duty.{Duty}
use Rattle.crew_pairing.specs.declared.events.Arrival.{Arrival}
use Rattle.crew_resource.specs.Members.{Member}
use Rattle.crew_resource.proofs.Members.{Member-at}

module _ (t u : Timetable) (old new : Net) (c : Carried) (over : IsCarriedOver t u old new c) (b r : ℕ) (node : Node) (d : Duty)
    (base : slice_get new.bases b ≡ Some node.base) (known : slice_get new.duties r ≡ Some d) (key : d.key ≡ node.key) (state : List ℕ → ℕ → NodeState) where
  -- an unchanged node is untouched
  pub is-untouched : IsUnchanged t u old new state node → (get_or c.bases b false && get_or c.same r false) ≡ true
  is-untouched k =
      let one = own-duty t u old new c over b r node d base known key k.duty k.is_node in
      (untouched-at t u old new c over b r node d base known key).1 (subst (λ (e : Duty). IsUntouched old new (map.get t.bases node.base) (map.get u.bases node.base) node.base e) (sym one) k.untouched)

  module _ (w : Window) (window : IsWindow (λ x. may_wait new.settings x (departure_of d)) new.arrivals w) (arrived : AreEvents arrival_of arrival_cmp new.duties new.arrivals) where
    -- whatever arrives in its window stands so
    abbrev pub AreSameIn : Type 0
    AreSameIn = (k rank : ℕ) (x : Arrival) → w.from ≤ k → k < w.end → slice_get new.arrivals k ≡ Some x → Member (ranks_where (arrives_at x) new.duties) rank → state node.base rank ≡ Same

    pub is-unchanged : (get_or c.bases b false && get_or c.same r false) ≡ true → AreSameIn → IsUnchanged t u old new state node
    is-unchanged flags all = record {
      duty = d;
      is_node = is-node t u old new c over b r node d base known key;
      untouched = (untouched-at t u old new c over b r node d base known key).0 flags;
      before = λ rank e at may. (
          let k = stands new.arrivals (arrival_of e) (arrived.every e (Member-at new.duties rank e at)) in
          let inside = (window.exact k.0 (arrival_of e) k.1).0 may in
          all k.0 rank (arrival_of e) inside.0 inside.1 k.1 (ranks-in (arrives_at (arrival_of e)) new.duties rank e at (arrives (arrival_of e) e refl)));
    }

    pub are-same : IsUnchanged t u old new state node → AreSameIn
    are-same same k rank x low high at m =
        let one = own-duty t u old new c over b r node d base known key same.duty same.is_node in
        let e = ranks-out (arrives_at x) new.duties rank m in
        let may = (window.exact k x at).1 (low, high) in
        let its : may_wait new.settings (arrival_of e.0) (departure_of same.duty) ≡ true =
        subst (λ (f : Duty). may_wait new.settings (arrival_of e.0) (departure_of f) ≡ true) one
        (subst (λ (y : Arrival). may_wait new.settings y (departure_of d) ≡ true) (own-arrival x e.0 e.2) may) in
        same.before rank e.0 e.1 its
