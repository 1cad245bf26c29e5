-- Windows of arrivals at their twins, and the duties that may be waited on.
use Rattle.std.proofs.Common.{◌≡◌, ◌+◌, ◌-◌, ◌∙◌, ℕ, true, sym, ap, subst, arith}
use Rattle.std.specs.Prelude.{slice_get}
use Rattle.crew_carry.specs.Twins.{AreTwins, HasAllTwins, HaveSameArriving, Twins}
use Rattle.crew_carry.proofs.Pushed.{some-is}
use Rattle.crew_dirty.specs.Machinery.Windows.{AreTwinWindows, WaitsAlike}
use Rattle.crew_dirty.proofs.Aligned.{StandsToo, no-longer, side-by-side}
use Rattle.crew_dirty.proofs.Arrivals.{arrivals-not-both}
use Rattle.crew_net.proofs.InTime.{item-at}
use Rattle.crew_net.proofs.Longest.{stands}
use Rattle.crew_net.specs.Events.{AreEvents, IsWindow, arrival_cmp}
use Rattle.crew_net.specs.Nets.{Net}
use Rattle.crew_net.specs.declared.window.Window.{Window}
use Rattle.crew_pairing.specs.Events.{arrival_of, may_wait}
use Rattle.crew_pairing.specs.declared.events.Arrival.{Arrival}
use Rattle.crew_pairing.specs.declared.events.Departure.{Departure}
use Rattle.crew_resource.specs.Members.{Member}
use Rattle.crew_resource.proofs.Members.{Member-at}

module _ (old new : Net) (settings : old.settings ≡ new.settings) (t : Twins) (twins : AreTwins old new t)
    (arrives : AreEvents arrival_of arrival_cmp new.duties new.arrivals) (arrived : AreEvents arrival_of arrival_cmp old.duties old.arrivals)
    (g : Departure) (now was : Window) (is-now : IsWindow (λ x. may_wait new.settings x g) new.arrivals now) (is-was : IsWindow (λ x. may_wait old.settings x g) old.arrivals was) where
  old-wait : (x : Arrival) → may_wait new.settings x g ≡ true → may_wait old.settings x g ≡ true
  old-wait x h = subst (λ s. may_wait s x g ≡ true) (sym settings) h

  new-wait : (x : Arrival) → may_wait old.settings x g ≡ true → may_wait new.settings x g ≡ true
  new-wait x h = subst (λ s. may_wait s x g ≡ true) settings h

  -- where the windows are twins the same duties may be waited on
  pub alike : AreTwinWindows t.arrivals now was → WaitsAlike old new g
  alike same e may = (
    λ m. (
        let q = stands old.arrivals (arrival_of e) (arrived.every e m) in
        let inside = (is-was.exact q.0 (arrival_of e) q.1).0 (old-wait (arrival_of e) may) in
        let k : ℕ = q.0 - was.from in
        let long = same.long in
        let low = inside.0 in
        let high = inside.1 in
        let at : was.from + k ≡ q.0 = omega (arith, low) in
        let twin = twins.arrivals (now.from + k) (was.from + k) (same.twins k (omega (arith, low, high, long))) in
        let one : twin.0 ≡ arrival_of e = some-is old.arrivals q.0 twin.0 (arrival_of e) (ap (slice_get old.arrivals) (sym at) ∙ twin.1) q.1 in
        (twin.3 e (sym one)).0 m),
    λ m. (
        let p = stands new.arrivals (arrival_of e) (arrives.every e m) in
        let inside = (is-now.exact p.0 (arrival_of e) p.1).0 may in
        let k : ℕ = p.0 - now.from in
        let low = inside.0 in
        let high = inside.1 in
        let at : now.from + k ≡ p.0 = omega (arith, low) in
        let twin = twins.arrivals (now.from + k) (was.from + k) (same.twins k (omega (arith, low, high))) in
        let one : twin.0 ≡ arrival_of e = some-is new.arrivals p.0 twin.0 (arrival_of e) (ap (slice_get new.arrivals) (sym at) ∙ twin.2) p.1 in
        (twin.3 e (sym one)).1 m),
  )

  -- and where these may, the windows are twins
  module _ (all : HasAllTwins old new t) (waits : WaitsAlike old new g) where
    same-arriving : (x : Arrival) → may_wait new.settings x g ≡ true → HaveSameArriving old new x
    same-arriving x may d e = let w = waits d (subst (λ (y : Arrival). may_wait new.settings y g ≡ true) (sym e) may) in (w.0, w.1)

    forth : StandsToo new.arrivals old.arrivals now.from now.end was.from was.end
    forth p low high =
        let within = is-now.within in
        let x = item-at new.arrivals p (omega (arith, high, within)) in
        let may = (is-now.exact p x.0 x.1).1 (low, high) in
        let d = arrives.some x.0 (Member-at new.arrivals p x.0 x.1) in
        let there = (waits d.0 (subst (λ (y : Arrival). may_wait new.settings y g ≡ true) (sym d.2) may)).1 d.1 in
        let q = stands old.arrivals x.0 (subst (Member old.arrivals) d.2 (arrived.every d.0 there)) in
        let inside = (is-was.exact q.0 x.0 q.1).0 (old-wait x.0 may) in
        (q.0, x.0, inside.0, inside.1, x.1, q.1)

    back : StandsToo old.arrivals new.arrivals was.from was.end now.from now.end
    back q low high =
        let within = is-was.within in
        let x = item-at old.arrivals q (omega (arith, high, within)) in
        let may = new-wait x.0 ((is-was.exact q x.0 x.1).1 (low, high)) in
        let d = arrived.some x.0 (Member-at old.arrivals q x.0 x.1) in
        let there = (waits d.0 (subst (λ (y : Arrival). may_wait new.settings y g ≡ true) (sym d.2) may)).0 d.1 in
        let p = stands new.arrivals x.0 (subst (Member new.arrivals) d.2 (arrives.every d.0 there)) in
        let inside = (is-now.exact p.0 x.0 p.1).0 may in
        (p.0, x.0, inside.0, inside.1, x.1, p.1)

    pub are-twins : AreTwinWindows t.arrivals now was
    are-twins =
        let low = is-now.ordered in
        let old-low = is-was.ordered in
        let a = no-longer arrival_cmp arrivals-not-both new.arrivals old.arrivals now.from now.end was.from was.end arrives.rising arrived.rising forth back in
        let b = no-longer arrival_cmp arrivals-not-both old.arrivals new.arrivals was.from was.end now.from now.end arrived.rising arrives.rising back forth in
        record {
          long = omega (arith, a, b);
          twins = λ k h. (
              let s = side-by-side arrival_cmp arrivals-not-both new.arrivals old.arrivals now.from now.end was.from was.end arrives.rising arrived.rising forth back k (omega (arith, h, low)) in
              let may = (is-now.exact (now.from + k) s.0 s.1).1 (omega arith, omega (arith, h, low)) in
              all.arrivals (now.from + k) (was.from + k) s.0 s.2 s.1 (same-arriving s.0 may));
        }
