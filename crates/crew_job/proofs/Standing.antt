-- Nodes that stand in a round as they stood in the version before it.
use Rattle.std.proofs.Common.{◌≡◌, ◌∙◌, ℤ, true, [], List, ℕ, Option, refl, sym, ap, subst}
use Rattle.std.specs.FinMap as fin
use Rattle.crew_dirty.proofs.Fronts.{front-stays}
use Rattle.crew_dirty.proofs.Nodes.{one-duty}
use Rattle.crew_dirty.proofs.Paths.{path-none}
use Rattle.crew_dirty.specs.Dirty as Dirty
use Rattle.crew_dirty.specs.Dirty.{IsNetOver}
use Rattle.crew_flights.specs.Timetable.{Timetable}
use Rattle.crew_job.proofs.Planned.{data-sound, duty-legal, legal-duty, net-bases, net-duties, net-settings, sealed-sound}
use Rattle.crew_job.proofs.Works.{own-from, own-work, some-work}
use Rattle.crew_job.specs.Grounds.{Ground, IsGround, data_of, sealed_data_of}
use Rattle.crew_job.specs.Shown.{IsAsSealed}
use Rattle.crew_machine.proofs.Alike.{same-front-of}
use Rattle.crew_machine.proofs.CrewLaws.{crew-laws}
use Rattle.crew_machine.proofs.NodeList.{has-price}
use Rattle.crew_machine.specs.Crew.{DutyNode, Entries, Inputs, IsFrontOf, IsNodeOf, MayPrecede, crew}
use Rattle.crew_machine.specs.Worlds.{IsBefore, IsUnreached, IsUntouched}
use Rattle.crew_net.specs.Nets.{Net}
use Rattle.crew_pairing.specs.Duties.{AreDuties, HasFew, flights_of}
use Rattle.crew_pairing.specs.Pairings.{IsDuty, may_stand_after}
use Rattle.crew_pairing.specs.declared.duty.Duty.{Duty}
use Rattle.crew_resource.specs.Members.{Member}
use Rattle.crew_rules.specs.declared.settings.Settings.{Settings}

module _ (g : Ground) (is : IsGround g) where
  abbrev s : Settings
  s = g.settings

  abbrev t : Timetable
  t = sealed_data_of g

  abbrev u : Timetable
  u = data_of g

  -- a front that is the same in both
  pub as-sealed-by-front : (n : DutyNode) (f : Entries) → IsNodeOf s t n → IsFrontOf s t n f → IsFrontOf s u n f → IsAsSealed g n
  as-sealed-by-front n f there old new = record {
    there = there;
    front = λ h x. subst (IsFrontOf s u n) (same-front-of s is.checked t n f h old x) new;
  }

  -- no change reaches the node
  pub as-sealed-unreached : (n : DutyNode) → IsNodeOf s u n → IsUnreached (crew s) t u n → IsAsSealed g n
  as-sealed-unreached n here clear = record {
    there = (clear n [] here refl).there;
    front = λ f x. (crew-laws s is.checked).carried g.sealed.entries g.entries n f here clear x;
  }

  sealed-few : HasFew s t
  sealed-few = subst (λ (z : Settings). HasFew z t) (sym is.settings) is.right.few

  -- the node is as it was, and so are the fronts of the nodes just before it
  pub as-sealed-untouched : (n : DutyNode) → IsNodeOf s u n → IsUntouched (crew s) t u n → ((p : DutyNode) → IsBefore (crew s) u p n → IsAsSealed g p) → IsAsSealed g n
  as-sealed-untouched n here own before =
      let w = some-work s is.checked t (sealed-sound g is) sealed-few n in
      let price : fin.get t.bases n.base ≡ fin.get u.bases n.base = ap (λ (i : Inputs). i.price) own.input in
      let arc : (e : Duty) → may_stand_after s e n.duty ≡ true → MayPrecede s (record { base = n.base; duty = e }) n = λ e may. record { base = refl; rested = may } in
      let to : (e : Duty) → may_stand_after s e n.duty ≡ true → IsDuty s (flights_of t) e → IsDuty s (flights_of u) e = λ e may legal.
      ((own.before (record { base = n.base; duty = e }) (arc e may)).0 (record { price = own.there.price; based = own.there.based; legal = legal })).legal in
      let from : (e : Duty) → may_stand_after s e n.duty ≡ true → IsDuty s (flights_of u) e → IsDuty s (flights_of t) e = λ e may legal.
      ((own.before (record { base = n.base; duty = e }) (arc e may)).1 (record { price = here.price; based = here.based; legal = legal })).legal in
      let fronts : (p : DutyNode) (x y : Entries) → IsBefore (crew s) u p n → IsFrontOf s t p x → IsFrontOf s u p y → x ≡ y = λ p x y b f h.
      same-front-of s is.checked u p x y ((before p b).front x f) h in
      let new : own-work s u w.0 =
      own-from s is.checked t u (data-sound g is) w.0
      (subst (λ (z : DutyNode). fin.get t.bases z.base ≡ fin.get u.bases z.base) (sym w.1) price)
      (subst (λ (z : DutyNode). (e : Duty) → may_stand_after s e z.duty ≡ true → IsDuty s (flights_of t) e → IsDuty s (flights_of u) e) (sym w.1) to)
      (subst (λ (z : DutyNode). (e : Duty) → may_stand_after s e z.duty ≡ true → IsDuty s (flights_of u) e → IsDuty s (flights_of t) e) (sym w.1) from)
      (subst (λ (z : DutyNode). (p : DutyNode) (x y : Entries) → IsBefore (crew s) u p z → IsFrontOf s t p x → IsFrontOf s u p y → x ≡ y) (sym w.1) fronts)
      w.2 in
      let old_node : IsNodeOf s t w.0.node = subst (IsNodeOf s t) (sym w.1) own.there in
      let new_node : IsNodeOf s u w.0.node = subst (IsNodeOf s u) (sym w.1) here in
      record {
        there = own.there;
        front = λ f x.
            let local = (crew-laws s is.checked).local_out g.sealed.entries w.0 f old_node w.2 (subst (λ (z : DutyNode). IsFrontOf s t z f) (sym w.1) x) in
            subst (λ (z : DutyNode). IsFrontOf s u z f) w.1 ((crew-laws s is.checked).local_in g.entries w.0 f new_node new local);
      }

  -- what a network shows as untouched is
  module _ (old : Net) (settings : old.settings ≡ s) (over : IsNetOver t old) (code : List ℕ) (d : Duty) where
    abbrev n : DutyNode
    n = record { base = code; duty = d }

    old-duties : AreDuties s t old.duties
    old-duties = subst (λ (z : Settings). AreDuties z t old.duties) settings over.duties

    old-legal : (e : Duty) → Member old.duties e → IsDuty s (flights_of t) e
    old-legal e m = old-duties.sound e m

    legal-old : (e : Duty) → IsDuty s (flights_of t) e → Member old.duties e
    legal-old e legal = subst (Member old.duties) (sym legal.3) (old-duties.every legal.0 legal.1 legal.2)

    pub untouched-by-net : Dirty.IsUntouched old g.plan.net (fin.get t.bases code) (fin.get u.bases code) code d → IsUntouched (crew s) t u n
    untouched-by-net h =
        let price = has-price t code (subst (λ (l : List (List ℕ)). Member l code) over.bases h.0.there) in
        let same : fin.get t.bases code ≡ fin.get u.bases code = h.0.price in
        let moved : (e : Duty) → may_stand_after s e d ≡ true → may_stand_after g.plan.net.settings e d ≡ true = λ e may. subst (λ (z : Settings). may_stand_after z e d ≡ true) (sym (net-settings g is)) may in
        record {
          there = record { price = price.0; based = price.1; legal = old-legal d h.1.there };
          input = ap (λ (z : Option ℤ). let i : Inputs = record { settings = s; price = z } in i) same;
          before = λ p arc. (
            λ x. record { price = x.price; based = ap (fin.get u.bases) arc.base ∙ (sym same ∙ (ap (fin.get t.bases) (sym arc.base) ∙ x.based)); legal = duty-legal g is p.duty ((h.1.before p.duty (moved p.duty arc.rested)).0 (legal-old p.duty x.legal)) },
            λ x. record { price = x.price; based = ap (fin.get t.bases) arc.base ∙ (same ∙ (ap (fin.get u.bases) (sym arc.base) ∙ x.based)); legal = old-legal p.duty ((h.1.before p.duty (moved p.duty arc.rested)).1 (legal-duty g is p.duty x.legal)) },
          );
        }

    here : Member g.plan.net.bases code → Member g.plan.net.duties d → IsNodeOf s u n
    here b m =
        let price = has-price u code (subst (λ (l : List (List ℕ)). Member l code) (net-bases g is) b) in
        record { price = price.0; based = price.1; legal = duty-legal g is d m }

    pub as-sealed-by-net : Member g.plan.net.bases code → Member g.plan.net.duties d → Dirty.IsUntouched old g.plan.net (fin.get t.bases code) (fin.get u.bases code) code d → ((p : DutyNode) → IsBefore (crew s) u p n → IsAsSealed g p) → IsAsSealed g n
    as-sealed-by-net b m own before = as-sealed-untouched n (here b m) (untouched-by-net own) before

    -- and what it shows as unreached is as it was
    unreached-by-net : Member g.plan.net.duties d → Dirty.IsUnreached old g.plan.net (fin.get t.bases code) (fin.get u.bases code) code d → IsAsSealed g n
    unreached-by-net m clear =
        let own = clear d [] (path-none g.plan.net d m) in
        record {
          there = (untouched-by-net own).there;
          front = λ f x. record {
            price = x.price;
            based = sym own.0.price ∙ x.based;
            front = front-stays s t u old g.plan.net is.checked (sealed-sound g is) (data-sound g is) old-duties (net-duties g is) (net-settings g is) (fin.get t.bases code) (fin.get u.bases code) code x.price d m clear f x.front;
            rises = x.rises;
          };
        }

    pub as-sealed-kept : Member g.plan.net.duties d → Dirty.IsKept t u old g.plan.net (record { base = code; key = d.key }) → IsAsSealed g n
    as-sealed-kept m kept =
        let same : kept.duty ≡ d = one-duty g.plan.net.duties (net-duties g is).rising kept.duty d kept.is_node.duty m kept.is_node.key in
        unreached-by-net m (subst (λ (e : Duty). Dirty.IsUnreached old g.plan.net (fin.get t.bases code) (fin.get u.bases code) code e) same kept.unreached)
