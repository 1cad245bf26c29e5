-- Where the version before a round leaves as the round does.
use Rattle.std.proofs.Common.{◌≡◌, ◌∙◌, ℕ, ℤ, List, Some, sym, ap, subst}
use Rattle.std.specs.Prelude.{slice_get}
use Rattle.std.specs.FinMap as fin
use Rattle.crew_job.proofs.BaseSweeps.{priced-at}
use Rattle.crew_job.proofs.Planned.{data-sound, legal-duty, net-duties, net-settings}
use Rattle.crew_job.specs.Grounds.{Ground, IsGround, data_of, sealed_data_of}
use Rattle.crew_job.specs.Shown.{LeavesAsSealed}
use Rattle.crew_machine.specs.Crew.{DutyNode, IsNodeOf}
use Rattle.crew_net.specs.Nets.{Net}
use Rattle.crew_pairing.specs.Duties.{AreDuties, flights_of}
use Rattle.crew_pairing.specs.Events.{departure_of}
use Rattle.crew_pairing.specs.Pairings.{IsDuty}
use Rattle.crew_pairing.specs.declared.duty.Duty.{Duty}
use Rattle.crew_pairing.specs.declared.events.Departure.{Departure}
use Rattle.crew_resource.specs.Members.{Member}
use Rattle.crew_rules.specs.declared.settings.Settings.{Settings}
use Rattle.crew_version.specs.crew_plan.Plans.{AreFrontsIn}
use Rattle.crew_version.specs.crew_plan.Solutions.{HasNetOf, Solution, front_of}
use Rattle.crew_version.specs.crew_fronts.Fronts.{BaseFronts, ShowsFronts, front_at}
use Rattle.crew_dirty.proofs.crew_answers_lemmas.Unique.{same-listed}
use Rattle.crew_dirty.specs.crew_answers.Bests.{AreFronts}
use Rattle.crew_dirty.specs.crew_answers.Fronts.{IsFrontAt, RiseByVector}
use Rattle.crew_job.proofs.SealedNodes.{net-of-node}

some-same : {X : Type 0} (x y : X) → Some x ≡ Some y → x ≡ y
some-same x y e = cc

-- a ground with a base's sweep, and the version before with the fronts of that base; both show the
-- same where duties leave at a departure
module _ (g : Ground) (is : IsGround g) (base : ℕ) (b : BaseFronts) (sweep : AreFrontsIn g.plan base b)
    (solution : Solution) (before : BaseFronts) (shown : AreFronts g.settings (sealed_data_of g) (front_of solution))
    (network : HasNetOf g.settings (sealed_data_of g) solution) (held : before.net ≡ solution.net)
    (fronts : (d : Duty) → front_of solution b.base d ≡ front_at before d) (at : Departure)
    (same : (d : Duty) → departure_of d ≡ at → Member b.net.duties d → Member before.net.duties d → front_at b d ≡ front_at before d) where
  abbrev pair : List ℕ × ℤ
  pair = sweep.0

  -- what the sweep shows is the front
  swept : (n : DutyNode) → n.base ≡ b.base → IsNodeOf g.settings (data_of g) n → IsFrontAt g.settings (data_of g) n.base b.price n.duty (front_at b n.duty) × RiseByVector (front_at b n.duty)
  swept n own is-node =
      let t = data_of g in
      let settings : b.net.settings ≡ g.settings = ap (λ (z : Net). z.settings) sweep.2.same ∙ net-settings g is in
      let duties : AreDuties g.plan.net.settings t g.plan.net.duties = subst (λ (z : Settings). AreDuties z t g.plan.net.duties) (sym (net-settings g is)) (net-duties g is) in
      let shows : ShowsFronts t b = sweep.2.fronts t (data-sound g is) is.planned.dated duties in
      let legal : IsDuty b.net.settings (flights_of t) n.duty = subst (λ (z : Settings). IsDuty z (flights_of t) n.duty) (sym settings) is-node.legal in
      let both = shows n.duty legal in (
        subst (λ (z : List ℕ). IsFrontAt g.settings t z b.price n.duty (front_at b n.duty)) (sym own)
            (subst (λ (z : Settings). IsFrontAt z t b.base b.price n.duty (front_at b n.duty)) settings both.0),
        both.1,
      )

  -- at the base's price
  priced : (n : DutyNode) → n.base ≡ b.base → (price : ℤ) → fin.get (data_of g).bases n.base ≡ Some price → price ≡ b.price
  priced n own price based =
      let t = data_of g in
      let entry : slice_get (fin.entries t.bases) base ≡ Some pair = subst (λ (l : List (List ℕ × ℤ)). slice_get l base ≡ Some pair) is.planned.prices sweep.1 in
      let code : n.base ≡ pair.0 = own ∙ ap (λ (z : List ℕ × ℤ). z.0) sweep.2.own in
      let held : fin.get t.bases n.base ≡ Some pair.1 = subst (λ (z : List ℕ). fin.get t.bases z ≡ Some pair.1) (sym code) (priced-at t base pair.0 pair.1 entry) in
      some-same price pair.1 (sym based ∙ held) ∙ sym (ap (λ (z : List ℕ × ℤ). z.1) sweep.2.own)

  pub leaves-as-sealed : LeavesAsSealed g b.base at
  leaves-as-sealed n own leaves new old f front =
      let s = g.settings in
      let t = data_of g in
      let u = sealed_data_of g in
      let d = n.duty in
      let by-sweep = swept n own new in
      let by-front : IsFrontAt s t n.base b.price d f = subst (λ (p : ℤ). IsFrontAt s t n.base p d f) (priced n own front.price front.based) front.front in
      let then : front_of solution n.base d ≡ front_at before d = ap (λ (z : List ℕ). front_of solution z d) own ∙ fronts d in
      let here : Member b.net.duties d = subst (λ (z : Net). Member z.duties d) (sym sweep.2.same) (legal-duty g is d new.legal) in
      let there : Member before.net.duties d = subst (λ (z : Net). Member z.duties d) (sym held) (net-of-node s u solution n network old).1 in
      let one : f ≡ front_at b d = same-listed s t n.base b.price d f (front_at b d) by-front by-sweep.0 front.rises by-sweep.1 in
      let was : front_of solution n.base d ≡ f = then ∙ (sym (same d leaves here there) ∙ sym one) in
      record { price = old.price; based = old.based; front = subst (IsFrontAt s u n.base old.price d) was (shown n.base old.price d old.based old.legal); rises = front.rises }
