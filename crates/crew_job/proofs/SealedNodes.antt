-- The front that a version has of a node.
use Rattle.std.proofs.Common.{◌≡◌, ◌≤◌, ◌∙◌, ℕ, length, List, [], Some, None, refl, sym, ap, subst}
use Rattle.crew_dirty.specs.crew_answers.Fronts.{IsFrontAt}
use Rattle.crew_dirty.proofs.Nodes.{one-duty}
use Rattle.crew_dirty.specs.Dirty.{IsNetOver}
use Rattle.crew_flights.specs.Timetable.{Timetable, empty_timetable}
use Rattle.crew_job.specs.Grounds.{Ground, IsGround, sealed_data_of}
use Rattle.crew_machine.proofs.CrewLaws.{no-duty}
use Rattle.crew_machine.proofs.NodeList.{has-price, is-base}
use Rattle.crew_machine.specs.Crew.{DutyNode, Entries, IsFrontOf, IsNodeOf}
use Rattle.crew_net.specs.Nets.{IsNetOf, Net}
use Rattle.crew_pairing.specs.Duties.{AreDuties, HasFew, flights_of}
use Rattle.crew_pairing.specs.Legality.{duty_of}
use Rattle.crew_pairing.specs.Pairings.{IsDuty}
use Rattle.crew_pairing.specs.declared.duty.Duty.{Duty}
use Rattle.crew_resource.specs.Members.{Member}
use Rattle.crew_rules.specs.Settings.{IsChecked}
use Rattle.crew_rules.specs.declared.settings.Settings.{Settings}
use Rattle.crew_version.specs.crew_plan.Solutions.{HasNetOf, Solution}
use Rattle.crew_version.specs.Fronts.{IsFrontByKey}
use Rattle.crew_version.specs.Versions.{Snapshot, timetable_of}

module _ (s : Settings) (t : Timetable) (few : HasFew s t) where
  listed : (d : Duty) → IsDuty s (flights_of t) d → Member few.0 d
  listed d legal = subst (Member few.0) (sym legal.3) (few.1.every legal.0 legal.1 legal.2)

  -- a key tells a legal duty
  pub one-legal : (d e : Duty) → IsDuty s (flights_of t) d → IsDuty s (flights_of t) e → d.key ≡ e.key → d ≡ e
  one-legal d e h k same = one-duty few.0 few.1.rising d e (listed d h) (listed e k) same

  -- the front by key is that of the node
  pub front-by-key : (n : DutyNode) (front : Entries) → IsNodeOf s t n → IsFrontByKey s t n.base n.duty.key (Some front) → IsFrontOf s t n front
  front-by-key n front is by =
      let same : by.1 ≡ n.duty = one-legal by.1 n.duty by.3 is.legal by.4 in
      record { price = by.0; based = by.2; front = subst (λ (d : Duty). IsFrontAt s t n.base by.0 d front) same by.5; rises = by.6 }

  pub front-there : (n : DutyNode) → IsNodeOf s t n → IsFrontByKey s t n.base n.duty.key None → ⊥
  front-there n is none = none is.price n.duty is.based is.legal refl

-- ---- of the version that a ground was sealed at

module _ (g : Ground) (is : IsGround g) (v : Snapshot) (e : v ≡ g.sealed) where
  same-settings : v.settings ≡ g.settings
  same-settings = ap (λ (z : Snapshot). z.settings) e ∙ sym is.settings

  pub node-sealed : (n : DutyNode) → IsNodeOf g.settings (sealed_data_of g) n → IsNodeOf v.settings (timetable_of v.entries) n
  node-sealed n h = subst (λ (z : Snapshot). IsNodeOf v.settings (timetable_of z.entries) n) (sym e) (subst (λ (z : Settings). IsNodeOf z (sealed_data_of g) n) (sym same-settings) h)

  pub node-unsealed : (n : DutyNode) → IsNodeOf v.settings (timetable_of v.entries) n → IsNodeOf g.settings (sealed_data_of g) n
  node-unsealed n h = subst (λ (z : Settings). IsNodeOf z (sealed_data_of g) n) same-settings (subst (λ (z : Snapshot). IsNodeOf v.settings (timetable_of z.entries) n) e h)

  pub front-sealed : (n : DutyNode) (f : Entries) → IsFrontOf g.settings (sealed_data_of g) n f → IsFrontOf v.settings (timetable_of v.entries) n f
  front-sealed n f h = subst (λ (z : Snapshot). IsFrontOf v.settings (timetable_of z.entries) n f) (sym e) (subst (λ (z : Settings). IsFrontOf z (sealed_data_of g) n f) (sym same-settings) h)

  pub front-unsealed : (n : DutyNode) (f : Entries) → IsFrontOf v.settings (timetable_of v.entries) n f → IsFrontOf g.settings (sealed_data_of g) n f
  front-unsealed n f h = subst (λ (z : Settings). IsFrontOf z (sealed_data_of g) n f) same-settings (subst (λ (z : Snapshot). IsFrontOf v.settings (timetable_of z.entries) n f) e h)

-- ---- of a solution's network

-- a base and a duty of the network are a node, and the other way round
pub node-of-net : (s : Settings) (t : Timetable) (solution : Solution) (n : DutyNode) → HasNetOf s t solution → Member solution.net.bases n.base → Member solution.net.duties n.duty → IsNodeOf s t n
node-of-net s t solution n h b d =
    let price = has-price t n.base (subst (λ (l : List (List ℕ)). Member l n.base) h.2.bases b) in
    record { price = price.0; based = price.1; legal = h.1.sound n.duty (subst (λ (l : List Duty). Member l n.duty) h.2.duties d) }

pub net-of-node : (s : Settings) (t : Timetable) (solution : Solution) (n : DutyNode) → HasNetOf s t solution → IsNodeOf s t n → Member solution.net.bases n.base × Member solution.net.duties n.duty
net-of-node s t solution n h is = (
  subst (λ (l : List (List ℕ)). Member l n.base) (sym h.2.bases) (is-base t n.base is.price is.based),
  subst (λ (l : List Duty). Member l n.duty) (sym h.2.duties) (subst (Member h.0) (sym is.legal.3) (h.1.every is.legal.0 is.legal.1 is.legal.2)),
)

-- before any entry there is none
pub no-node : (s : Settings) (t : Timetable) (n : DutyNode) → IsChecked s → t ≡ empty_timetable → IsNodeOf s t n → ⊥
no-node s t n checked e is = no-duty s checked n.duty (subst (λ (z : Timetable). IsDuty s (flights_of z) n.duty) e is.legal)

pub no-duties : (s : Settings) → IsChecked s → AreDuties s empty_timetable []
no-duties s checked = record { sound = λ d m. absurd m; every = λ first others legal. no-duty s checked (duty_of s first others) (first, others, legal, refl); rising = tt }

pub no-duties-over : (s v : Settings) (t : Timetable) (ds : List Duty) → IsChecked v → s ≡ v → t ≡ empty_timetable → ds ≡ [] → AreDuties s t ds
no-duties-over s v t ds checked e f g =
    subst (AreDuties s t) (sym g) (subst (λ (z : Timetable). AreDuties s z []) (sym f) (no-duties s (subst IsChecked (sym e) checked)))

-- the network of a timetable's legal duties is one over it
pub net-over : (s : Settings) (t : Timetable) (ds : List Duty) (net : Net) → IsNetOf s t ds net → AreDuties s t ds → length ds ≤ 200_000 → IsNetOver t net
net-over s t ds net is are few = record {
  bases = is.bases;
  duties = subst (λ (z : Settings). AreDuties z t net.duties) (sym is.settings) (subst (AreDuties s t) (sym is.duties) are);
  few = subst (λ (l : List Duty). length l ≤ 200_000) (sym is.duties) few;
}
