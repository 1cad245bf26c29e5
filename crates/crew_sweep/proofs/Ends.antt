-- All departures are passed: what is kept, and the fronts that the pools show.
use Rattle.std.proofs.Common.{◌≡◌, ◌∙◌, ◌<◌, ◌≤◌, ◌+◌, ◌-◌, ℕ, suc, ℤ, List, length, map, sym, ap, subst, arith, refl}
use Rattle.crew_anchor.specs.Machinery.Bounds.{fits_in}
use Rattle.crew_anchor.specs.Stages.{anchored_resource}
use Rattle.crew_anchor.specs.Sweeps.{anchored_network, shown_labels}
use Rattle.crew_anchor.specs.declared.resource.AnchoredResource.{AnchoredResource}
use Rattle.crew_flights.specs.Timetable.{IsSound, Timetable}
use Rattle.crew_net.specs.Machinery.Numbered.{departure_place}
use Rattle.crew_net.specs.Nets.{Net}
use Rattle.crew_net.specs.Positions.{in_order}
use Rattle.crew_net.proofs.Numbers.{at-departure, get-within}
use Rattle.crew_net.proofs.Orders.{arrivals-distinct, in-order-long, leaves-in}
use Rattle.crew_net.proofs.Slices.{map-or}
use Rattle.crew_pairing.specs.Duties.{AreDuties}
use Rattle.crew_pairing.specs.Events.{departure_of}
use Rattle.crew_pairing.specs.Legs.{Leg}
use Rattle.crew_pairing.specs.declared.vector.PairingVector.{PairingVector}
use Rattle.crew_pool.specs.LabelWalks.{shown}
use Rattle.crew_pool.specs.declared.label_walk.LabelWalk.{LabelWalk}
use Rattle.crew_resource.specs.Events.{view}
use Rattle.crew_resource.specs.Members.{Each, Member}
use Rattle.crew_resource.proofs.Members.{Member-map_out}
use Rattle.crew_rules.specs.Settings.{IsChecked}
use Rattle.crew_rules.specs.declared.settings.Settings.{Settings}
use Rattle.crew_sweep.specs.Machinery.Grounds.{IsLeft}
use Rattle.crew_sweep.specs.Machinery.Kept.{IsKept, sparing_of}
use Rattle.crew_sweep.specs.Machinery.Numbered.{AreLocal}
use Rattle.crew_sweep.specs.Machinery.Passing.{AreLabels, HasPassed, IsPassable, passed_network}
use Rattle.crew_sweep.specs.declared.passed.Passed.{Passed}
use Rattle.crew_sweep.specs.Sweeps.{BaseSweep, IsSwept, ShowsFronts, keyed}
use Rattle.crew_sweep.proofs.Fronts.{swept-fronts}
use Rattle.crew_vector.specs.Fronts.{IsFrontAt}

abbrev Labels : Type 0
Labels = List (PairingVector × LabelWalk)

-- one duty less, where there is one at least
pub one-less : (n : ℕ) → 1 ≤ n → n - 1 + 1 ≡ n
one-less n h = omega (arith, h)

abbrev pub lesser : AnchoredResource → ℕ → AnchoredResource
lesser r most = record r { max_duties = most }

abbrev pub made : Net → List ℕ → ℤ → List (List ℕ) → List Labels → BaseSweep
made net base price walks pools = record { net = net; base = base; price = price; walks = walks; pools = pools }

module _ (net : Net) (positions : List ℕ) (passable : IsPassable net positions) (base : List ℕ) (price : ℤ) (most : ℕ) (few : most ≤ 12) (less : most + 1 ≡ net.settings.max_duties)
    (fits : (n : ℕ) → n ≤ 100_000 → fits_in (anchored_resource net.settings price) n) (walks : List (List ℕ)) (pools : List Labels)
    (passed : HasPassed net base (lesser (anchored_resource net.settings price) most) walks pools) where
  less-by : most ≡ net.settings.max_duties - 1
  less-by = omega (arith, less)

  pub kept : IsKept (made net base price walks pools) (anchored_resource net.settings price)
  kept = record {
    resource = refl;
    sound = passable.sound;
    few = passable.few;
    long = passed.all;
    labels = λ labels m. record {
      counts = passed.passing.whole labels m;
      ranked = λ e k. let s = Member-map_out (shown walks) labels e k in subst (λ (z : PairingVector × List ℕ). Each (λ rank. rank < length net.duties) z.1) s.2 (passed.passing.pooled labels m s.0 s.1).ranked;
      ready = λ l k.
          let label = passed.passing.pooled labels m l k in
          let short = label.few in
          (length (shown walks l).1, fits (suc (length (shown walks l).1)) (omega (arith, short, few)), label.ready);
    };
    local = subst (λ (n : ℕ). AreLocal (passed_network net base (lesser (anchored_resource net.settings price) n)) (length pools) (map (keyed net walks) pools)) less-by passed.passing.swept.pooled;
    spared = subst (λ (n : ℕ). (labels : Labels) → Member pools labels → AreLabels (lesser (anchored_resource net.settings price) n) (length net.duties) walks labels) less-by passed.passing.pooled;
  }

  pub right : IsChecked net.settings → (t : Timetable) → IsSound t → AreDuties net.settings t net.duties → ShowsFronts t (made net base price walks pools)
  right checked t sound exactly d legal =
      let place = departure_place (in_order net) (departure_of d) in
      let known = subst (Member net.duties) (sym legal.3) (exactly.every legal.0 legal.1 legal.2) in
      let leaves = leaves-in net passable.departs passable.ordered in
      let long = in-order-long net passable.departs passable.ordered in
      let within : place < length pools = subst (λ n. place < n) (long ∙ sym passed.all) (get-within (in_order net) place (departure_of d) (at-departure (in_order net) (departure_of d) (leaves d known))) in
      let all : length pools ≡ length (in_order net) = passed.all ∙ sym long in
      let front = swept-fronts net.settings t base price net.duties (in_order net) net.arrivals most (map (keyed net walks) pools) checked sound exactly
      (arrivals-distinct net passable.arrives) leaves passable.arrives.every less
      (λ i lt. passed.passing.swept.pooled i (subst (λ n. i < n) (sym all) lt)) d legal in
      subst (λ (ls : List (PairingVector × List (List Leg))). IsFrontAt net.settings t base price d (shown_labels net.settings.trip_rig d.release (view (anchored_network net.settings base price net.duties) d ls)))
      (map-or (keyed net walks) pools place within) front

abbrev spared : Settings → ℤ → AnchoredResource
spared s price = lesser (anchored_resource s price) (s.max_duties - 1)

-- the resource with a duty to spare is that of an earlier sweep
pub spare-of : (old : BaseSweep) (s : Settings) (price : ℤ) (full : AnchoredResource) → full ≡ anchored_resource s price → old.net.settings ≡ s → price ≡ old.price → lesser full (full.max_duties - 1) ≡ sparing_of old
spare-of old s price full is settings at = ap (λ (f : AnchoredResource). lesser f (f.max_duties - 1)) is ∙ (ap (λ (z : Settings). spared z price) (sym settings) ∙ ap (spared old.net.settings) at)

-- the resource with a duty to spare, of a network's settings
module _ (net : Net) (checked : IsChecked net.settings) (price : ℤ) (full : AnchoredResource) (full-is : full ≡ anchored_resource net.settings price) (fits : (n : ℕ) → n ≤ 100_000 → fits_in full n) where
  abbrev most-less : ℕ
  most-less = net.settings.max_duties - 1

  abbrev spare : AnchoredResource
  spare = lesser full (full.max_duties - 1)

  pub spare-by : (r : AnchoredResource) → ((most : ℕ) → most + 1 ≡ full.max_duties → r ≡ lesser full most) → r ≡ spare
  spare-by r is = is (full.max_duties - 1) (one-less full.max_duties (subst (λ (f : AnchoredResource). 1 ≤ f.max_duties) (sym full-is) checked.max_duties))

  spare-is : spare ≡ lesser (anchored_resource net.settings price) most-less
  spare-is = ap (λ (f : AnchoredResource). lesser f (f.max_duties - 1)) full-is

  full-fits : (n : ℕ) → n ≤ 100_000 → fits_in (anchored_resource net.settings price) n
  full-fits n h = subst (λ (r : AnchoredResource). fits_in r n) full-is (fits n h)

  few-less : most-less ≤ 12
  few-less = let most = checked.max_duties_most in omega (arith, most)

  pub spare-fits : (n : ℕ) → n ≤ 100_000 → fits_in spare n
  spare-fits n h = subst (λ (r : AnchoredResource). fits_in r n) (sym spare-is) (full-fits n h)

  pub spare-few : spare.max_duties ≤ 12
  spare-few = subst (λ (r : AnchoredResource). r.max_duties ≤ 12) (sym spare-is) few-less

  -- what a pass has left
  module _ (base : List ℕ) (passed : Passed) (left : IsLeft net base full passed) where
    passable : IsPassable net left.own.positions.now
    passable = subst (λ (n : Net). IsPassable n left.own.positions.now) left.own_net left.is_ground.passable

    through : HasPassed net base (lesser (anchored_resource net.settings price) most-less) passed.walks passed.pools
    through =
        subst (λ (r : AnchoredResource). HasPassed net base r passed.walks passed.pools) (left.own_resource ∙ spare-is)
        (subst (λ (b : List ℕ). HasPassed net b left.own.resource passed.walks passed.pools) left.own_base
        (subst (λ (n : Net). HasPassed n left.own.base left.own.resource passed.walks passed.pools) left.own_net left.all))

    pub all-kept : IsKept (made net base price passed.walks passed.pools) full
    all-kept = subst (IsKept (made net base price passed.walks passed.pools)) (sym full-is)
        (kept net left.own.positions.now passable base price most-less few-less (one-less net.settings.max_duties checked.max_duties) full-fits passed.walks passed.pools through)

    pub all-right : (t : Timetable) → IsSound t → AreDuties net.settings t net.duties → ShowsFronts t (made net base price passed.walks passed.pools)
    all-right = right net left.own.positions.now passable base price most-less few-less (one-less net.settings.max_duties checked.max_duties) full-fits passed.walks passed.pools through checked

-- what a pass over a network leaves is the sweep of its base at its price
pub swept-as : (net : Net) (base own : List ℕ) (price at : ℤ) (walks : List (List ℕ)) (pools : List (List (PairingVector × LabelWalk))) (b : BaseSweep) → b ≡ record { net = net; base = base; price = price; walks = walks; pools = pools } → base ≡ own → price ≡ at
    → ((t : Timetable) → IsSound t → AreDuties net.settings t net.duties → ShowsFronts t b) → IsSwept net (own, at) b
swept-as net base own price at walks pools b is same-base same-price right = record {
  net = ap (λ (s : BaseSweep). s.net) is;
  base = λ i. (((ap (λ (s : BaseSweep). s.base) is) ∙ same-base) i, ((ap (λ (s : BaseSweep). s.price) is) ∙ same-price) i);
  right = right;
}
