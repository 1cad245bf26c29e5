-- Entries of fronts are values of their walks, and such values leave room for one duty more.
use Rattle.std.proofs.Common.{◌≡◌, ℕ, suc, ◌+◌, ◌≤◌, List, [], ◌∷◌, ◌++◌, length, Some, ℤ, refl, sym, ◌∙◌, ap, subst, ⊎_elim, arith}
use Rattle.std.specs.Option.{option_and_then, option_map}
use Rattle.std.proofs.lemmas.List.{map-append}
use Rattle.crew_flights.specs.Timetable.{IsSound, Timetable}
use Rattle.crew_pairing.specs.Duties.{flights_of}
use Rattle.crew_pairing.specs.Events as Events
use Rattle.crew_pairing.specs.Events.{MayFollow, arrival_of, departure_of}
use Rattle.crew_pairing.specs.Legs.{Leg}
use Rattle.crew_pairing.specs.Pairings.{AllRested, IsDuty, last_duty}
use Rattle.crew_pairing.specs.declared.duty.Duty.{Duty}
use Rattle.crew_pairing.specs.declared.vector.PairingVector.{PairingVector}
use Rattle.crew_resource.specs.Members.{Each, Member}
use Rattle.crew_rules.specs.Settings.{IsChecked}
use Rattle.crew_rules.specs.declared.settings.Settings.{Settings}
use Rattle.crew_vector.specs.Fronts.{IsFrontAt}
use Rattle.crew_vector.specs.Locals.{Feed, IsLocalAt}
use Rattle.crew_vector.specs.Machinery.Along.{GoesOn}
use Rattle.crew_vector.specs.Values.{value_of}
use Rattle.crew_resource.specs.Resource.{StepLaws}
use Rattle.crew_vector.specs.Dominance.{is_at_most}
use Rattle.crew_vector.specs.Machinery.Numbers.{named, numbers_of}
use Rattle.crew_vector.specs.Machinery.Sides.{opened, stepped}
use Rattle.crew_vector.specs.Machinery.VectorResources.{vector_resource}
use Rattle.crew_vector.specs.declared.resource.VectorResource.{VectorResource}
use Rattle.crew_vector.proofs.Cuts.{before_last, last-pushed, last-split, whole-split}
use Rattle.crew_vector.proofs.Growth.{start-in, step-in}
use Rattle.crew_vector.proofs.Steps.{extends, steps}
use Rattle.crew_vector.proofs.Fitting.{few, value-out}
use Rattle.crew_vector.proofs.Paths.{follows, legal-in-range, partial-value}
use Rattle.crew_step.specs.Jobs.{AreBefore, IsValueAt}

goes-along : (s : Settings) (t : Timetable) (base : List ℕ) (price : ℤ) → IsChecked s → IsSound t → (first : Duty) (others : List Duty) → Each (IsDuty s (flights_of t)) others → AllRested s first others
    → GoesOn Events.IsSound MayFollow arrival_of departure_of first others
goes-along s t base price checked sound first [] h r = tt
goes-along s t base price checked sound first (next ∷ others) h r =
    (legal-in-range s t base price checked sound next h.0, follows s first next checked r.0, goes-along s t base price checked sound next others h.1 r.1)

pub entry-value : (s : Settings) (t : Timetable) (base : List ℕ) (price : ℤ) (d : Duty) (entries : List (PairingVector × List (List Leg))) → IsChecked s → IsSound t
    → IsFrontAt s t base price d entries → (v : PairingVector) (w : List (List Leg)) → Member entries (v, w) → IsValueAt s price d v w
entry-value s t base price d entries checked sound front v w m =
    let at = (front.clean v w m).at in
    let p = at.partial in
    record {
      first = at.first;
      others = at.others;
      line = (legal-in-range s t base price checked sound at.first p.legal.0, goes-along s t base price checked sound at.first at.others p.legal.1 p.rested);
      ends = at.ends;
      value = partial-value s t base price checked sound at.first at.others p ∙ ap Some (sym at.vector);
      walk = at.walk;
    }

-- at most 12 duties
pub few-duties : (s : Settings) (price : ℤ) → IsChecked s → (first : Duty) (others : List Duty) (v : PairingVector) → value_of s price (first ∷ others) ≡ Some v → suc (length others + 1) ≤ 100_000
few-duties s price checked first others v e =
    let most = few s (first ∷ others) (value-out s price (first ∷ others) v e).0 in
    let cap = checked.max_duties_most in
    omega (arith, most, cap)

-- the steps of a base's resource are those of its values
pub steps-of : (s : Settings) (price : ℤ) (r : VectorResource) → r ≡ vector_resource s price
    → StepLaws (λ d. option_map named (opened r d)) (λ v e d. option_map named (stepped r (numbers_of v) e d)) is_at_most (value_of s price)
steps-of s price r made =
    subst (λ (z : VectorResource). StepLaws (λ d. option_map named (opened z d)) (λ v e d. option_map named (stepped z (numbers_of v) e d)) is_at_most (value_of s price))
    (sym made) (steps s price)

longer-line : (last : Duty) (others : List Duty) (d : Duty) → GoesOn Events.IsSound MayFollow arrival_of departure_of last others → Events.IsSound d → MayFollow (arrival_of (last_duty last others)) (departure_of d)
    → GoesOn Events.IsSound MayFollow arrival_of departure_of last (others ++ d ∷ [])
longer-line last [] d g s f = (s, f, tt)
longer-line last (next ∷ others) d g s f = (g.0, g.1, longer-line next others d g.2 s f)

-- the value of a list with one duty more
longer-value : (s : Settings) (price : ℤ) (first : Duty) (others : List Duty) (d : Duty) (u v : PairingVector) → value_of s price (first ∷ others) ≡ Some u
    → extends s u (last_duty first others) d ≡ Some v → value_of s price (first ∷ (others ++ d ∷ [])) ≡ Some v
longer-value s price first others d u v e x =
    let before = before_last first others in
    let last = last_duty first others in
    let here : value_of s price (before ++ last ∷ []) ≡ Some u = ap (value_of s price) (whole-split first others) ∙ e in
    ap (value_of s price) (sym (last-split first others (d ∷ [])))
    ∙ ((steps s price).extension before last d ∙ (ap (option_and_then (λ z. extends s z last d)) here ∙ x))

-- what is local to a job are values of their walks
pub local-value : (s : Settings) (base : List ℕ) (price : ℤ) (d : Duty) (feed : Feed) (entries : List (PairingVector × List (List Leg))) → IsChecked s → Events.IsSound d → AreBefore s price d feed
    → IsLocalAt s base price d feed entries → (v : PairingVector) (w : List (List Leg)) → Member entries (v, w) → IsValueAt s price d v w
local-value s base price d feed entries checked sound before local v w m =
    ⊎_elim {C = IsValueAt s price d v w}
    (λ c. record {
      first = d;
      others = [];
      line = (sound, tt);
      ends = refl;
      value = (steps s price).opening d ∙ start-in s price d v c.1 c.2;
      walk = c.3;
    })
    (λ c.
    let k = before.values c.0 c.1 c.4 c.2 c.3 c.5 in
    let follow = follows s c.0 d checked (before.rested c.0 c.1 c.4) in
    let joins = subst (λ (e : Duty). MayFollow (arrival_of e) (departure_of d)) (sym k.ends) follow in
    let step = subst (λ (e : Duty). extends s c.2 e d ≡ Some v) (sym k.ends) (step-in s c.0 d c.2 v c.6 c.7) in
    record {
      first = k.first;
      others = k.others ++ d ∷ [];
      line = (k.line.0, longer-line k.first k.others d k.line.1 sound joins);
      ends = last-pushed k.first k.others d;
      value = longer-value s price k.first k.others d c.2 v k.value step;
      walk = c.8 ∙ (ap (λ z. z ++ d.key ∷ []) k.walk ∙ sym (map-append (λ e. e.key) (k.first ∷ k.others) (d ∷ [])));
    })
    (local.among v w m)
