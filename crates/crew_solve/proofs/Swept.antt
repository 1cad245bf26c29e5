-- What stands at the places of bases, and the sweeps of all bases.
use Rattle.std.proofs.Common.{◌≡◌, ◌∙◌, ◌<◌, ◌≤◌, ℕ, suc, ℤ, List, [], ◌∷◌, Ok, Result, Some, true, IfOk, get_or, length, map, arith, ap, refl, sym, subst}
use Rattle.std.proofs.lemmas.List.{length-map}
use Rattle.std.specs.Prelude.{slice_get}
use Rattle.std.specs.Arc.{arc_value}
use Rattle.std.specs.FinMap as fin
use Rattle.crew_flights.specs.Timetable.{IsSound, Timetable}
use Rattle.crew_net.specs.Nets.{IsNetOf, Net}
use Rattle.crew_pairing.specs.Duties.{AreDuties}
use Rattle.crew_pairing.specs.declared.duty.Duty.{Duty}
use Rattle.crew_pairing.proofs.Tree.{Each-member}
use Rattle.crew_resource.proofs.Members.{Member-at}
use Rattle.crew_resource.specs.Members.{Each, Member}
use Rattle.crew_rules.specs.Settings.{IsChecked}
use Rattle.crew_rules.specs.declared.settings.Settings.{Settings}
use Rattle.crew_solve.proofs.Bases.{price-of}
use Rattle.crew_solve.proofs.Departing.{get-by}
use Rattle.crew_solve.proofs.Homing.{fit}
use Rattle.crew_solve.specs.Machinery.Planned.{IsFromPast, IsOver, IsPast}
use Rattle.crew_solve.specs.Machinery.Solved.{AreSweeps, IsShowing}
use Rattle.crew_solve.specs.Plans.{AreSweepsIn, IsSweepIn, Plan}
use Rattle.crew_solve.specs.declared.past.Past.{Past}
use Rattle.crew_net.proofs.Numbers.{get-within}
use Rattle.crew_net.proofs.Slices.{map-get, map-got}
use Rattle.crew_sweep.specs.Sweeps.{BaseSweep, IsSwept, ShowsFronts}

-- each sweep is that of the base at its place
abbrev AllSwept : Net → List (List ℕ × ℤ) → List BaseSweep → Type 0
AllSwept net [] [] = Unit {0}
AllSwept net [] (b ∷ bs) = ⊥
AllSwept net (base ∷ bases) [] = ⊥
AllSwept net (base ∷ bases) (b ∷ bs) = IsSwept net base b × AllSwept net bases bs

by-places : (net : Net) (bases : List (List ℕ × ℤ)) (sweeps : List BaseSweep) → length sweeps ≡ length bases
    → ((k : ℕ) (b : BaseSweep) → slice_get sweeps k ≡ Some b → (base : List ℕ × ℤ) × (slice_get bases k ≡ Some base) × IsSwept net base b) → AllSwept net bases sweeps
by-places net [] [] long each = tt
by-places net [] (b ∷ bs) long each = absurd (omega (arith, long))
by-places net (e ∷ es) [] long each = absurd (omega (arith, long))
by-places net (e ∷ es) (b ∷ bs) long each =
    let k = each 0 b refl in
    let own : k.0 ≡ e = (cc) in
    (subst (λ (x : List ℕ × ℤ). IsSwept net x b) own k.2, by-places net es bs (omega (arith, long)) (λ k c h. each (suc k) c h))

abbrev pair : BaseSweep → List ℕ × ℤ
pair b = (b.base, b.price)

own-bases : (net : Net) (bases : List (List ℕ × ℤ)) (sweeps : List BaseSweep) → AllSwept net bases sweeps → map pair sweeps ≡ bases
own-bases net [] [] s = refl
own-bases net [] (b ∷ bs) s = absurd s
own-bases net (e ∷ es) [] s = absurd s
own-bases net (e ∷ es) (b ∷ bs) s = λ i. s.0.base i ∷ own-bases net es bs s.1 i

own-nets : (net : Net) (bases : List (List ℕ × ℤ)) (sweeps : List BaseSweep) → AllSwept net bases sweeps → Each (λ (b : BaseSweep). b.net ≡ net) sweeps
own-nets net bases [] s = tt
own-nets net [] (b ∷ bs) s = absurd s
own-nets net (e ∷ es) (b ∷ bs) s = (s.0.net, own-nets net es bs s.1)

own-fronts : (t : Timetable) (net : Net) (bases : List (List ℕ × ℤ)) (sweeps : List BaseSweep) → IsSound t → AreDuties net.settings t net.duties → AllSwept net bases sweeps
    → Each (ShowsFronts t) sweeps
own-fronts t net bases [] sound duties s = tt
own-fronts t net [] (b ∷ bs) sound duties s = absurd s
own-fronts t net (e ∷ es) (b ∷ bs) sound duties s = (s.0.right t sound duties, own-fronts t net es bs sound duties s.1)

-- sweeps of all bases of a plan are those of its timetable
pub swept-all : (t : Timetable) (plan : Plan) (sweeps : List BaseSweep) → IsOver t plan.net → plan.prices ≡ fin.entries t.bases → AreSweepsIn plan sweeps → AreSweeps t plan.net sweeps
swept-all t plan sweeps over held are =
    let s = by-places plan.net plan.prices sweeps are.long are.each in
    record {
      bases = own-bases plan.net plan.prices sweeps s ∙ held;
      nets = own-nets plan.net plan.prices sweeps s;
      fronts = own-fronts t plan.net plan.prices sweeps over.sound over.duties s;
    }

pub all-nets : (plan : Plan) (sweeps : List BaseSweep) → AreSweepsIn plan sweeps → Each (λ (b : BaseSweep). b.net ≡ plan.net) sweeps
all-nets plan sweeps are = own-nets plan.net plan.prices sweeps (by-places plan.net plan.prices sweeps are.long are.each)

pub all-bases : (plan : Plan) (sweeps : List BaseSweep) → AreSweepsIn plan sweeps → map pair sweeps ≡ plan.prices
all-bases plan sweeps are = own-bases plan.net plan.prices sweeps (by-places plan.net plan.prices sweeps are.long are.each)

-- the network of a plan is over each timetable that it is of
pub over-of : (s : Settings) (t : Timetable) (ds : List Duty) (net : Net) → IsChecked s → IsSound t → AreDuties s t ds → IsNetOf s t ds net → length net.duties ≤ 200_000 → IsOver t net
over-of s t ds net checked sound duties built few =
    let settings = sym built.settings in
    let known = sym built.duties in
    record {
      checked = subst IsChecked settings checked;
      sound = sound;
      built = subst (λ l. IsNetOf net.settings t l net) known (subst (λ x. IsNetOf x t ds net) settings built);
      duties = subst (AreDuties net.settings t) known (subst (λ x. AreDuties x t ds) settings duties);
      few = few;
    }

-- the price at a place
pub price-at : (t : Timetable) (bases : List (List ℕ × ℤ)) (k : ℕ) (base : List ℕ × ℤ) → bases ≡ fin.entries t.bases → slice_get bases k ≡ Some base → fin.get t.bases base.0 ≡ Some base.1
price-at t bases k base held at = price-of t base (subst (λ (es : List (List ℕ × ℤ)). Member es base) held (Member-at bases k base at))

-- and the fronts of the base can be shown
pub showing-of : (t : Timetable) (net : Net) (base : List ℕ × ℤ) (b : BaseSweep) → IsOver t net → fin.get t.bases base.0 ≡ Some base.1 → IsSwept net base b → IsShowing b
showing-of t net base b over based s =
    let own = ap (λ (e : List ℕ × ℤ). fin.get t.bases e.0) s.base ∙ (based ∙ ap (λ (e : List ℕ × ℤ). Some e.1) (sym s.base)) in
    record {
      fit = fit t b (subst (IsOver t) (sym s.net) over) (s.right t over.sound over.duties) own;
      right = subst (λ (n : Net). (u : Timetable) → IsSound u → AreDuties n.settings u n.duties → ShowsFronts u b) (sym s.net) s.right;
    }

-- earlier fronts of a base at its price stand as they are where the two networks are one
pub kept-of : (net : Net) (p : Past) (base : List ℕ × ℤ) (b : BaseSweep) → IsPast net p → p.is_same ≡ true → IsFromPast p base.0 base.1 b → IsSwept net base b
kept-of net p base b past same from =
    let is = Each-member (λ (x : BaseSweep). x.net ≡ past.earlier) (map arc_value p.fronts.items) b past.nets from.among ∙ past.alike same in
    record {
      net = is;
      base = λ i. (from.own i, from.at i);
      right = subst (λ (n : Net). (u : Timetable) → IsSound u → AreDuties n.settings u n.duties → ShowsFronts u b) is from.right;
    }

-- what was made at the places of all bases
pub each-made : {A E : Type 0} (f : A → BaseSweep) (plan : Plan) (made : List (Result A E)) (all : List A) → length made ≡ length plan.prices
    → ((place : ℕ) (d : Result A E) → place < length plan.prices → IfOk (get_or made place d) (λ a. IsSweepIn plan place (f a))) → made ≡ map Ok all → AreSweepsIn plan (map f all)
each-made {A} {E} f plan made all long each is =
    let ok : A → Result A E = λ a. Ok a in
    let many = length-map all f in
    let whole : length all ≡ length made = sym (length-map all ok) ∙ ap length (sym is) in
    record {
      long = many ∙ (whole ∙ long);
      each = λ place b h.
          let at = map-got f all place b h in
          let low = get-within all place at.0 at.1 in
          let there = get-by made place (Ok at.0) (Ok at.0) (ap (λ l. slice_get l place) is ∙ map-get ok all place at.0 at.1) in
          let one = each place (Ok at.0) (omega (arith, low, whole, long)) in
          let right : IsSweepIn plan place (f at.0) = subst (λ o. IfOk o (λ a. IsSweepIn plan place (f a))) there one in
          subst (IsSweepIn plan place) at.2 right;
    }
