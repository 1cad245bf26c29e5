-- The fronts of all bases of a plan are those of its timetables.
use Rattle.std.proofs.Common.{◌≡◌, ◌∙◌, ◌<◌, ℕ, suc, ℤ, Bool, true, false, cond, List, [], ◌∷◌, Option, None, Some, IfSome, get_or, inl, inr, refl, sym, ap, subst, map, length, arith}
use Rattle.std.specs.Prelude.{slice_get}
use Rattle.std.proofs.lemmas.List.{length-map}
use Rattle.std.specs.FinMap as fin
use Rattle.std.specs.Ordering.{eq_by_cmp}
use Rattle.crew_fronts.specs.crew_answers.Bests.{AreFronts}
use Rattle.crew_fronts.specs.crew_answers.Fronts.{IsFrontAt}
use Rattle.crew_fronts.specs.crew_answers.LongVectors.{LongVector}
use Rattle.crew_fronts.specs.crew_answers.Schedules.{IsDated}
use Rattle.crew_flights.specs.Codes.{code_cmp}
use Rattle.crew_flights.specs.Timetable.{IsSound, Timetable}
use Rattle.crew_fronts.specs.Fronts.{BaseFronts, ShowsFronts, front_at}
use Rattle.crew_net.specs.Nets.{Net}
use Rattle.crew_pairing.proofs.Tree.{Each-member}
use Rattle.crew_pairing.specs.Duties.{AreDuties, flights_of}
use Rattle.crew_pairing.specs.Pairings.{IsDuty, last_duty}
use Rattle.crew_pairing.specs.declared.duty.Duty.{Duty}
use Rattle.crew_plan.specs.Machinery.Homes.{IsPayable, alone}
use Rattle.crew_plan.specs.Machinery.Kept.{IsLaid, IsSolved}
use Rattle.crew_plan.specs.Plans.{AreAllIn, AreFrontsIn, AreMade, Plan}
use Rattle.crew_plan.specs.Solutions.{front_among}
use Rattle.crew_plan.proofs.Reach.{vector-pay}
use Rattle.crew_resource.proofs.Members.{Member-map_in, Member-map_out}
use Rattle.crew_resource.specs.Members.{Each, Member}
use Rattle.crew_rules.specs.declared.settings.Settings.{Settings}
use Rattle.crew_fronts.proofs.crew_solve_lemmas.Bases.{entry-of, price-of}
use Rattle.crew_fronts.proofs.crew_solve_lemmas.Departing.{get-by}
use Rattle.crew_fronts.specs.crew_solve.Machinery.Homes.{HasPay}
use Rattle.crew_fronts.specs.crew_solve.Machinery.Planned.{IsOver}
use Rattle.crew_net.proofs.Numbers.{get-within}
use Rattle.crew_net.proofs.Slices.{map-get, map-got}
use Rattle.crew_fronts.proofs.crew_solve_lemmas.crew_vector_lemmas.Orders.{code-itself, same-code}

abbrev Prices : Type 0
Prices = List (List ℕ × ℤ)

-- the last of legal duties is one
pub last-of-each : (s : Settings) (t : Timetable) (first : Duty) (others : List Duty) → Each (IsDuty s (flights_of t)) (first ∷ others) → IsDuty s (flights_of t) (last_duty first others)
last-of-each s t first [] h = h.0
last-of-each s t first (next ∷ others) h = last-of-each s t next others h.1

-- ---- each at its place

abbrev AllMade : Net → Prices → List BaseFronts → Type 0
AllMade net [] [] = Unit {0}
AllMade net [] (b ∷ bs) = ⊥
AllMade net (e ∷ es) [] = ⊥
AllMade net (e ∷ es) (b ∷ bs) = AreMade net e b × AllMade net es bs

by-places : (net : Net) (es : Prices) (bs : List BaseFronts) → length bs ≡ length es → ((k : ℕ) (b : BaseFronts) → slice_get bs k ≡ Some b → (e : List ℕ × ℤ) × (slice_get es k ≡ Some e) × AreMade net e b)
    → AllMade net es bs
by-places net [] [] long each = tt
by-places net [] (b ∷ bs) long each = absurd (omega (arith, long))
by-places net (e ∷ es) [] long each = absurd (omega (arith, long))
by-places net (e ∷ es) (b ∷ bs) long each =
    let k = each 0 b refl in
    let own : k.0 ≡ e = (cc) in
    (subst (λ (x : List ℕ × ℤ). AreMade net x b) own k.2, by-places net es bs (omega (arith, long)) (λ k c h. each (suc k) c h))

abbrev pair : BaseFronts → List ℕ × ℤ
pair b = (b.base, b.price)

own-pairs : (net : Net) (es : Prices) (bs : List BaseFronts) → AllMade net es bs → map pair bs ≡ es
own-pairs net [] [] s = refl
own-pairs net [] (b ∷ bs) s = absurd s
own-pairs net (e ∷ es) [] s = absurd s
own-pairs net (e ∷ es) (b ∷ bs) s = λ i. s.0.own i ∷ own-pairs net es bs s.1 i

own-bases : (net : Net) (es : Prices) (bs : List BaseFronts) → AllMade net es bs → map (λ (b : BaseFronts). b.base) bs ≡ map (λ (e : List ℕ × ℤ). e.0) es
own-bases net [] [] s = refl
own-bases net [] (b ∷ bs) s = absurd s
own-bases net (e ∷ es) [] s = absurd s
own-bases net (e ∷ es) (b ∷ bs) s = λ i. (s.0.own i).0 ∷ own-bases net es bs s.1 i

own-nets : (net : Net) (es : Prices) (bs : List BaseFronts) → AllMade net es bs → Each (λ (b : BaseFronts). b.net ≡ net) bs
own-nets net es [] s = tt
own-nets net [] (b ∷ bs) s = absurd s
own-nets net (e ∷ es) (b ∷ bs) s = (s.0.same, own-nets net es bs s.1)

own-fronts : (t : Timetable) (net : Net) (es : Prices) (bs : List BaseFronts) → IsSound t → IsDated t → AreDuties net.settings t net.duties → AllMade net es bs → Each (ShowsFronts t) bs
own-fronts t net es [] sound dated duties s = tt
own-fronts t net [] (b ∷ bs) sound dated duties s = absurd s
own-fronts t net (e ∷ es) (b ∷ bs) sound dated duties s = (s.0.fronts t sound dated duties, own-fronts t net es bs sound dated duties s.1)

pub all-solved : (plan : Plan) (bs : List BaseFronts) → AreAllIn plan bs → map (λ (e : List ℕ × ℤ). e.0) plan.prices ≡ plan.net.bases → IsSolved plan.net bs
all-solved plan bs are keys =
    let s = by-places plan.net plan.prices bs are.long are.each in
    record { nets = own-nets plan.net plan.prices bs s; all = own-bases plan.net plan.prices bs s ∙ keys }

-- ---- the fronts of a base among those of all

pub record IsFound (bases : List BaseFronts) (base : List ℕ) : Type 0 where
  pub fronts : BaseFronts
  pub among : Member bases fronts
  pub own : fronts.base ≡ base
  pub shows : (d : Duty) → front_among bases base d ≡ front_at fronts d
  pub only : alone base bases ≡ fronts ∷ []

found-by : (b : BaseFronts) (bs : List BaseFronts) (base : List ℕ) (k : Bool) → eq_by_cmp code_cmp b.base base ≡ k → ((c : BaseFronts) → Member bs c → c.base ≡ base → IsFound bs base)
    → (c : BaseFronts) → Member (b ∷ bs) c → c.base ≡ base → IsFound (b ∷ bs) base
found-by b bs base true e later c m h = record {
  fronts = b;
  among = inl refl;
  own = same-code b.base base e;
  shows = λ d. ap (λ k. cond k (front_at b d) (front_among bs base d)) e;
  only = ap (λ k. cond k (b ∷ []) (alone base bs)) e;
}
found-by b bs base false e later c (inl i) h = absurd (let t = code-itself b.base base (ap (λ (x : BaseFronts). x.base) i ∙ h) in let both = sym t ∙ e in let z : ⊥ = (cc) in z)
found-by b bs base false e later c (inr m) h =
    let k = later c m h in
    record {
      fronts = k.fronts;
      among = inr k.among;
      own = k.own;
      shows = λ d. ap (λ x. cond x (front_at b d) (front_among bs base d)) e ∙ k.shows d;
      only = ap (λ x. cond x (b ∷ []) (alone base bs)) e ∙ k.only;
    }

pub found : (bases : List BaseFronts) (base : List ℕ) (c : BaseFronts) → Member bases c → c.base ≡ base → IsFound bases base
found [] base c m h = absurd m
found (b ∷ bs) base c m h = found-by b bs base (eq_by_cmp code_cmp b.base base) refl (found bs base) c m h

-- ---- they are the fronts of each timetable

module _ (t : Timetable) (plan : Plan) (bases : List BaseFronts) (over : IsOver t plan.net) (dated : IsDated t) (priced : plan.prices ≡ fin.entries t.bases) (are : AreAllIn plan bases) where
  abbrev Here : Settings
  Here = plan.net.settings

  all : AllMade plan.net plan.prices bases
  all = by-places plan.net plan.prices bases are.long are.each

  net-of : (b : BaseFronts) → Member bases b → b.net ≡ plan.net
  net-of b m = Each-member (λ (x : BaseFronts). x.net ≡ plan.net) bases b (own-nets plan.net plan.prices bases all) m

  pairs : map pair bases ≡ fin.entries t.bases
  pairs = own-pairs plan.net plan.prices bases all ∙ priced

  based-of : (b : BaseFronts) → Member bases b → fin.get t.bases b.base ≡ Some b.price
  based-of b m = price-of t (pair b) (subst (λ (es : Prices). Member es (pair b)) pairs (Member-map_in pair bases b m))

  front-of : (b : BaseFronts) → Member bases b → (d : Duty) → IsDuty Here (flights_of t) d → IsFrontAt Here t b.base b.price d (front_at b d)
  front-of b m d legal =
      let n = net-of b m in
      let k = Each-member (ShowsFronts t) bases b (own-fronts t plan.net plan.prices bases over.sound dated over.duties all) m in
      let one = (k d (subst (λ (x : Net). IsDuty x.settings (flights_of t) d) (sym n) legal)).0 in
      subst (λ (x : Net). IsFrontAt x.settings t b.base b.price d (front_at b d)) n one

  pub fronts-are : AreFronts Here t (front_among bases)
  fronts-are base price d h legal =
      let m = subst (λ (es : Prices). Member es (base, price)) (sym pairs) (entry-of t base price h) in
      let k = Member-map_out pair bases (base, price) m in
      let f = found bases base k.0 k.1 (ap (λ (e : List ℕ × ℤ). e.0) k.2) in
      let price-is : f.fronts.price ≡ price = (let both = sym (based-of f.fronts f.among) ∙ (ap (fin.get t.bases) f.own ∙ h) in (cc)) in
      let one = front-of f.fronts f.among d legal in
      subst (IsFrontAt Here t base price d) (sym (f.shows d))
      (subst (λ z. IsFrontAt Here t base z d (front_at f.fronts d)) price-is (subst (λ z. IsFrontAt Here t z f.fronts.price d (front_at f.fronts d)) f.own one))

  payable : (b : BaseFronts) → Member bases b → IsPayable Here.trip_rig b
  payable b m = λ d e known held.
      let legal = over.duties.sound d (subst (λ (n : Net). Member n.duties d) (net-of b m) known) in
      let at = ((front-of b m d legal).clean e.0 e.1 held).at in
      subst (HasPay Here.trip_rig) (sym (ap (λ (v : LongVector). v.sums) at.vector))
      (vector-pay Here t b.base b.price over.checked over.sound (over.sound.bases b.base b.price (based-of b m)) at.first at.others at.partial)

  -- the amounts of what they show fit
  pub all-payable : Each (IsPayable Here.trip_rig) bases
  all-payable = each-of bases (λ b m. m)
    where
      each-of : (bs : List BaseFronts) → ((b : BaseFronts) → Member bs b → Member bases b) → Each (IsPayable Here.trip_rig) bs
      each-of [] f = tt
      each-of (b ∷ bs) f = (payable b (f b (inl refl)), each-of bs (λ c m. f c (inr m)))

-- what was made at the places of all bases
pub each-made : {A : Type 0} (f : A → BaseFronts) (plan : Plan) (made : List (Option A)) (all : List A) → length made ≡ length plan.prices
    → ((place : ℕ) (d : Option A) → place < length plan.prices → IfSome (get_or made place d) (λ a. AreFrontsIn plan place (f a))) → made ≡ map Some all → AreAllIn plan (map f all)
each-made {A} f plan made all long each is =
    let many = length-map all f in
    let whole : length all ≡ length made = sym (length-map all (λ (a : A). Some a)) ∙ ap length (sym is) in
    record {
      long = many ∙ (whole ∙ long);
      each = λ place b h.
          let at = map-got f all place b h in
          let low = get-within all place at.0 at.1 in
          let there = get-by made place None (Some at.0) (ap (λ l. slice_get l place) is ∙ map-get Some all place at.0 at.1) in
          let one = each place None (omega (arith, low, whole, long)) in
          let right : AreFrontsIn plan place (f at.0) = subst (λ o. IfSome o (λ a. AreFrontsIn plan place (f a))) there one in
          subst (AreFrontsIn plan place) at.2 right;
    }

-- the bases of a plan are those of its network
pub keys-of : (net : Net) (es : Prices) → IsLaid net es → map (λ (e : List ℕ × ℤ). e.0) es ≡ net.bases
keys-of net es laid = ap (map (λ (e : List ℕ × ℤ). e.0)) laid.priced ∙ sym laid.over.built.bases
