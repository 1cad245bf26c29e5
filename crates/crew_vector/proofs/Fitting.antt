-- Sums over many duties fit, the value tells the number of duties, and what it costs.
use Rattle.std.proofs.Common.{◌≡◌, ℕ, ◌+◌, ◌*◌, ◌≤◌, Bool, true, false, ◌&&◌, List, [], ◌∷◌, length, Some, ℤ, pos, negsuc, ◌+ℤ◌, ◌-ℤ◌, ◌*ℤ◌, ◌≤ℤ◌, int_le, sym, ◌∙◌, ap, arith}
use Rattle.std.specs.Prelude.{unsigned_abs, max}
use Rattle.std.specs.Int.{int_max}
use Rattle.std.specs.List.{list_all}
use Rattle.std.proofs.Math.Nat.{mul-le-mul_right}
use Rattle.std.proofs.lemmas.Bool.{and_parts}
use Rattle.std.proofs.lemmas.Int.{ints}
use Rattle.std.proofs.lemmas.List.Folds.{list_all-map}
use Rattle.std.proofs.lemmas.Option.{cond_some}
use Rattle.crew_pairing.specs.Legality.{total}
use Rattle.crew_pairing.specs.Events.{IsSound, MayFollow, arrival_of, departure_of}
use Rattle.crew_pairing.specs.declared.duty.Duty.{Duty}
use Rattle.crew_resource.specs.Machinery.Sum.{is_within, sum_of, beginnings, first_adds, next_adds, NeverFalls}
use Rattle.crew_resource.specs.Machinery.Count.{count_grade}
use Rattle.crew_resource.specs.Machinery.SumStages.{sum_fits}
use Rattle.crew_resource.proofs.Caps.{whole_test}
use Rattle.crew_rules.specs.Settings.{fdp_most}
use Rattle.crew_rules.specs.Settings.{IsChecked}
use Rattle.crew_rules.specs.declared.settings.Settings.{Settings}
use Rattle.crew_vector.specs.Machinery.Along.{GoesOn, IsLine}
use Rattle.crew_vector.specs.Machinery.Amounts.{away_own, away_wait}
use Rattle.crew_pairing.specs.Vectors.{reduced_cost, prices, cost_of, vector_of}
use Rattle.crew_pairing.specs.Pairings.{is_within_caps, minutes_away}
use Rattle.crew_vector.specs.Values.{stays_within_caps, value_of}
use Rattle.crew_pairing.specs.declared.vector.PairingVector.{PairingVector}
use Rattle.crew_vector.specs.Machinery.VectorResources.{vector_resource}
use Rattle.crew_vector.specs.Machinery.Sides.{fits_in}
use Rattle.crew_flights.specs.Timetable.{IsBasePrice}
use Rattle.crew_vector.proofs.Valued.{caps-together, same-all, sum-total, sum-count, sum-away}

-- sums fit
fits-within : (share n : ℕ) → share ≤ 10_000_000_000 → n ≤ 100_000 → sum_fits share n
fits-within share n h k = let m = mul-le-mul_right (2 * share) k in omega (arith, m, h)

price-size : (b : ℤ) → IsBasePrice b → unsigned_abs b ≤ 1_000_000_000
price-size (pos n) h = omega (arith, ints, h.most)
price-size (negsuc n) h = omega (arith, ints, h.least)

pub all-fit : (s : Settings) (b : ℤ) → IsChecked s → IsBasePrice b → (n : ℕ) → n ≤ 100_000 → fits_in (vector_resource s b) n
all-fit s b checked price n h =
    let size = price-size b price in
    let rig = checked.trip_rig in
    let points = checked.guarantee in (
      (fits-within (unsigned_abs b + 8_000_020_000) n (omega (arith, size)) h, (fits-within (s.trip_rig * 10_000 + unsigned_abs b + 8_000_000_000) n (omega (arith, size, rig)) h, fits-within (s.guarantee + unsigned_abs b + 8_000_000_000) n (omega (arith, size, points)) h)),
      ((fits-within 840 n (omega arith) h, fits-within 540 n (omega arith) h), (fits-within 1 n (omega arith) h, fits-within 8_280 n (omega arith) h)),
    )

-- the cost is pay less prices
greatest-less : (a b c q : ℤ) → int_max (int_max (a -ℤ q) (b -ℤ q)) (c -ℤ q) ≡ int_max (int_max a b) c -ℤ q
greatest-less a b c q = grind (arith, ints)

pub cost-is : (s : Settings) (b : ℤ) (ds : List Duty) → reduced_cost (vector_of s b ds) ≡ cost_of s b ds
cost-is s b ds = greatest-less (total (λ d. d.pay) ds) (pos s.trip_rig *ℤ minutes_away ds) (pos s.guarantee *ℤ pos (length ds)) (prices b ds)

-- the whole list is the last of its beginnings
pub whole-passes : {A : Type 0} (p : List A → Bool) (x : A) (ys : List A) → list_all p (beginnings (x ∷ ys)) ≡ true → p (x ∷ ys) ≡ true
whole-passes p x [] e = (and_parts _ _ e).0
whole-passes p x (y ∷ ys) e = whole-passes (λ b. p (x ∷ b)) y ys (sym (list_all-map p (λ b. x ∷ b) (beginnings (y ∷ ys))) ∙ (and_parts _ _ e).1)

-- a value is the vector of a list within the caps
pub value-out : (s : Settings) (b : ℤ) (ds : List Duty) (v : PairingVector) → value_of s b ds ≡ Some v → (is_within_caps s ds ≡ true) × (vector_of s b ds ≡ v)
value-out s b [] v e = absurd (let q : ⊥ = (cc) in q)
value-out s b (x ∷ ys) v e =
    let k = cond_some (stays_within_caps s (x ∷ ys)) (vector_of s b (x ∷ ys)) v e in
    (whole-passes (is_within_caps s) x ys k.0, k.1)

pub few : (s : Settings) (ds : List Duty) → is_within_caps s ds ≡ true → length ds ≤ s.max_duties
few s ds h =
    let test = (and_parts _ _ (and_parts _ _ (and_parts _ _ h).1).1).0 in
    int-test (length ds) s.max_duties test
  where
    int-test : (m n : ℕ) → int_le (pos m) (pos n) ≡ true → m ≤ n
    int-test m n h = grind (arith, ints)

-- nothing that is capped falls along a line of duties
own-never : (f : Duty → ℤ) → ((d : Duty) → IsSound d → pos 0 ≤ℤ f d) → (x : Duty) (ys : List Duty) → GoesOn IsSound MayFollow arrival_of departure_of x ys → NeverFalls (λ _ d. pos 0 +ℤ f d) x ys
own-never f least x [] h = tt
own-never f least x (y ∷ ys) h = (omega (arith, ints, least y h.0), own-never f least y ys h.2)

count-never : (x : Duty) (ys : List Duty) → NeverFalls (λ _ _. pos 1) x ys
count-never x [] = tt
count-never x (y ∷ ys) = (omega (arith, ints), count-never y ys)

away-never : (x : Duty) (ys : List Duty) → GoesOn IsSound MayFollow arrival_of departure_of x ys → NeverFalls (next_adds arrival_of departure_of away_wait away_own) x ys
away-never x [] h = tt
away-never x (y ∷ ys) h = (omega (arith, ints, h.0.elapsed, h.1.rest), away-never y ys h.2)

capped-whole : (first : Duty → ℤ) (next : Duty → Duty → ℤ) (f : List Duty → ℤ) (cap : ℕ) → ((ds : List Duty) → sum_of first next ds ≡ f ds) → (x : Duty) (ys : List Duty) → NeverFalls next x ys
    → list_all (λ ds. int_le (f ds) (pos cap)) (beginnings (x ∷ ys)) ≡ int_le (f (x ∷ ys)) (pos cap)
capped-whole first next f cap same x ys h =
    sym (same-all (λ ds. is_within (Some (pos cap)) (sum_of first next ds)) (λ ds. int_le (f ds) (pos cap)) (λ ds. ap (λ z. int_le z (pos cap)) (same ds)) (beginnings (x ∷ ys)))
    ∙ (whole_test first next (Some (pos cap)) x ys h ∙ ap (λ z. int_le z (pos cap)) (same (x ∷ ys)))

own-capped : (f : Duty → ℤ) (cap : ℕ) → ((d : Duty) → IsSound d → pos 0 ≤ℤ f d) → (x : Duty) (ys : List Duty) → GoesOn IsSound MayFollow arrival_of departure_of x ys
    → list_all (λ ds. int_le (total f ds) (pos cap)) (beginnings (x ∷ ys)) ≡ int_le (total f (x ∷ ys)) (pos cap)
own-capped f cap least x ys h = capped-whole (λ d. pos 0 +ℤ f d) (λ _ d. pos 0 +ℤ f d) (total f) cap (sum-total f) x ys (own-never f least x ys h)

regroup : (a b c d p q r t : Bool) → a ≡ p → b ≡ q → c ≡ r → d ≡ t → (a && b) && (c && d) ≡ (p && (q && (r && t)))
regroup a b c d true q r t e f g h = ap (λ z. (z && b) && (c && d)) e ∙ (ap (λ z. z && (c && d)) f ∙ (ap (λ z. q && (z && d)) g ∙ ap (λ z. q && (r && z)) h))
regroup a b c d false q r t e f g h = ap (λ z. (z && b) && (c && d)) e

pub caps-of-whole : (s : Settings) (x : Duty) (ys : List Duty) → IsLine (x ∷ ys) → stays_within_caps s (x ∷ ys) ≡ is_within_caps s (x ∷ ys)
caps-of-whole s x ys h =
    sym (caps-together s (beginnings (x ∷ ys)))
    ∙ regroup _ _ _ _ _ _ _ _
    (own-capped (λ d. d.fdp) (fdp_most s) (λ d sound. sound.fdp) x ys h.1)
    (own-capped (λ d. d.fly) s.fly_cap (λ d sound. sound.fly) x ys h.1)
    (capped-whole (λ _. pos 1) (λ _ _. pos 1) (λ ds. pos (length ds)) s.max_duties sum-count x ys (count-never x ys))
    (capped-whole (first_adds departure_of (λ _. pos 0) away_own) (next_adds arrival_of departure_of away_wait away_own) minutes_away s.away_cap sum-away x ys (away-never x ys h.1))

abbrev pub grade : PairingVector → ℕ
grade v = max (max 0 (max 0 0)) (max (max 0 0) (max (count_grade v.duties) 0))

pub grade-counts : (s : Settings) (b : ℤ) (ds : List Duty) (v : PairingVector) → IsChecked s → value_of s b ds ≡ Some v → grade v ≡ length ds
grade-counts s b ds v checked e =
    let out = value-out s b ds v e in
    let most = few s ds out.0 in
    let cap = checked.max_duties_most in
    let count : grade (vector_of s b ds) ≡ length ds = omega (arith, most, cap) in
    ap grade (sym out.1) ∙ count
