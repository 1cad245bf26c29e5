-- The value that the parts side by side give to a list is its vector, and none exactly where a beginning passes a cap.
use Rattle.std.proofs.Common.{◌≡◌, ℕ, suc, Bool, true, false, ◌&&◌, cond, List, [], ◌∷◌, length, Option, Some, None, ℤ, pos, ◌+ℤ◌, ◌-ℤ◌, ◌*ℤ◌, int_le, refl, ◌∙◌, ap, arith}
use Rattle.std.specs.Prelude.{neg_ℤ}
use Rattle.std.specs.List.{list_all}
use Rattle.std.specs.Option.{option_map}
use Rattle.std.proofs.Math.IntN.{*ℤ-zero}
use Rattle.std.proofs.lemmas.Int.{ints}
use Rattle.crew_pairing.specs.Events.{arrival_of, departure_of}
use Rattle.crew_pairing.specs.Legality.{total}
use Rattle.crew_pairing.specs.declared.duty.Duty.{Duty}
use Rattle.crew_resource.specs.Machinery.Both.{both}
use Rattle.crew_resource.specs.Machinery.Sum.{is_within, rises, sum_of, beginnings, capped_sum, first_adds, next_adds}
use Rattle.crew_resource.proofs.SignedProducts.{joined}
use Rattle.crew_rules.specs.Settings.{fdp_most}
use Rattle.crew_rules.specs.declared.settings.Settings.{Settings}
use Rattle.crew_vector.specs.Machinery.Amounts.{away_own, away_wait, guarantee_own, pay_own, rig_own, rig_wait}
use Rattle.crew_pairing.specs.Pairings.{is_within_caps, last_duty, minutes_away}
use Rattle.crew_vector.specs.Machinery.Numbers.{Numbers, named, numbers_of}
use Rattle.crew_vector.specs.Machinery.VectorResources.{vector_resource}
use Rattle.crew_pairing.specs.Vectors.{vector_of}
use Rattle.crew_vector.specs.Values.{value_of}
use Rattle.crew_vector.specs.Machinery.Sides.{summed}

-- each part's sum along a list is its sum over the whole list
rises-total : (f : Duty → ℤ) (x : Duty) (ys : List Duty) → rises (λ _ d. pos 0 +ℤ f d) x ys ≡ total f ys
rises-total f x [] = refl
rises-total f x (y ∷ ys) = omega (arith, ints, rises-total f y ys)

pub sum-total : (f : Duty → ℤ) (ds : List Duty) → sum_of (λ d. pos 0 +ℤ f d) (λ _ d. pos 0 +ℤ f d) ds ≡ total f ds
sum-total f [] = refl
sum-total f (x ∷ ys) = omega (arith, ints, rises-total f x ys)

rises-count : (x : Duty) (ys : List Duty) → rises (λ _ _. pos 1) x ys ≡ pos (length ys)
rises-count x [] = refl
rises-count x (y ∷ ys) = omega (arith, ints, rises-count y ys)

pub sum-count : (ds : List Duty) → sum_of (λ _. pos 1) (λ _ _. pos 1) ds ≡ pos (length ds)
sum-count [] = refl
sum-count (x ∷ ys) = omega (arith, ints, rises-count x ys)

rises-away : (x : Duty) (ys : List Duty) → rises (next_adds arrival_of departure_of away_wait away_own) x ys ≡ (last_duty x ys).release -ℤ x.release
rises-away x [] = omega (arith, ints)
rises-away x (y ∷ ys) = omega (arith, ints, rises-away y ys)

pub sum-away : (ds : List Duty) → sum_of (first_adds departure_of (λ _. pos 0) away_own) (next_adds arrival_of departure_of away_wait away_own) ds ≡ minutes_away ds
sum-away [] = refl
sum-away (x ∷ ys) = omega (arith, ints, rises-away x ys)

rises-pay : (x : Duty) (ys : List Duty) → rises (λ _ d. pos 0 +ℤ pay_own d) x ys ≡ total (λ d. d.pay) ys -ℤ total (λ d. d.price) ys
rises-pay x [] = refl
rises-pay x (y ∷ ys) = omega (arith, ints, rises-pay y ys)

sum-pay : (s : Settings) (b : ℤ) (x : Duty) (ys : List Duty) → sum_of (λ d. neg_ℤ b +ℤ pay_own d) (λ _ d. pos 0 +ℤ pay_own d) (x ∷ ys) ≡ (vector_of s b (x ∷ ys)).duty_pay
sum-pay s b x ys = omega (arith, ints, rises-pay x ys)

none-away : (r a : ℤ) → pos 0 ≡ r *ℤ (a -ℤ a) -ℤ pos 0
none-away r a =
    let zero : a -ℤ a ≡ pos 0 = omega (arith, ints) in
    omega (arith, ints, ap (λ z. r *ℤ z) zero ∙ *ℤ-zero r)

-- a rest and the duty after it
pub stretch : (r a b c p : ℤ) → r *ℤ (b -ℤ a) +ℤ (r *ℤ (c -ℤ b) -ℤ p) ≡ r *ℤ (c -ℤ a) -ℤ p
stretch r a b c p = omega (arith, ints, joined r a b c (pos 0) p)

rises-rig : (r : ℕ) (x : Duty) (ys : List Duty) → rises (next_adds arrival_of departure_of (rig_wait r) (rig_own r)) x ys ≡ pos r *ℤ ((last_duty x ys).release -ℤ x.release) -ℤ total (λ d. d.price) ys
rises-rig r x [] = none-away (pos r) x.release
rises-rig r x (y ∷ ys) =
    omega (arith, ints, rises-rig r y ys, stretch (pos r) x.release y.report y.release y.price, joined (pos r) x.release y.release (last_duty y ys).release y.price (total (λ d. d.price) ys))

sum-rig : (s : Settings) (b : ℤ) (x : Duty) (ys : List Duty) → sum_of (λ d. neg_ℤ b +ℤ rig_own s.trip_rig d) (next_adds arrival_of departure_of (rig_wait s.trip_rig) (rig_own s.trip_rig)) (x ∷ ys) ≡ (vector_of s b (x ∷ ys)).trip_rig
sum-rig s b x ys = omega (arith, ints, rises-rig s.trip_rig x ys, joined (pos s.trip_rig) x.report x.release (last_duty x ys).release x.price (total (λ d. d.price) ys))

one-more : (p n : ℕ) → pos p *ℤ pos (suc n) ≡ pos p +ℤ pos p *ℤ pos n
one-more p n = omega (arith, ints)

rises-guarantee : (p : ℕ) (x : Duty) (ys : List Duty) → rises (λ _ d. pos 0 +ℤ guarantee_own p d) x ys ≡ pos p *ℤ pos (length ys) -ℤ total (λ d. d.price) ys
rises-guarantee p x [] = omega (arith, ints)
rises-guarantee p x (y ∷ ys) = omega (arith, ints, rises-guarantee p y ys, one-more p (length ys))

sum-guarantee : (s : Settings) (b : ℤ) (x : Duty) (ys : List Duty) → sum_of (λ d. neg_ℤ b +ℤ guarantee_own s.guarantee d) (λ _ d. pos 0 +ℤ guarantee_own s.guarantee d) (x ∷ ys) ≡ (vector_of s b (x ∷ ys)).guarantee
sum-guarantee s b x ys = omega (arith, ints, rises-guarantee s.guarantee x ys, one-more s.guarantee (length ys))

-- parts without a cap, and parts with one
all-true : {A : Type 0} (xs : List A) → list_all (λ _. true) xs ≡ true
all-true [] = refl
all-true (x ∷ xs) = all-true xs

free : (first : Duty → ℤ) (next : Duty → Duty → ℤ) (x : Duty) (ys : List Duty) → capped_sum first next None (x ∷ ys) ≡ Some (sum_of first next (x ∷ ys))
free first next x ys = ap (λ b. cond b (Some (sum_of first next (x ∷ ys))) None) (all-true (beginnings (x ∷ ys)))

pub same-all : {A : Type 0} (p q : A → Bool) → ((a : A) → p a ≡ q a) → (xs : List A) → list_all p xs ≡ list_all q xs
same-all p q h [] = refl
same-all p q h (x ∷ xs) = ap (λ b. b && list_all p xs) (h x) ∙ ap (λ b. q x && b) (same-all p q h xs)

capped : (first : Duty → ℤ) (next : Duty → Duty → ℤ) (f : List Duty → ℤ) (cap : ℕ) → ((ds : List Duty) → sum_of first next ds ≡ f ds) → (x : Duty) (ys : List Duty)
    → capped_sum first next (Some (pos cap)) (x ∷ ys) ≡ cond (list_all (λ ds. int_le (f ds) (pos cap)) (beginnings (x ∷ ys))) (Some (f (x ∷ ys))) None
capped first next f cap same x ys =
    ap (λ b. cond b (Some (sum_of first next (x ∷ ys))) None) (same-all (λ ds. is_within (Some (pos cap)) (sum_of first next ds)) (λ ds. int_le (f ds) (pos cap)) (λ ds. ap (λ z. int_le z (pos cap)) (same ds)) (beginnings (x ∷ ys)))
    ∙ ap (λ z. cond (list_all (λ ds. int_le (f ds) (pos cap)) (beginnings (x ∷ ys))) (Some z) None) (same (x ∷ ys))

pub both-capped : {A B : Type 0} (p q : Bool) (a : A) (b : B) → both (cond p (Some a) None) (cond q (Some b) None) ≡ cond (p && q) (Some (a, b)) None
both-capped true true a b = refl
both-capped true false a b = refl
both-capped false q a b = refl

pub both-free : {A B : Type 0} (q : Bool) (a : A) (b : B) → both (Some a) (cond q (Some b) None) ≡ cond q (Some (a, b)) None
both-free true a b = refl
both-free false a b = refl

pub shuffle : (a b c d : Bool) → (a && b) && (c && d) ≡ (a && (b && (c && d)))
shuffle true b c d = refl
shuffle false b c d = refl

all-and : {A : Type 0} (p q : A → Bool) (xs : List A) → (list_all p xs && list_all q xs) ≡ list_all (λ a. p a && q a) xs
all-and p q [] = refl
all-and p q (x ∷ xs) = regroup (p x) (list_all p xs) (q x) (list_all q xs) ∙ ap (λ b. (p x && q x) && b) (all-and p q xs)
  where
    regroup : (a b c d : Bool) → (a && b) && (c && d) ≡ ((a && c) && (b && d))
    regroup true true c d = refl
    regroup true false true d = refl
    regroup true false false d = refl
    regroup false b c d = refl

both-is : {A B : Type 0} (a c : Option A) (b d : Option B) → a ≡ c → b ≡ d → both a b ≡ both c d
both-is a c b d e f = ap (λ z. both z b) e ∙ ap (both c) f

pub named-cond : (q : Bool) (n : Numbers) → option_map named (cond q (Some n) None) ≡ cond q (Some (named n)) None
named-cond true n = refl
named-cond false n = refl

pub caps-together : (s : Settings) (bs : List (List Duty))
    → ((list_all (λ ds. int_le (total (λ d. d.fdp) ds) (pos (fdp_most s))) bs && list_all (λ ds. int_le (total (λ d. d.fly) ds) (pos s.fly_cap)) bs)
    && (list_all (λ ds. int_le (pos (length ds)) (pos s.max_duties)) bs && list_all (λ ds. int_le (minutes_away ds) (pos s.away_cap)) bs))
    ≡ list_all (is_within_caps s) bs
caps-together s bs =
    let f = λ (ds : List Duty). int_le (total (λ d. d.fdp) ds) (pos (fdp_most s)) in
    let y = λ (ds : List Duty). int_le (total (λ d. d.fly) ds) (pos s.fly_cap) in
    let n = λ (ds : List Duty). int_le (pos (length ds)) (pos s.max_duties) in
    let a = λ (ds : List Duty). int_le (minutes_away ds) (pos s.away_cap) in
    shuffle (list_all f bs) (list_all y bs) (list_all n bs) (list_all a bs)
    ∙ (ap (λ q. list_all f bs && (list_all y bs && q)) (all-and n a bs)
    ∙ (ap (λ q. list_all f bs && q) (all-and y (λ ds. n ds && a ds) bs)
    ∙ all-and f (λ ds. y ds && (n ds && a ds)) bs))

pub composed-value : (s : Settings) (b : ℤ) (ds : List Duty) → option_map named (summed (vector_resource s b) ds) ≡ value_of s b ds
composed-value s b [] = refl
composed-value s b (x ∷ ys) =
    let p = vector_of s b (x ∷ ys) in
    let bs = beginnings (x ∷ ys) in
    let fdp = list_all (λ ds. int_le (total (λ d. d.fdp) ds) (pos (fdp_most s))) bs in
    let fly = list_all (λ ds. int_le (total (λ d. d.fly) ds) (pos s.fly_cap)) bs in
    let count = list_all (λ ds. int_le (pos (length ds)) (pos s.max_duties)) bs in
    let away = list_all (λ ds. int_le (minutes_away ds) (pos s.away_cap)) bs in
    let pays = free (λ d. neg_ℤ b +ℤ pay_own d) (λ _ d. pos 0 +ℤ pay_own d) x ys ∙ ap Some (sum-pay s b x ys) in
    let rigs = free (λ d. neg_ℤ b +ℤ rig_own s.trip_rig d) (next_adds arrival_of departure_of (rig_wait s.trip_rig) (rig_own s.trip_rig)) x ys ∙ ap Some (sum-rig s b x ys) in
    let guarantees = free (λ d. neg_ℤ b +ℤ guarantee_own s.guarantee d) (λ _ d. pos 0 +ℤ guarantee_own s.guarantee d) x ys ∙ ap Some (sum-guarantee s b x ys) in
    let money = both-is _ _ _ _ pays (both-is _ _ _ _ rigs guarantees) in
    let minutes =
    both-is _ _ _ _ (capped (λ d. pos 0 +ℤ d.fdp) (λ _ d. pos 0 +ℤ d.fdp) (λ ds. total (λ d. d.fdp) ds) (fdp_most s) (sum-total (λ d. d.fdp)) x ys) (capped (λ d. pos 0 +ℤ d.fly) (λ _ d. pos 0 +ℤ d.fly) (λ ds. total (λ d. d.fly) ds) s.fly_cap (sum-total (λ d. d.fly)) x ys)
    ∙ both-capped fdp fly p.fdp p.fly in
    let spans =
    both-is _ _ _ _ (capped (λ _. pos 1) (λ _ _. pos 1) (λ ds. pos (length ds)) s.max_duties sum-count x ys) (capped (first_adds departure_of (λ _. pos 0) away_own) (next_adds arrival_of departure_of away_wait away_own) minutes_away s.away_cap sum-away x ys)
    ∙ both-capped count away p.duties p.away in
    let limits = both-is _ _ _ _ minutes spans ∙ both-capped (fdp && fly) (count && away) (p.fdp, p.fly) (p.duties, p.away) in
    ap (option_map named) (both-is _ _ _ _ money limits ∙ both-free ((fdp && fly) && (count && away)) (p.duty_pay, (p.trip_rig, p.guarantee)) ((p.fdp, p.fly), (p.duties, p.away)))
    ∙ (named-cond ((fdp && fly) && (count && away)) (numbers_of p) ∙ ap (λ q. cond q (Some p) None) (caps-together s bs))
