-- The laws of anchored vectors as a resource, in steps and in stages.
use Rattle.std.specs.Prelude.{◌≡◌, ℕ, suc, ◌+◌, ◌*◌, ◌≤◌, ◌^◌, Bool, true, ◌&&◌, cond, int_le, ℤ, pos, negsuc, ◌+ℤ◌, ◌-ℤ◌, ◌*ℤ◌, ◌≤ℤ◌, neg_ℤ, unsigned_abs, List, [], ◌∷◌, ◌++◌, Option, Some, None, refl}
use Rattle.std.specs.Option.{option_and_then}
use Rattle.std.specs.Ordering.{ordering_then}
use Rattle.std.specs.declared.cmp.Ordering.{Ordering}
use Rattle.std.proofs.Common.{sym, ◌∙◌, ap, subst, arith, append_assoc}
use Rattle.std.proofs.Math.IntN.{pos-*ℤ-negsuc}
use Rattle.std.proofs.Math.Nat.{suc-mul, mul-le-mul_left, mul-le-mul_right}
use Rattle.std.proofs.lemmas.Bool.{and_from, and_parts}
use Rattle.std.proofs.lemmas.Int.{ints}
use Rattle.std.proofs.lemmas.Option.{cond_some}
use Rattle.crew_pairing.specs.Events.{IsSound, MayFollow, arrival_of, departure_of}
use Rattle.crew_pairing.specs.declared.duty.Duty.{Duty}
use Rattle.crew_pairing.specs.declared.events.Arrival.{Arrival}
use Rattle.crew_pairing.specs.declared.events.Departure.{Departure}
use Rattle.crew_resource.specs.Machinery.Count.{count_grade, count_grades}
use Rattle.crew_resource.specs.Resource.{GradesOrder, StepLaws}
use Rattle.crew_resource.specs.Stages.{BoundLaws, CountingLaws, ShiftLaws, StagedLaws}
use Rattle.crew_resource.specs.Machinery.Sum.{LiesWithin}
use Rattle.crew_resource.specs.Machinery.Uses.{HasRoom}
use Rattle.crew_vector.specs.Dominance.{is_at_most}
use Rattle.crew_vector.specs.Fronts.{vector_cmp}
use Rattle.crew_pairing.specs.declared.vector.PairingVector.{PairingVector}
use Rattle.crew_anchor.specs.Machinery.Bounds.{AreWithin, fits_in, is_ready, may_board, share}
use Rattle.crew_anchor.specs.Machinery.Shifts.{cmp_less, cmp_more, le_less, le_more}
use Rattle.crew_anchor.specs.Stages.{anchored_board, flown, is_within_caps_at}
use Rattle.crew_anchor.specs.Machinery.Values.{anchored_value, begun, boarded_all, near}
use Rattle.crew_anchor.specs.declared.resource.AnchoredResource.{AnchoredResource}

-- a duty that boards keeps and reflects the order
abbrev seven : Bool → Bool → Bool → Bool → Bool → Bool → Bool → Bool
seven a b c f y n w = (a && (b && c)) && ((f && y) && (n && w))

same-seven : (a b c f y n w a' b' c' f' y' n' : Bool) → a ≡ a' → b ≡ b' → c ≡ c' → f ≡ f' → y ≡ y'
    → n ≡ n' → seven a b c f y n w ≡ seven a' b' c' f' y' n' w
same-seven a b c f y n w a' b' c' f' y' n' p q r i j k =
    ap (λ z. seven z b c f y n w) p
    ∙ (ap (λ z. seven a' z c f y n w) q
    ∙ (ap (λ z. seven a' b' z f y n w) r
    ∙ (ap (λ z. seven a' b' c' z y n w) i
    ∙ (ap (λ z. seven a' b' c' f' z n w) j
    ∙ ap (λ z. seven a' b' c' f' y' z w) k))))

pub flown-order : (r : AnchoredResource) (a b : PairingVector) (d : Duty) → is_at_most (flown r a d)
    (flown r b d) ≡ is_at_most a b
flown-order r a b d =
    same-seven _ _ _ _ _ _ _ _ _ _ _ _ _
    (le_more a.duty_pay b.duty_pay (d.pay -ℤ d.price))
    (le_less a.trip_rig b.trip_rig d.price)
    (le_more a.guarantee b.guarantee (pos r.guarantee -ℤ d.price))
    (le_more a.fdp b.fdp d.fdp)
    (le_more a.fly b.fly d.fly)
    (le_more a.duties b.duties (pos 1))

abbrev listed : Ordering → Ordering → Ordering → Ordering → Ordering → Ordering → Ordering
    → Ordering
listed a b c f y n w = ordering_then a (ordering_then b (ordering_then c (ordering_then f
    (ordering_then y (ordering_then n w)))))

same-listed : (a b c f y n w a' b' c' f' y' n' : Ordering) → a ≡ a' → b ≡ b' → c ≡ c' → f ≡ f'
    → y ≡ y' → n ≡ n' → listed a b c f y n w ≡ listed a' b' c' f' y' n' w
same-listed a b c f y n w a' b' c' f' y' n' p q r i j k =
    ap (λ z. listed z b c f y n w) p
    ∙ (ap (λ z. listed a' z c f y n w) q
    ∙ (ap (λ z. listed a' b' z f y n w) r
    ∙ (ap (λ z. listed a' b' c' z y n w) i
    ∙ (ap (λ z. listed a' b' c' f' z n w) j
    ∙ ap (λ z. listed a' b' c' f' y' z w) k))))

pub flown-listed : (r : AnchoredResource) (a b : PairingVector) (d : Duty)
    → vector_cmp (flown r a d) (flown r b d) ≡ vector_cmp a b
flown-listed r a b d =
    same-listed _ _ _ _ _ _ _ _ _ _ _ _ _
    (cmp_more a.duty_pay b.duty_pay (d.pay -ℤ d.price))
    (cmp_less a.trip_rig b.trip_rig d.price)
    (cmp_more a.guarantee b.guarantee (pos r.guarantee -ℤ d.price))
    (cmp_more a.fdp b.fdp d.fdp)
    (cmp_more a.fly b.fly d.fly)
    (cmp_more a.duties b.duties (pos 1))

-- who boards is within the caps
pub board-out : (r : AnchoredResource) (v z : PairingVector) (d : Duty)
    → anchored_board r v d ≡ Some z → (is_within_caps_at r d.release (flown r v d) ≡ true)
    × (flown r v d ≡ z)
board-out r v z d e = cond_some (is_within_caps_at r d.release (flown r v d)) (flown r v d) z e

board-in : (r : AnchoredResource) (v : PairingVector) (d : Duty) → is_within_caps_at r d.release
    (flown r v d) ≡ true → anchored_board r v d ≡ Some (flown r v d)
board-in r v d e = ap (λ b. cond b (Some (flown r v d)) None) e

lower : (a b cap : ℤ) → int_le a b ≡ true → int_le b cap ≡ true → int_le a cap ≡ true
lower a b cap h k = grind (arith, ints)

lower-at : (a b t cap : ℤ) → int_le a b ≡ true → int_le (b +ℤ t) cap ≡ true
    → int_le (a +ℤ t) cap ≡ true
lower-at a b t cap h k = grind (arith, ints)

-- the caps look at four parts, and let each lesser one through
caps-lower : (r : AnchoredResource) (minute : ℤ) (a b : PairingVector) → is_at_most a b ≡ true
    → is_within_caps_at r minute b ≡ true → is_within_caps_at r minute a ≡ true
caps-lower r minute a b h k =
    let rest = (and_parts _ _ h).1 in
    let minutes = and_parts _ _ (and_parts _ _ rest).0 in
    let others = and_parts _ _ (and_parts _ _ rest).1 in
    let first = and_parts _ _ k in
    let second = and_parts _ _ first.1 in
    let third = and_parts _ _ second.1 in
    and_from _ _ (lower a.fdp b.fdp (pos r.fdp_cap) minutes.0 first.0)
    (and_from _ _ (lower a.fly b.fly (pos r.fly_cap) minutes.1 second.0)
    (and_from _ _ (lower a.duties b.duties (pos r.max_duties) others.0 third.0)
    (lower-at a.away b.away minute (pos r.away_cap) others.1 third.1)))

board-monotone : (r : AnchoredResource) (a b c : PairingVector) (d : Duty) → is_at_most a b ≡ true
    → anchored_board r b d ≡ Some c → (z : PairingVector) × (anchored_board r a d ≡ Some z)
    × (is_at_most z c ≡ true)
board-monotone r a b c d h e =
    let k = board-out r b c d e in
    let less = flown-order r a b d ∙ h in (
      flown r a d,
      board-in r a d (caps-lower r d.release (flown r a d)
          (flown r b d) less k.0),
      subst (λ z. is_at_most (flown r a d) z ≡ true) k.1 less,
    )

-- the value of a list with one more duty
kept : (o : Option PairingVector) → option_and_then (λ z. Some z) o ≡ o
kept None = refl
kept (Some z) = refl

then-board : (r : AnchoredResource) (ds : List Duty) (next : Duty) (o : Option PairingVector)
    → ((z : PairingVector) → boarded_all r z (ds ++ next ∷ []) ≡ option_and_then
    (λ y. anchored_board r y next) (boarded_all r z ds))
    → option_and_then (λ z. boarded_all r z (ds ++ next ∷ [])) o ≡ option_and_then
    (λ y. anchored_board r y next) (option_and_then (λ z. boarded_all r z ds) o)
then-board r ds next None more = refl
then-board r ds next (Some z) more = more z

pub boarded-push : (r : AnchoredResource) (v : PairingVector) (ds : List Duty) (next : Duty)
    → boarded_all r v (ds ++ next ∷ []) ≡ option_and_then (λ y. anchored_board r y next)
    (boarded_all r v ds)
boarded-push r v [] next = kept (anchored_board r v next)
boarded-push r v (d ∷ ds) next = then-board r ds next (anchored_board r v d)
    (λ z. boarded-push r z ds next)

value-push : (r : AnchoredResource) (before : List Duty) (last next : Duty) → anchored_value r
    (before ++ last ∷ next ∷ []) ≡ option_and_then (λ v. anchored_board r v next) (anchored_value r
    (before ++ last ∷ []))
value-push r [] last next = boarded-push r (begun r last.report) (last ∷ []) next
value-push r (d ∷ ds) last next =
    ap (λ es. boarded_all r (begun r d.report) (d ∷ es)) (sym (append_assoc ds (last ∷ [])
    (next ∷ [])))
    ∙ boarded-push r (begun r d.report) (d ∷ ds ++ last ∷ []) next

pub anchored_steps : (r : AnchoredResource) → StepLaws (λ d. anchored_board r (begun r d.report) d)
    (λ v last next. anchored_board r v next) is_at_most (anchored_value r)
anchored_steps r = record {
  monotone = λ a b c last next h e. board-monotone r a b c next h e;
  opening = λ d. kept (anchored_board r (begun r d.report) d);
  extension = value-push r;
}

pub anchored_grading : GradesOrder is_at_most (λ v. count_grade v.duties)
anchored_grading a b h =
    let others = (and_parts _ _ (and_parts _ _ h).1).1 in
    count_grades a.duties b.duties (and_parts _ _ others).0

pub anchored_staged : (r : AnchoredResource)
    → StagedLaws (λ d. anchored_board r (begun r d.report) d) (λ v last next. anchored_board r v
    next) is_at_most arrival_of departure_of (λ (g : Departure). begun r g.report) (λ v
    (x : Arrival) (g : Departure). v) (anchored_board r)
anchored_staged r = record {
  opening = λ d. refl;
  extension = λ v last next. refl;
  wait_monotone = λ a b x g h. h;
  board_monotone = λ a b c d h e. board-monotone r a b c d h e;
}

pub anchored_shifts : (r : AnchoredResource) → ShiftLaws vector_cmp is_at_most (λ v (x : Arrival)
    (g : Departure). v) (anchored_board r)
anchored_shifts r = record {
  wait_strict = λ a b x g e. e;
  wait_reflects = λ a b x g h. h;
  wait_listed = λ a b x g. refl;
  board_reflects = λ a b y z d p q h.
      let j = (board-out r a y d p).1 in
      let k = (board-out r b z d q).1 in
      sym (flown-order r a b d) ∙ (ap (λ u. is_at_most u (flown r b d)) j ∙ (ap (is_at_most y) k
      ∙ h));
  board_listed = λ a b y z d p q.
      let j = (board-out r a y d p).1 in
      let k = (board-out r b z d q).1 in
      ap (λ u. vector_cmp u z) (sym j) ∙ (ap (vector_cmp (flown r a d)) (sym k)
      ∙ flown-listed r a b d);
}

test_le : (a b : ℤ) → int_le a b ≡ true → a ≤ℤ b
test_le a b h = grind (arith, ints)

counting : (r : AnchoredResource) → CountingLaws (λ (v : PairingVector). v.duties) r.max_duties
    (λ (g : Departure). begun r g.report) (λ v (x : Arrival) (g : Departure). v) (anchored_board r)
counting r = record {
  none_yet = λ g. refl;
  none_more = λ v x g. refl;
  one_more = λ v z d e. ap (λ u. u.duties) (sym (board-out r v z d e).1);
  ends = λ v z d e.
      let k = board-out r v z d e in
      let third = and_parts _ _ (and_parts _ _ (and_parts _ _ k.0).1).1 in
      subst (λ u. u.duties ≤ℤ pos r.max_duties) k.1 (test_le (v.duties +ℤ pos 1)
      (pos r.max_duties) third.0);
}

pub anchored_counting : (r : AnchoredResource) (m : ℕ) → ◌≡◌ {A = Option ℕ} (Some r.max_duties)
    (Some m) → CountingLaws (λ (v : PairingVector). v.duties) m (λ (g : Departure). begun r
    g.report) (λ v (x : Arrival) (g : Departure). v) (anchored_board r)
anchored_counting r m e =
    let same : r.max_duties ≡ m = (cc) in
    subst (λ k. CountingLaws (λ (v : PairingVector). v.duties) k (λ (g : Departure). begun r
    g.report) (λ v (x : Arrival) (g : Departure). v) (anchored_board r)) same (counting r)

-- bounds
within : (z : ℤ) (n m : ℕ) → LiesWithin n z → n ≤ m → LiesWithin m z
within z n m h k = let l = h.least in let u = h.most in record {
  least = omega
      (arith, ints);
  most = omega (arith, ints);
}

pub all-within : (v : PairingVector) (n m : ℕ) → AreWithin n v → n ≤ m → AreWithin m v
all-within v n m h k = record {
  duty_pay = within v.duty_pay n m h.duty_pay k;
  trip_rig = within v.trip_rig n m h.trip_rig k;
  guarantee = within v.guarantee n m h.guarantee k;
  fdp = within v.fdp n m h.fdp k;
  fly = within v.fly n m h.fly k;
  duties = within v.duties n m h.duties k;
  away = within v.away n m h.away k;
}

size : (z : ℤ) → LiesWithin (unsigned_abs z) (neg_ℤ z)
size (pos n) = record { least = omega (arith, ints); most = omega (arith, ints) }
size (negsuc n) = record { least = omega (arith, ints); most = omega (arith, ints) }

-- so many for each of so many minutes, before or after
pub product : (rate n : ℕ) (z : ℤ) → LiesWithin n z → LiesWithin (rate * n) (pos rate *ℤ z)
product rate n (pos m) h =
    let u = h.most in
    let l : m ≤ n = omega (arith, ints) in
    let p = mul-le-mul_left rate l in
    record { least = omega (arith, ints, p); most = omega (arith, ints, p) }
product rate n (negsuc m) h =
    let u = h.least in
    let l : suc m ≤ n = omega (arith, ints) in
    let p = mul-le-mul_left rate l in
    let k = pos-*ℤ-negsuc rate m in
    record { least = omega (arith, ints, p, k); most = omega (arith, ints, p, k) }

near-within : (minute : ℤ) → LiesWithin 2_147_483_648 (near minute)
near-within minute = record { least = grind (arith, ints); most = grind (arith, ints) }

taken : (n m : ℕ) (a b : ℤ) → LiesWithin n a → LiesWithin m b → LiesWithin (n + m) (a -ℤ b)
taken n m a b h k =
    let l = h.least in let u = h.most in let o = k.least in let w = k.most in
    record { least = omega (arith, ints); most = omega (arith, ints) }

added : (n m : ℕ) (a b : ℤ) → LiesWithin n a → LiesWithin m b → LiesWithin (n + m) (a +ℤ b)
added n m a b h k =
    let l = h.least in let u = h.most in let o = k.least in let w = k.most in
    record { least = omega (arith, ints); most = omega (arith, ints) }

negated : (n : ℕ) (z : ℤ) → LiesWithin n z → LiesWithin n (neg_ℤ z)
negated n z h = let l = h.least in let u = h.most in record {
  least = omega
      (arith, ints);
  most = omega (arith, ints);
}

still : (n : ℕ) → LiesWithin n (pos 0)
still n = record { least = omega (arith, ints); most = omega (arith, ints) }

pub idle-within : (r : AnchoredResource) (minute : ℤ) → is_ready r 0 (begun r minute)
idle-within r minute =
    let price = size r.base_price in
    let points = product r.trip_rig 2_147_483_648 (near minute) (near-within minute) in
    let base = within (neg_ℤ r.base_price) (unsigned_abs r.base_price) (1 * share r) price
    (omega arith) in
    record {
      duty_pay = base;
      trip_rig = within _ (unsigned_abs r.base_price + r.trip_rig * 2_147_483_648) (1 * share r)
          (taken (unsigned_abs r.base_price) (r.trip_rig * 2_147_483_648) (neg_ℤ r.base_price)
          (pos r.trip_rig *ℤ near minute) price points) (omega arith);
      guarantee = base;
      fdp = still (1 * share r);
      fly = still (1 * share r);
      duties = still (1 * share r);
      away = within _ 2_147_483_648 (1 * share r) (negated 2_147_483_648 (near minute)
          (near-within minute)) (omega arith);
    }

flown-within : (r : AnchoredResource) (n : ℕ) (v : PairingVector) (d : Duty) → IsSound d
    → AreWithin n v → AreWithin (n + share r) (flown r v d)
flown-within r n v d s h = record {
  duty_pay = added n (share r) v.duty_pay (d.pay -ℤ d.price) h.duty_pay (record {
    least = omega
        (arith, ints, s.pay, s.price_most);
    most = omega (arith, ints, s.pay_most, s.price);
  });
  trip_rig = taken n (share r) v.trip_rig d.price h.trip_rig (record {
    least = omega
        (arith, ints, s.price);
    most = omega (arith, ints, s.price_most);
  });
  guarantee = added n (share r) v.guarantee (pos r.guarantee -ℤ d.price) h.guarantee
      (record { least = omega (arith, ints, s.price_most); most = omega (arith, ints, s.price) });
  fdp = added n (share r) v.fdp d.fdp h.fdp (record {
    least = omega (arith, ints, s.fdp);
    most =
        omega (arith, ints, s.fdp_most);
  });
  fly = added n (share r) v.fly d.fly h.fly (record {
    least = omega (arith, ints, s.fly);
    most =
        omega (arith, ints, s.fly_most);
  });
  duties = added n (share r) v.duties (pos 1) h.duties (record {
    least = omega
        (arith, ints);
    most = omega (arith, ints);
  });
  away = within v.away n (n + share r) h.away (omega arith);
}

board-ready : (r : AnchoredResource) (n : ℕ) (v z : PairingVector) (d : Duty) → IsSound d
    → is_ready r n v → anchored_board r v d ≡ Some z → is_ready r (suc n) z
board-ready r n v z d s h e =
    let m = suc-mul (suc n) (share r) in
    subst (is_ready r (suc n)) (board-out r v z d e).1 (all-within (flown r v d)
    (suc n * share r + share r) (suc (suc n) * share r) (flown-within r
    (suc n * share r) v d s h) (omega (arith, m)))

fewer : (r : AnchoredResource) (n k : ℕ) → k ≤ n → fits_in r n → fits_in r k
fewer r n k h f =
    let l : suc k ≤ suc n = omega arith in
    let m = mul-le-mul_right (share r) l in
    omega (arith, m, f)

pub ready-boards : (r : AnchoredResource) (n : ℕ) (v : PairingVector) (d : Duty) → IsSound d
    → fits_in r (suc n) → is_ready r n v → may_board v d
ready-boards r n v d s f h =
    let m = suc-mul (suc n) (share r) in
    (s, all-within v (suc n * share r) (2 ^ 62) h (omega (arith, m, f)))

pub anchored_bounds : (r : AnchoredResource)
    → BoundLaws IsSound (λ _. Unit {0}) MayFollow arrival_of departure_of (λ (g : Departure). begun
    r g.report) (λ v (x : Arrival) (g : Departure). v) (anchored_board r)
    (λ d. IsSound d × fits_in r 1) (λ v last next. may_board v next) (λ _. fits_in r 1)
    (λ _ _ _. Unit {0}) may_board (fits_in r) (is_ready r) (is_ready r)
anchored_bounds r = record {
  idle_ready = λ g b. idle-within r g.report;
  wait_ready = λ n v x g f h. h;
  board_arrived = λ n v z d s h e. board-ready r n v z d s h e;
  fewer = fewer r;
  starts = λ d s b f. (s, f);
  extends = λ n v last next s t f k h. ready-boards r n v next t k h;
  idles = λ g b f. f;
  waits = λ n v x g f k h. tt;
  boards = λ n v d s f h. ready-boards r n v d s f h;
}

-- a value of a list with room for one duty more
pub in-room : (r : AnchoredResource) (v : PairingVector) → HasRoom (fits_in r) (is_ready r) v
    → fits_in r 1 × AreWithin (2 ^ 62) v
in-room r v h =
    let l : 1 ≤ suc h.0 = omega arith in
    let f = h.1 in
    let m = suc-mul (suc h.0) (share r) in
    (fewer r (suc h.0) 1 l h.1, all-within v (suc h.0 * share r) (2 ^ 62) h.2 (omega (arith, m, f)))
