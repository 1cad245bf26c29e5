-- Lists of duties: their last, their caps, and their sums.
use Rattle.std.proofs.Common.{◌≡◌, ◌≤◌, ◌<◌, ◌+◌, ◌-◌, ◌*◌, ℕ, suc, ℤ, pos, negsuc, ◌+ℤ◌, ◌-ℤ◌, ◌*ℤ◌, ◌≤ℤ◌, List, [], ◌∷◌, Some, length, refl, sym, ap, subst, arith, get_or, of_z, take, to_z, w32, w64, add-one}
use Rattle.std.specs.Prelude.{slice_get}
use mir.Val.{SFits}
use Rattle.std.proofs.Math.Nat.{mul-le-mul_left, mul-suc}
use Rattle.std.proofs.lemmas.Int.{ints}
use Rattle.std.proofs.lemmas.Option.{slice_get-get_or}
use Rattle.crew_flights.specs.Timetable.{Turns}
use Rattle.crew_rules.specs.Settings.{IsChecked}
use Rattle.crew_rules.specs.declared.settings.Settings.{Settings}
use Rattle.crew_pairing.specs.Legality.{AllConnect, duty_of, flight_time, price_of, release, report, total}
use Rattle.crew_pairing.specs.Pairings.{last_duty, minutes_away}
use Rattle.crew_pairing.specs.declared.duty.Duty.{Duty}
use Rattle.crew_pairing.specs.declared.leg.TimedLeg.{TimedLeg}
use Rattle.crew_resource.specs.Members.{Each}
use Rattle.crew_pairing.proofs.Sums.{total-take}
use Rattle.crew_pairing.proofs.Tree.{Each-member, slice_get-Member}
use Rattle.crew_pairing.proofs.Paid.{legs-paid}
use Rattle.crew_pairing.proofs.Times.{AllSound, ends-later, flown-total}
use Rattle.crew_explain.specs.Machinery.Ranges.{IsInRange}

pub last_duty-get : (first : Duty) (others : List Duty) (d : Duty) → slice_get (first ∷ others) (length (first ∷ others) - 1) ≡ Some d → last_duty first others ≡ d
last_duty-get first [] d e = cc
last_duty-get first (x ∷ others) d e =
    let n : length (first ∷ x ∷ others) - 1 ≡ suc (length others) = omega arith in
    let m : length (x ∷ others) - 1 ≡ length others = omega arith in
    last_duty-get x others d (rw m (rw n at e))

pub away-ends : (ds : List Duty) (first last : Duty) → slice_get ds 0 ≡ Some first → slice_get ds (length ds - 1) ≡ Some last → last.release -ℤ first.report ≡ minutes_away ds
away-ends [] first last e f = cc
away-ends (x ∷ ds) first last e f =
    let same : x ≡ first = cc in
    let end = last_duty-get x ds last f in
    rw (end, same) refl

-- the facts of sound legs lie in their ranges
pub made-in-range : (s : Settings) (turns : Turns) (first : TimedLeg) (others : List TimedLeg) → IsChecked s → AllSound (first ∷ others) → AllConnect s turns first others → length others ≤ 7
    → pos 15_000_000 ≤ℤ report s first → report s first ≤ℤ pos 70_000_000 → pos 15_000_000 ≤ℤ release s first others → release s first others ≤ℤ pos 70_000_000
    → (pos 0 -ℤ pos 9_000_000_000) ≤ℤ total price_of (first ∷ others) → total price_of (first ∷ others) ≤ℤ pos 9_000_000_000 → IsInRange (duty_of s first others)
made-in-range s turns first others checked sound linked few a b d e p q =
    let debrief = checked.debrief in
    let late = ends-later s turns first others sound linked in
    let flown = flown-total (first ∷ others) sound in
    let most : flight_time first others ≤ℤ pos 70_000_000 = omega (arith, ints, flown.1, few) in
    let pay = legs-paid s turns first others checked few sound linked a e in
    record {
      report = a;
      report_most = b;
      release = d;
      release_most = e;
      fdp = omega (arith, ints, b, d, debrief);
      fdp_most = omega (arith, ints, a, e, debrief);
      fly = omega (arith, ints, flown.0);
      fly_most = omega (arith, ints, most);
      pay = pay.0;
      pay_most = omega (arith, ints, pay.1);
      price = omega (arith, ints, p);
      price_most = omega (arith, ints, q);
    }

-- the points of a guarantee
pub points-between : (points n : ℕ) → points ≤ 20_000 → n ≤ 13 → (pos points *ℤ pos n) ≤ℤ pos 1_000_000_000
points-between points n h k = let p = mul-le-mul_left points k in omega (arith, ints, p)

-- sums in a loop
pub item-in-range : (ds : List Duty) (i : ℕ) (x : Duty) → Each IsInRange ds → i < length ds → x ≡ get_or ds i x → IsInRange x
item-in-range ds i x each h e = subst IsInRange (sym e) (Each-member IsInRange ds (get_or ds i x) each (slice_get-Member ds i (get_or ds i x) (slice_get-get_or ds i x h)))

pub fits-add : (share i n : ℕ) (sum x : ℤ) → (pos 0 -ℤ pos (share * i)) ≤ℤ sum → sum ≤ℤ pos (share * i) → (pos 0 -ℤ pos share) ≤ℤ x → x ≤ℤ pos share → i ≤ n → share * n + share ≤ 1_000_000_000_000
    → to_z w64 (of_z w64 (to_z w64 (of_z w64 sum) +ℤ to_z w64 (of_z w64 x))) ≡ sum +ℤ x
fits-add share i n sum x a b d e h k = let p = mul-le-mul_left share h in omega (arith, ints, p, a, b, d, e, k)

pub sum-more : (f : Duty → ℤ) (ds : List Duty) (i : ℕ) (x : Duty) (before now : ℤ) → i < length ds → x ≡ get_or ds i x → before ≡ total f (take i ds) → now ≡ before +ℤ f x → now ≡ total f (take (i + 1) ds)
sum-more f ds i x before now h e b n =
    let more = total-take f ds i x h in
    let read : f x ≡ f (get_or ds i x) = ap f e in
    omega (arith, ints, more, read, b, n)

-- one duty more in a sum: it fits, it is the longer sum, and it keeps its bounds
pub record SumTo (share : ℕ) (f : Duty → ℤ) (ds : List Duty) (i : ℕ) (sum : ℤ) : Type 0 where
  pub all : sum ≡ total f (take i ds)
  pub least : (pos 0 -ℤ pos (share * i)) ≤ℤ sum
  pub most : sum ≤ℤ pos (share * i)

-- least and most of one duty's share
pub record Shares (d : Duty) : Type 0 where
  pub fdp : (pos 0 -ℤ pos 100_000_000) ≤ℤ d.fdp
  pub fdp_wide : (pos 0 -ℤ pos 1_000_000_000) ≤ℤ d.fdp
  pub fdp_most : d.fdp ≤ℤ pos 1_000_000_000
  pub fly : (pos 0 -ℤ pos 1_000_000_000) ≤ℤ d.fly
  pub pay : (pos 0 -ℤ pos 10_000_000_000) ≤ℤ d.pay
  pub price : (pos 0 -ℤ pos 10_000_000_000) ≤ℤ d.price

pub shares-of : (d : Duty) → IsInRange d → Shares d
shares-of d r = record { fdp = omega (arith, ints, r.fdp); fdp_wide = omega (arith, ints, r.fdp); fdp_most = omega (arith, ints, r.fdp_most); fly = omega (arith, ints, r.fly); pay = omega (arith, ints, r.pay); price = omega (arith, ints, r.price) }

pub read-32 : (z : ℤ) → (pos 0 -ℤ pos 1_000_000_000) ≤ℤ z → z ≤ℤ pos 1_000_000_000 → to_z w32 (of_z w32 z) ≡ z
read-32 z h k = omega (arith, ints, h, k)

pub least-on : (sum x now : ℤ) (m k n : ℕ) → now ≡ sum +ℤ x → n ≡ m + k → (pos 0 -ℤ pos m) ≤ℤ sum → (pos 0 -ℤ pos k) ≤ℤ x → (pos 0 -ℤ pos n) ≤ℤ now
least-on sum x now m k n e g h j = omega (arith, ints, e, g, h, j)

pub most-on : (sum x now : ℤ) (m k n : ℕ) → now ≡ sum +ℤ x → n ≡ m + k → sum ≤ℤ pos m → x ≤ℤ pos k → now ≤ℤ pos n
most-on sum x now m k n e g h j = omega (arith, ints, e, g, h, j)

pub sum-on : (share : ℕ) (f : Duty → ℤ) (ds : List Duty) (i : ℕ) (x : Duty) (sum add : ℤ) → add ≡ f x → sum ≡ total f (take i ds) → (pos 0 -ℤ pos (share * i)) ≤ℤ sum → sum ≤ℤ pos (share * i)
    → (pos 0 -ℤ pos share) ≤ℤ f x → f x ≤ℤ pos share → i < length ds → x ≡ get_or ds i x → length ds ≤ 13 → share ≤ 10_000_000_000
    → SumTo share f ds (i + 1) (to_z w64 (of_z w64 (to_z w64 (of_z w64 sum) +ℤ to_z w64 (of_z w64 add))))
sum-on share f ds i x sum add is so_far least most p q here at few small =
    let fits : to_z w64 (of_z w64 (to_z w64 (of_z w64 sum) +ℤ to_z w64 (of_z w64 add))) ≡ sum +ℤ f x = rw is (fits-add share i 13 sum (f x) least most p q (omega arith) (omega arith)) in
    let grown : share * (i + 1) ≡ share * i + share = rw add-one (mul-suc share i) in
    record {
      all = sum-more f ds i x sum _ here at so_far fits;
      least = least-on sum (f x) _ (share * i) share (share * (i + 1)) fits grown least p;
      most = most-on sum (f x) _ (share * i) share (share * (i + 1)) fits grown most q;
    }

pub sum-fits : (share i : ℕ) (sum x add : ℤ) → add ≡ x → (pos 0 -ℤ pos (share * i)) ≤ℤ sum → sum ≤ℤ pos (share * i) → (pos 0 -ℤ pos share) ≤ℤ x → x ≤ℤ pos share → i ≤ 13 → share ≤ 10_000_000_000
    → SFits w64 (to_z w64 (of_z w64 sum) +ℤ to_z w64 (of_z w64 add))
sum-fits share i sum x add is a b d e h k = let p = mul-le-mul_left share h in omega (arith, ints, is, p, a, b, d, e, k)

-- numbers that fit
pub fits-self : (z : ℤ) → (pos 0 -ℤ pos 200_000_000_000) ≤ℤ z → z ≤ℤ pos 200_000_000_000 → to_z w64 (of_z w64 z) ≡ z
fits-self z h k = omega (arith, ints, h, k)

pub fits-less : (a p b : ℤ) → (pos 0 -ℤ pos 200_000_000_000) ≤ℤ a → a ≤ℤ pos 200_000_000_000 → (pos 0 -ℤ pos 200_000_000_000) ≤ℤ p → p ≤ℤ pos 200_000_000_000
    → negsuc 999_999_999 ≤ℤ b → b ≤ℤ pos 1_000_000_000 → to_z w64 (of_z w64 (to_z w64 (of_z w64 a) -ℤ to_z w64 (of_z w64 (to_z w64 (of_z w64 p) +ℤ to_z w64 (of_z w64 b))))) ≡ a -ℤ (p +ℤ b)
fits-less a p b h i j k l m = omega (arith, ints, h, i, j, k, l, m)

pub last_duty-end : (first : Duty) (others : List Duty) (d : Duty) → slice_get others (length others - 1) ≡ Some d → last_duty first others ≡ d
last_duty-end first [] d e = cc
last_duty-end first (x ∷ others) d e = last_duty-get x others d e
