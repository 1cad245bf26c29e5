-- Lists of duties: their last, their caps, and their sums.
use Rattle.std.proofs.Common.{◌≡◌, ◌≤◌, ◌<◌, ◌+◌, ◌-◌, ◌*◌, ◌&&◌, ℕ, suc, ℤ, pos, negsuc, ◌+ℤ◌, ◌-ℤ◌, ◌*ℤ◌, ◌≤ℤ◌, ◌<ℤ◌, int_le, Bool, true, false, List, [], ◌∷◌, ◌++◌, Some, None, length, refl, sym, ap, subst, ◌∙◌, arith, get_or, length-append, of_z, take, to_z, w32, w64, add-one}
use Rattle.std.specs.Prelude.{slice_get}
use mir.Val.{SFits}
use Rattle.std.specs.Ordering.{eq_by_cmp}
use Rattle.std.proofs.Math.Nat.{mul-le-mul_left, mul-suc}
use Rattle.std.proofs.lemmas.Bool.{and_parts}
use Rattle.std.proofs.lemmas.Int.{ints}
use Rattle.std.proofs.lemmas.Option.{slice_get-get_or}
use Rattle.std.specs.Cmp.{eq_by_cmp_equiv}
use Rattle.crew_flights.specs.Codes.{code_cmp, code_cmp_total}
use Rattle.crew_flights.specs.Timetable.{Turns}
use Rattle.crew_rules.specs.Settings.{IsChecked}
use Rattle.crew_rules.specs.declared.settings.Settings.{Settings}
use Rattle.crew_pairing.specs.Legality.{AllConnect, duty_of, flight_time, price_of, release, report, total}
use Rattle.crew_pairing.specs.Pairings.{last_duty, may_stand_after, minutes_away}
use Rattle.crew_pairing.specs.declared.duty.Duty.{Duty}
use Rattle.crew_pairing.specs.declared.leg.TimedLeg.{TimedLeg}
use Rattle.crew_resource.specs.Members.{Each}
use Rattle.crew_pairing.proofs.Sums.{total-push, total-take}
use Rattle.crew_pairing.proofs.Tree.{Each-member, slice_get-Member}
use Rattle.crew_pairing.proofs.Paid.{legs-paid}
use Rattle.crew_pairing.proofs.Times.{AllSound, ends-later, flown-total}
use Rattle.crew_history.specs.Limits.{arrival}
use Rattle.crew_audit.specs.Machinery.Endings.{last_window, window_to}
use Rattle.crew_audit.specs.Machinery.Listing.{comes_back, keeps_totals, may_join}
use Rattle.crew_audit.specs.Machinery.Ranges.{IsInRange}

pub last_duty-get : (first : Duty) (others : List Duty) (d : Duty) → slice_get (first ∷ others) (length (first ∷ others) - 1) ≡ Some d → last_duty first others ≡ d
last_duty-get first [] d e = cc
last_duty-get first (x ∷ others) d e =
    let n : length (first ∷ x ∷ others) - 1 ≡ suc (length others) = omega arith in
    let m : length (x ∷ others) - 1 ≡ length others = omega arith in
    last_duty-get x others d (rw m (rw n at e))

pub last_duty-push : (first : Duty) (others : List Duty) (d : Duty) → last_duty first (others ++ d ∷ []) ≡ d
last_duty-push first [] d = refl
last_duty-push first (x ∷ others) d = last_duty-push x others d

pub join-last : (base : List ℕ) (s : Settings) (before : List Duty) (last next : Duty) → slice_get before (length before - 1) ≡ Some last → may_stand_after s last next ≡ may_join base s before next
join-last base s [] last next e = cc
join-last base s (first ∷ others) last next e = ap (λ (d : Duty). may_stand_after s d next) (sym (last_duty-get first others last e))

pub join-none : (base : List ℕ) (s : Settings) (before : List Duty) (first : TimedLeg) → slice_get before (length before - 1) ≡ None → may_join base s before (duty_of s first []) ≡ true → eq_by_cmp code_cmp base first.flight.from ≡ true
join-none base s [] first e t = (eq_by_cmp_equiv code_cmp_total).symm base first.flight.from ∙ t
join-none base s (d ∷ ds) first e t =
    let there = slice_get-get_or (d ∷ ds) (length (d ∷ ds) - 1) d (omega arith) in
    cc

pub back-last : (base : List ℕ) (ds : List Duty) (last : Duty) → slice_get ds (length ds - 1) ≡ Some last → eq_by_cmp code_cmp last.to base ≡ comes_back base ds
back-last base [] last e = cc
back-last base (first ∷ others) last e = ap (λ (d : Duty). eq_by_cmp code_cmp d.to base) (sym (last_duty-get first others last e))

pub window-last : (ds : List Duty) (last : Duty) → slice_get ds (length ds - 1) ≡ Some last → window_to (arrival last) ds ≡ last_window ds
window-last [] last e = cc
window-last (first ∷ others) last e = ap (λ (d : Duty). window_to (arrival d) (first ∷ others)) (sym (last_duty-get first others last e))

pub away-ends : (ds : List Duty) (first last : Duty) → slice_get ds 0 ≡ Some first → slice_get ds (length ds - 1) ≡ Some last → last.release -ℤ first.report ≡ minutes_away ds
away-ends [] first last e f = cc
away-ends (x ∷ ds) first last e f =
    let same : x ≡ first = cc in
    let end = last_duty-get x ds last f in
    rw (end, same) refl

-- the facts of sound legs lie in their ranges
pub made-in-range : (s : Settings) (turns : Turns) (first : TimedLeg) (others : List TimedLeg) → IsChecked s → AllSound (first ∷ others) → AllConnect s turns first others → length others ≤ 7
    → pos 15_000_000 ≤ℤ report s first → report s first ≤ℤ pos 70_000_000 → pos 15_000_000 ≤ℤ release s first others → release s first others ≤ℤ pos 70_000_000
    → (pos 0 -ℤ pos 9_000_000_000) ≤ℤ total price_of (first ∷ others) → total price_of (first ∷ others) ≤ℤ pos 9_000_000_000 → IsInRange (duty_of s first others)
made-in-range s turns first others checked sound linked few a b d e p q =
    let debrief = checked.debrief in
    let late = ends-later s turns first others sound linked in
    let flown = flown-total (first ∷ others) sound in
    let most : flight_time first others ≤ℤ pos 70_000_000 = omega (arith, ints, flown.1, few) in
    let pay = legs-paid s turns first others checked few sound linked a e in
    record {
      report = a;
      report_most = b;
      release = d;
      release_most = e;
      fdp = omega (arith, ints, b, d, debrief);
      fdp_most = omega (arith, ints, a, e, debrief);
      fly = omega (arith, ints, flown.0);
      fly_most = omega (arith, ints, most);
      pay = pay.0;
      pay_most = omega (arith, ints, pay.1);
      price = omega (arith, ints, p);
      price_most = omega (arith, ints, q);
    }

-- the points of a guarantee
pub points-between : (points n : ℕ) → points ≤ 20_000 → n ≤ 13 → (pos points *ℤ pos n) ≤ℤ pos 1_000_000_000
points-between points n h k = let p = mul-le-mul_left points k in omega (arith, ints, p)

-- caps
int-not : (m n : ℤ) → n <ℤ m → int_le m n ≡ false
int-not m n h = grind (arith, ints)

nat-not : (m n : ℕ) → n < m → int_le (pos m) (pos n) ≡ false
nat-not m n h = grind (arith, ints)

int-yes : (m n : ℤ) → m ≤ℤ n → int_le m n ≡ true
int-yes m n h = grind (arith, ints)

int-le : (m n : ℤ) → int_le m n ≡ true → m ≤ℤ n
int-le m n h = grind (arith, ints)

second-off : (a b : Bool) → b ≡ false → a && b ≡ false
second-off true b e = e
second-off false b e = refl

first-off : (a b : Bool) → a ≡ false → a && b ≡ false
first-off true b e = cc
first-off false b e = refl

pub both-on : (a b : Bool) → a ≡ true → b ≡ true → a && b ≡ true
both-on true b e f = f
both-on false b e f = cc

pub off-fdp : (s : Settings) (ds : List Duty) → pos s.fdp_total <ℤ total (λ d. d.fdp) ds → false ≡ keeps_totals s ds
off-fdp s ds h = sym (first-off _ _ (int-not _ _ h))

pub off-fly : (s : Settings) (ds : List Duty) → pos s.fly_cap <ℤ total (λ d. d.fly) ds → false ≡ keeps_totals s ds
off-fly s ds h = sym (second-off (int_le (total (λ d. d.fdp) ds) (pos s.fdp_total)) _ (first-off _ _ (int-not _ _ h)))

pub off-count : (s : Settings) (ds : List Duty) → s.max_duties < length ds → false ≡ keeps_totals s ds
off-count s ds h =
    sym (second-off (int_le (total (λ d. d.fdp) ds) (pos s.fdp_total)) _ (second-off (int_le (total (λ d. d.fly) ds) (pos s.fly_cap)) _ (first-off _ _ (nat-not (length ds) s.max_duties h))))

pub by-away : (s : Settings) (ds : List Duty) (b : Bool) → total (λ d. d.fdp) ds ≤ℤ pos s.fdp_total → total (λ d. d.fly) ds ≤ℤ pos s.fly_cap → length ds ≤ s.max_duties → b ≡ int_le (minutes_away ds) (pos s.away_cap)
    → b ≡ keeps_totals s ds
by-away s ds b x y z e =
    e ∙ sym (third-on _ _ _ _ (int-yes _ _ x) (int-yes _ _ y) (int-yes (pos (length ds)) (pos s.max_duties) (omega (arith, ints))))
  where
    third-on : (p q r t : Bool) → p ≡ true → q ≡ true → r ≡ true → (p && (q && (r && t))) ≡ t
    third-on true true true t e f g = refl
    third-on false q r t e f g = cc
    third-on true false r t e f g = cc
    third-on true true false t e f g = cc

pub record WithinCaps (s : Settings) (ds : List Duty) : Type 0 where
  pub fdp : total (λ d. d.fdp) ds ≤ℤ pos s.fdp_total
  pub fly : total (λ d. d.fly) ds ≤ℤ pos s.fly_cap
  pub count : length ds ≤ s.max_duties
  pub away : minutes_away ds ≤ℤ pos s.away_cap

pub within-caps : (s : Settings) (ds : List Duty) → keeps_totals s ds ≡ true → WithinCaps s ds
within-caps s ds e =
    let one = and_parts _ _ e in
    let two = and_parts _ _ one.1 in
    let three = and_parts _ _ two.1 in
    let count : pos (length ds) ≤ℤ pos s.max_duties = int-le _ _ three.0 in
    record { fdp = int-le _ _ one.0; fly = int-le _ _ two.0; count = omega (arith, ints, count); away = int-le _ _ three.1 }

pub caps-kept : (s : Settings) (ds : List Duty) → WithinCaps s ds → keeps_totals s ds ≡ true
caps-kept s ds w = sym (by-away s ds true w.fdp w.fly w.count (sym (int-yes _ _ w.away)))

pub away-push : (first : Duty) (others : List Duty) (d : Duty) → minutes_away (first ∷ others ++ d ∷ []) ≡ d.release -ℤ first.report
away-push first others d = ap (λ (l : Duty). l.release -ℤ first.report) (last_duty-push first others d)

-- a shorter last duty keeps within the caps too
pub caps-shorter : (s : Settings) (before : List Duty) (d e : Duty) → d.fdp ≤ℤ e.fdp → d.fly ≤ℤ e.fly → d.release ≤ℤ e.release → d.report ≡ e.report
    → keeps_totals s (before ++ e ∷ []) ≡ true → keeps_totals s (before ++ d ∷ []) ≡ true
caps-shorter s before d e fdp fly release report h =
    let w = within-caps s (before ++ e ∷ []) h in
    let fdp-d = total-push (λ (x : Duty). x.fdp) before d in
    let fdp-e = total-push (λ (x : Duty). x.fdp) before e in
    let fly-d = total-push (λ (x : Duty). x.fly) before d in
    let fly-e = total-push (λ (x : Duty). x.fly) before e in
    caps-kept s (before ++ d ∷ []) (record {
      fdp = omega (arith, ints, fdp-d, fdp-e, w.fdp, fdp);
      fly = omega (arith, ints, fly-d, fly-e, w.fly, fly);
      count = omega (arith, w.count, length-append before (d ∷ []), length-append before (e ∷ []));
      away = away before w.away;
    })
  where
    away : (before : List Duty) → minutes_away (before ++ e ∷ []) ≤ℤ pos s.away_cap → minutes_away (before ++ d ∷ []) ≤ℤ pos s.away_cap
    away [] k = omega (arith, ints, k, release, report)
    away (first ∷ others) k = let x = away-push first others d in let y = away-push first others e in omega (arith, ints, k, release, x, y)

-- sums in a loop
pub item-in-range : (ds : List Duty) (i : ℕ) (x : Duty) → Each IsInRange ds → i < length ds → x ≡ get_or ds i x → IsInRange x
item-in-range ds i x each h e = subst IsInRange (sym e) (Each-member IsInRange ds (get_or ds i x) each (slice_get-Member ds i (get_or ds i x) (slice_get-get_or ds i x h)))

pub fits-add : (share i n : ℕ) (sum x : ℤ) → (pos 0 -ℤ pos (share * i)) ≤ℤ sum → sum ≤ℤ pos (share * i) → (pos 0 -ℤ pos share) ≤ℤ x → x ≤ℤ pos share → i ≤ n → share * n + share ≤ 1_000_000_000_000
    → to_z w64 (of_z w64 (to_z w64 (of_z w64 sum) +ℤ to_z w64 (of_z w64 x))) ≡ sum +ℤ x
fits-add share i n sum x a b d e h k = let p = mul-le-mul_left share h in omega (arith, ints, p, a, b, d, e, k)

pub sum-more : (f : Duty → ℤ) (ds : List Duty) (i : ℕ) (x : Duty) (before now : ℤ) → i < length ds → x ≡ get_or ds i x → before ≡ total f (take i ds) → now ≡ before +ℤ f x → now ≡ total f (take (i + 1) ds)
sum-more f ds i x before now h e b n =
    let more = total-take f ds i x h in
    let read : f x ≡ f (get_or ds i x) = ap f e in
    omega (arith, ints, more, read, b, n)

-- one duty more in a sum: it fits, it is the longer sum, and it keeps its bounds
pub record SumTo (share : ℕ) (f : Duty → ℤ) (ds : List Duty) (i : ℕ) (sum : ℤ) : Type 0 where
  pub all : sum ≡ total f (take i ds)
  pub least : (pos 0 -ℤ pos (share * i)) ≤ℤ sum
  pub most : sum ≤ℤ pos (share * i)

-- least and most of one duty's share
pub record Shares (d : Duty) : Type 0 where
  pub fdp : (pos 0 -ℤ pos 100_000_000) ≤ℤ d.fdp
  pub fdp_wide : (pos 0 -ℤ pos 1_000_000_000) ≤ℤ d.fdp
  pub fdp_most : d.fdp ≤ℤ pos 1_000_000_000
  pub fly : (pos 0 -ℤ pos 1_000_000_000) ≤ℤ d.fly
  pub pay : (pos 0 -ℤ pos 10_000_000_000) ≤ℤ d.pay
  pub price : (pos 0 -ℤ pos 10_000_000_000) ≤ℤ d.price

pub shares-of : (d : Duty) → IsInRange d → Shares d
shares-of d r = record { fdp = omega (arith, ints, r.fdp); fdp_wide = omega (arith, ints, r.fdp); fdp_most = omega (arith, ints, r.fdp_most); fly = omega (arith, ints, r.fly); pay = omega (arith, ints, r.pay); price = omega (arith, ints, r.price) }

pub read-32 : (z : ℤ) → (pos 0 -ℤ pos 1_000_000_000) ≤ℤ z → z ≤ℤ pos 1_000_000_000 → to_z w32 (of_z w32 z) ≡ z
read-32 z h k = omega (arith, ints, h, k)

pub least-on : (sum x now : ℤ) (m k n : ℕ) → now ≡ sum +ℤ x → n ≡ m + k → (pos 0 -ℤ pos m) ≤ℤ sum → (pos 0 -ℤ pos k) ≤ℤ x → (pos 0 -ℤ pos n) ≤ℤ now
least-on sum x now m k n e g h j = omega (arith, ints, e, g, h, j)

pub most-on : (sum x now : ℤ) (m k n : ℕ) → now ≡ sum +ℤ x → n ≡ m + k → sum ≤ℤ pos m → x ≤ℤ pos k → now ≤ℤ pos n
most-on sum x now m k n e g h j = omega (arith, ints, e, g, h, j)

pub sum-on : (share : ℕ) (f : Duty → ℤ) (ds : List Duty) (i : ℕ) (x : Duty) (sum add : ℤ) → add ≡ f x → sum ≡ total f (take i ds) → (pos 0 -ℤ pos (share * i)) ≤ℤ sum → sum ≤ℤ pos (share * i)
    → (pos 0 -ℤ pos share) ≤ℤ f x → f x ≤ℤ pos share → i < length ds → x ≡ get_or ds i x → length ds ≤ 13 → share ≤ 10_000_000_000
    → SumTo share f ds (i + 1) (to_z w64 (of_z w64 (to_z w64 (of_z w64 sum) +ℤ to_z w64 (of_z w64 add))))
sum-on share f ds i x sum add is so_far least most p q here at few small =
    let fits : to_z w64 (of_z w64 (to_z w64 (of_z w64 sum) +ℤ to_z w64 (of_z w64 add))) ≡ sum +ℤ f x = rw is (fits-add share i 13 sum (f x) least most p q (omega arith) (omega arith)) in
    let grown : share * (i + 1) ≡ share * i + share = rw add-one (mul-suc share i) in
    record {
      all = sum-more f ds i x sum _ here at so_far fits;
      least = least-on sum (f x) _ (share * i) share (share * (i + 1)) fits grown least p;
      most = most-on sum (f x) _ (share * i) share (share * (i + 1)) fits grown most q;
    }

pub sum-fits : (share i : ℕ) (sum x add : ℤ) → add ≡ x → (pos 0 -ℤ pos (share * i)) ≤ℤ sum → sum ≤ℤ pos (share * i) → (pos 0 -ℤ pos share) ≤ℤ x → x ≤ℤ pos share → i ≤ 13 → share ≤ 10_000_000_000
    → SFits w64 (to_z w64 (of_z w64 sum) +ℤ to_z w64 (of_z w64 add))
sum-fits share i sum x add is a b d e h k = let p = mul-le-mul_left share h in omega (arith, ints, is, p, a, b, d, e, k)

-- numbers that fit
pub fits-self : (z : ℤ) → (pos 0 -ℤ pos 200_000_000_000) ≤ℤ z → z ≤ℤ pos 200_000_000_000 → to_z w64 (of_z w64 z) ≡ z
fits-self z h k = omega (arith, ints, h, k)

pub fits-less : (a p b : ℤ) → (pos 0 -ℤ pos 200_000_000_000) ≤ℤ a → a ≤ℤ pos 200_000_000_000 → (pos 0 -ℤ pos 200_000_000_000) ≤ℤ p → p ≤ℤ pos 200_000_000_000
    → negsuc 999_999_999 ≤ℤ b → b ≤ℤ pos 1_000_000_000 → to_z w64 (of_z w64 (to_z w64 (of_z w64 a) -ℤ to_z w64 (of_z w64 (to_z w64 (of_z w64 p) +ℤ to_z w64 (of_z w64 b))))) ≡ a -ℤ (p +ℤ b)
fits-less a p b h i j k l m = omega (arith, ints, h, i, j, k, l, m)
