-- The fronts of a sweep among those of pairings of up to 240 hours.
use Rattle.std.proofs.Common.{◌≡◌, ◌∙◌, ◌≤◌, ℕ, ℤ, Bool, true, false, List, [], ◌∷◌, Some, refl, sym, ap, subst, Ordering, nat_lt, not, arith}
use Rattle.std.specs.Prelude.{IsPermutation, slice_get}
use Rattle.std.specs.Ordering.{ordering_then}
use Rattle.std.specs.declared.cmp.Ordering.TheVariants.{Less}
use Rattle.std.proofs.lemmas.Bool.Decides.{nat_tests}
use Rattle.crew_answers.specs.Fronts as Long
use Rattle.crew_answers.specs.LongVectors.{is_long, settings_of_sums}
use Rattle.crew_answers.specs.ShortPairings.{sums_of, with_no_past, with_no_pasts}
use Rattle.crew_flights.specs.Timetable.{Timetable}
use Rattle.crew_pairing.specs.Duties.{AreDuties, RiseByKey, flights_of}
use Rattle.crew_pairing.specs.Pairings.{IsDuty}
use Rattle.crew_pairing.specs.declared.duty.Duty.{Duty}
use Rattle.crew_pairing.specs.declared.vector.PairingVector.{PairingVector}
use Rattle.crew_resource.specs.Members.{Each, Member}
use Rattle.crew_rules.specs.declared.settings.Settings.{Settings}
use Rattle.crew_solve.specs.Solutions.{ShowSame}
use Rattle.crew_net.proofs.Numbers.{get-member}
use Rattle.crew_solve.specs.crew_sweep.Sweeps as Sweeps
use Rattle.crew_solve.specs.crew_sweep.Sweeps.{BaseSweep}
use Rattle.crew_solve.proofs.crew_vector_lemmas.Orders.{walk-order}
use Rattle.crew_solve.specs.crew_vector.Fronts.{IsFrontAt, RiseByVector, vector_cmp}
use Rattle.crew_fronts.specs.Fronts.{Entries, IsOfSweep, ShowsFronts, front_at, is_plain}
use Rattle.crew_fronts.specs.Machinery.Kept.{fronts_of_sweep, swept_front}
use Rattle.crew_fronts.specs.Machinery.Listed.{Entry, listed}
use Rattle.crew_fronts.proofs.Listed.{listed-in, listed-is, listed-out, listed-rise, listed-same}
use Rattle.crew_fronts.proofs.Ranked.{at-duty}

sums-again : (es : List Entry) → sums_of (with_no_pasts es) ≡ es
sums-again [] = refl
sums-again (e ∷ es) = ap (λ (z : List Entry). e ∷ z) (sums-again es)

-- entries are told by what they are without a past
pub same-sums : (es fs : List Entry) → with_no_pasts es ≡ with_no_pasts fs → es ≡ fs
same-sums es fs h = sym (sums-again es) ∙ (ap sums_of h ∙ sums-again fs)

less-then : (o p : Ordering) → o ≡ Less → ordering_then o p ≡ Less
less-then o p q = ap (λ z. ordering_then z p) q

each-after : (v : PairingVector) (es : List Entry) → Each (λ later. vector_cmp v later.0 ≡ Less) es → Each (λ later. Long.vector_cmp (with_no_past v) later.0 ≡ Less) (with_no_pasts es)
each-after v [] h = tt
each-after v (e ∷ es) h = (less-then (vector_cmp v e.0) _ h.0, each-after v es h.1)

-- they rise as their sums do
pub rise-with-no-pasts : (es : List Entry) → RiseByVector es → Long.RiseByVector (with_no_pasts es)
rise-with-no-pasts [] h = tt
rise-with-no-pasts (e ∷ es) h = (each-after e.0 es h.0, rise-with-no-pasts es h.1)

-- a front in any order is one
pub listed-front : (s : Settings) (t : Timetable) (base : List ℕ) (price : ℤ) (d : Duty) (es : List Entry) → IsFrontAt s t base price d es → IsFrontAt s t base price d (listed es)
listed-front s t base price d es f = record {
  clean = λ v w m. f.clean v w (listed-out es (v, w) m);
  undominated = λ v w m. f.undominated v w (listed-out es (v, w) m);
  least = λ v w y m. f.least v w y (listed-out es (v, w) m);
  every = λ v u. let k = f.every v u in (k.0, listed-in es (v, k.0) k.1);
}

-- and in order it rises, as a vector tells its walk
pub front-rises : (s : Settings) (t : Timetable) (base : List ℕ) (price : ℤ) (d : Duty) (es : List Entry) → IsFrontAt s t base price d es → RiseByVector (listed es)
front-rises s t base price d es f = listed-rise es (λ v w y m n. walk-order.antisymmetric w y (f.least v w y m (f.clean v y n)) (f.least v y w n (f.clean v w m)))

short-by : (b : Bool) → not b ≡ true → b ≡ false
short-by true e = sym e
short-by false e = refl

not-lt : (a : ℕ) → nat_lt 8_280 a ≡ false → a ≤ 8_280
not-lt a h = grind (arith, nat_tests)

-- plain settings allow no more than 138 hours
pub plain-away : (s : Settings) → is_plain s ≡ true → s.away_cap ≤ 8_280
plain-away s h = not-lt s.away_cap (short-by (is_long s) h)

-- what a sweep's fronts are here
pub swept-at : (b : BaseSweep) (d : Duty) → RiseByKey b.net.duties → Member b.net.duties d → front_at (fronts_of_sweep b) d ≡ swept_front b d
swept-at b d h m = at-duty (swept_front b) b.net.duties d [] h m

pub of-sweep : (b : BaseSweep) → RiseByKey b.net.duties → IsOfSweep b (fronts_of_sweep b)
of-sweep b h = record {
  net = refl;
  base = refl;
  price = refl;
  fronts = λ d m. (listed (Sweeps.front_at b d), (λ e. (listed-in (Sweeps.front_at b d) e, listed-out (Sweeps.front_at b d) e)), swept-at b d h m);
}

-- entries in order of vector that are a permutation of a sweep's front
pub lent-is : (b : BaseSweep) (k : ℕ) (d : Duty) (es : List Entry) → RiseByKey b.net.duties → slice_get b.net.duties k ≡ Some d → IsPermutation (Sweeps.front_at b d) es → RiseByVector es → with_no_pasts es ≡ front_at (fronts_of_sweep b) d
lent-is b k d es h at p r = ap with_no_pasts (listed-is (Sweeps.front_at b d) es p r) ∙ sym (swept-at b d h (get-member b.net.duties k d at))

-- where two sweeps show the same entries
pub alike-at : (a b : BaseSweep) (d : Duty) → RiseByKey a.net.duties → RiseByKey b.net.duties → Member a.net.duties d → Member b.net.duties d → ShowSame a b d → front_at (fronts_of_sweep a) d ≡ front_at (fronts_of_sweep b) d
alike-at a b d h k m n same = swept-at a d h m ∙ (ap with_no_pasts (listed-same (Sweeps.front_at a d) (Sweeps.front_at b d) same) ∙ sym (swept-at b d k n))

pub known : (s : Settings) (t : Timetable) (ds : List Duty) (d : Duty) → AreDuties s t ds → IsDuty s (flights_of t) d → Member ds d
known s t ds d are legal = subst (Member ds) (sym legal.3) (are.every legal.0 legal.1 legal.2)

-- the fronts of a sweep of plain settings are right
pub sweep-right : (b : BaseSweep) → is_plain b.net.settings ≡ true → RiseByKey b.net.duties → settings_of_sums b.net.settings ≡ b.net.settings
    → (t : Timetable)
    → ((d : Duty) (es : List Entry) → b.net.settings.away_cap ≤ 8_280 → IsFrontAt (settings_of_sums b.net.settings) t b.base b.price d es → Long.IsFrontAt b.net.settings t b.base b.price d (with_no_pasts es))
    → AreDuties b.net.settings t b.net.duties → Sweeps.ShowsFronts t b → ShowsFronts t (fronts_of_sweep b)
sweep-right b plain h stays t on are shows d legal =
    let s = b.net.settings in
    let m = known s t b.net.duties d are legal in
    let own = shows d legal in
    let front = listed-front s t b.base b.price d (Sweeps.front_at b d) own in
    let whole : Long.IsFrontAt s t b.base b.price d (swept_front b d) =
    on d (listed (Sweeps.front_at b d)) (plain-away s plain) (subst (λ z. IsFrontAt z t b.base b.price d (listed (Sweeps.front_at b d))) (sym stays) front) in
    let rises = rise-with-no-pasts (listed (Sweeps.front_at b d)) (front-rises s t b.base b.price d (Sweeps.front_at b d) own) in
    subst (λ (es : Entries). Long.IsFrontAt s t b.base b.price d es × Long.RiseByVector es) (sym (swept-at b d h m)) (whole, rises)
