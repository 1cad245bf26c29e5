-- Where no pairing is long, fronts are what sweeps show, and so are the pairings that they show.
use Rattle.std.proofs.Common.{◌≡◌, ◌∙◌, ◌++◌, ℕ, ℤ, Bool, true, false, cond, not, List, [], ◌∷◌, Option, ap, refl, sym, subst, take}
use Rattle.std.specs.Ordering.{eq_by_cmp}
use Rattle.crew_fronts.specs.crew_answers.Bests as Long
use Rattle.crew_fronts.specs.crew_answers.Fronts as LongFronts
use Rattle.crew_fronts.specs.crew_answers.LongVectors.{LongVector, is_long, long_vector_of, settings_of_sums}
use Rattle.crew_fronts.specs.crew_answers.ShortPairings.{sums_of, with_no_pasts}
use Rattle.crew_fronts.proofs.crew_answers_lemmas.ShortBests.{best-to-long}
use Rattle.crew_fronts.proofs.crew_answers_lemmas.ShortFronts.{entry-in, front-from-long, front-to-long, sums-in}
use Rattle.crew_fronts.proofs.crew_answers_lemmas.ShortPartials.{no-past, partial-from-long, partial-to-long, same-settings}
use Rattle.crew_flights.specs.Codes.{code_cmp}
use Rattle.crew_flights.specs.Timetable.{IsSound, Timetable}
use Rattle.crew_fronts.specs.Fronts.{BaseFronts, Entries, HaveSame, front_at, is_plain}
use Rattle.crew_net.specs.Nets.{IsNetOf, Net}
use Rattle.crew_pairing.specs.Duties.{AreDuties, flights_of}
use Rattle.crew_pairing.specs.Legs.{Leg}
use Rattle.crew_pairing.specs.Pairings.{IsDuty, last_duty}
use Rattle.crew_pairing.specs.Vectors.{vector_of}
use Rattle.crew_pairing.specs.declared.duty.Duty.{Duty}
use Rattle.crew_pairing.specs.declared.vector.PairingVector.{PairingVector}
use Rattle.crew_plan.specs.Apart.{AreApart, is_apart, taken_from}
use Rattle.crew_plan.specs.Cheapest.{AreCheapest, IsShown, RiseByCost}
use Rattle.crew_plan.specs.Machinery.Kept.{AreOfSweeps, IsBySweeps, IsSolved}
use Rattle.crew_plan.specs.Machinery.Kinds.{IsForSweeps, plan_by_sweeps}
use Rattle.crew_plan.specs.Plans.{IsSolutionIn}
use Rattle.crew_plan.specs.Solutions.{HasNetOf, Solution, front_among, front_of}
use Rattle.crew_resource.specs.Labels.{IsFront}
use Rattle.crew_resource.specs.Members.{Each, Member}
use Rattle.crew_rules.specs.Settings.{IsChecked}
use Rattle.crew_rules.specs.declared.settings.Settings.{Settings}
use Rattle.crew_fronts.specs.crew_solve.Apart as PlainApart
use Rattle.crew_fronts.specs.crew_solve.Cheapest as PlainCheapest
use Rattle.crew_fronts.specs.crew_solve.Plans as PlainPlans
use Rattle.crew_fronts.specs.crew_solve.Solutions as PlainSolutions
use Rattle.crew_fronts.specs.crew_sweep.Sweeps as Sweeps
use Rattle.crew_fronts.specs.crew_sweep.Sweeps.{BaseSweep}
use Rattle.crew_fronts.specs.crew_solve.crew_vector.Bests as Plain
use Rattle.crew_fronts.specs.crew_solve.crew_vector.Fronts as PlainFronts
use Rattle.crew_fronts.specs.crew_solve.crew_vector.declared.priced.PricedPairing.{PricedPairing}

abbrev Shown : Type 0
Shown = List (PairingVector × List (List Leg))

-- ---- what the settings tell

not-true : (b : Bool) → not b ≡ true → b ≡ false
not-true true e = cc
not-true false e = refl

pub not-long : (s : Settings) → is_plain s ≡ true → is_long s ≡ false
not-long s e = not-true (is_long s) e

pub own-settings : (s : Settings) → is_plain s ≡ true → settings_of_sums s ≡ s
own-settings s e = same-settings s (not-long s e)

-- ---- fronts in another order

front-permuted : {V W : Type 0} (le : V → V → Bool) (wle : W → W → Bool) (At Clean : V → W → Type 0) (xs ys : List (V × W)) → ((e : V × W) → (Member xs e → Member ys e) × (Member ys e → Member xs e)) → IsFront le wle At Clean xs
    → IsFront le wle At Clean ys
front-permuted le wle At Clean xs ys p f = record {
  clean = λ v w m. f.clean v w ((p (v, w)).1 m);
  undominated = λ v w m. f.undominated v w ((p (v, w)).1 m);
  least = λ v w y m c. f.least v w y ((p (v, w)).1 m) c;
  every = λ v u. let e = f.every v u in (e.0, (p (v, e.0)).0 e.1);
}

sums-again : (es : Shown) → sums_of (with_no_pasts es) ≡ es
sums-again [] = refl
sums-again (e ∷ es) = ap (λ (l : Shown). e ∷ l) (sums-again es)

-- what is shown by sweeps and by fronts
pub record IsShownAs (old : Shown) (new : Entries) : Type 0 where
  pub entries : Shown
  pub permuted : HaveSame old entries
  pub same : new ≡ with_no_pasts entries

either : (k : Bool) (a x : Shown) (b y : Entries) → IsShownAs a b → IsShownAs x y → IsShownAs (cond k a x) (cond k b y)
either true a x b y h k = h
either false a x b y h k = k

pub shown-as : (sweeps : List BaseSweep) (bases : List BaseFronts) → AreOfSweeps sweeps bases → (base : List ℕ) (d : Duty) → Each (λ (b : BaseFronts). Member b.net.duties d) bases
    → IsShownAs (PlainSolutions.front_among sweeps base d) (front_among bases base d)
shown-as [] [] h base d m = record { entries = []; permuted = λ e. (λ m. m, λ m. m); same = refl }
shown-as [] (b ∷ bs) h base d m = absurd h
shown-as (c ∷ cs) [] h base d m = absurd h
shown-as (c ∷ cs) (b ∷ bs) h base d m =
    let f = h.0.fronts d (subst (λ (n : Net). Member n.duties d) h.0.net m.0) in
    let here : IsShownAs (Sweeps.front_at c d) (front_at b d) = record { entries = f.0; permuted = f.1; same = f.2 } in
    let rest = shown-as cs bs h.1 base d m.1 in
    let test : eq_by_cmp code_cmp c.base base ≡ eq_by_cmp code_cmp b.base base = ap (λ z. eq_by_cmp code_cmp z base) (sym h.0.base) in
    subst (λ k. IsShownAs (cond k (Sweeps.front_at c d) (PlainSolutions.front_among cs base d)) (front_among (b ∷ bs) base d)) (sym test)
    (either (eq_by_cmp code_cmp b.base base) (Sweeps.front_at c d) (PlainSolutions.front_among cs base d) (front_at b d) (front_among bs base d) here rest)

-- ---- the legal duties are those of the network

each-known : (net : Net) (d : Duty) → Member net.duties d → (bases : List BaseFronts) → Each (λ (b : BaseFronts). b.net ≡ net) bases → Each (λ (b : BaseFronts). Member b.net.duties d) bases
each-known net d m [] h = tt
each-known net d m (b ∷ bs) h = (subst (λ (n : Net). Member n.duties d) (sym h.0) m, each-known net d m bs h.1)

pub legal-known : (s : Settings) (t : Timetable) (ds : List Duty) (net : Net) → AreDuties s t ds → IsNetOf s t ds net → (d : Duty) → IsDuty s (flights_of t) d → Member net.duties d
legal-known s t ds net are built d legal =
    subst (λ (l : List Duty). Member l d) (sym built.duties) (subst (Member ds) (sym legal.3) (are.every legal.0 legal.1 legal.2))

-- ---- the same order, and the same taken

pub rise-too : (ps : List PricedPairing) → PlainCheapest.RiseByCost ps → RiseByCost ps
rise-too [] h = tt
rise-too (p ∷ ps) h = (h.0, rise-too ps h.1)

pub rise-back : (ps : List PricedPairing) → RiseByCost ps → PlainCheapest.RiseByCost ps
rise-back [] h = tt
rise-back (p ∷ ps) h = (h.0, rise-back ps h.1)

pub same-taken : (share : ℕ) (taken ps : List PricedPairing) → PlainApart.taken_from share taken ps ≡ taken_from share taken ps
same-taken share taken [] = refl
same-taken share taken (p ∷ ps) =
    let one = same-taken share (taken ++ p ∷ []) ps in
    let other = same-taken share taken ps in
    λ i. cond (is_apart share taken p) (p ∷ one i) (other i)

module _ (s : Settings) (t : Timetable) (sound : IsSound t) (plain : is_plain s ≡ true) where
  abbrev Own : Settings
  Own = settings_of_sums s

  -- ---- pairings that are shown

  shown-by-sums : (p : PricedPairing) → PlainCheapest.IsShown Own t p → IsShown s t p
  shown-by-sums p h =
      let short = not-long s plain in
      let is = h.pairing in
      record {
        pairing = record {
          price = is.price;
          based = is.based;
          first = is.first;
          others = is.others;
          partial = partial-to-long s t p.base is.first is.others sound short is.partial;
          returns = is.returns;
          walk = is.walk;
          cost = is.cost;
          pay = is.pay;
          away = is.away;
        };
        front = with_no_pasts h.front;
        exact = front-to-long s t p.base is.price sound short (last_duty is.first is.others) h.front h.exact;
        held = subst (λ (v : LongVector). Member (with_no_pasts h.front) (v, p.walk)) (sym (no-past s is.price is.first is.others short))
            (entry-in h.front (vector_of Own is.price (is.first ∷ is.others)) p.walk h.held);
      }

  sums-by-shown : (p : PricedPairing) → IsShown s t p → PlainCheapest.IsShown Own t p
  sums-by-shown p h =
      let short = not-long s plain in
      let is = h.pairing in
      record {
        pairing = record {
          price = is.price;
          based = is.based;
          first = is.first;
          others = is.others;
          partial = partial-from-long s t p.base is.first is.others sound short is.partial;
          returns = is.returns;
          walk = is.walk;
          cost = is.cost;
          pay = is.pay;
          away = is.away;
        };
        front = sums_of h.front;
        exact = front-from-long s t p.base is.price sound short (last_duty is.first is.others) h.front h.exact;
        held = sums-in h.front (long_vector_of s is.price is.first is.others) p.walk h.held;
      }

  shown-too : (p : PricedPairing) → PlainCheapest.IsShown s t p → IsShown s t p
  shown-too p h = shown-by-sums p (subst (λ x. PlainCheapest.IsShown x t p) (sym (own-settings s plain)) h)

  shown-back : (p : PricedPairing) → IsShown s t p → PlainCheapest.IsShown s t p
  shown-back p h = subst (λ x. PlainCheapest.IsShown x t p) (own-settings s plain) (sums-by-shown p h)

  -- ---- and their lists

  pub cheapest-too : (limit : ℕ) (ps : List PricedPairing) → PlainCheapest.AreCheapest s t limit ps → AreCheapest s t limit ps
  cheapest-too limit ps h = record {
    rise = rise-too ps h.rise;
    few = h.few;
    shown = λ p m. shown-too p (h.shown p m);
    least = λ q k. h.least q (shown-back q k);
  }

  pub apart-too : (limit share : ℕ) (ps : List PricedPairing) → PlainApart.AreApart s t limit share ps → AreApart s t limit share ps
  apart-too limit share ps h = record {
    all = h.all;
    are = record {
      rise = rise-too h.all h.are.rise;
      shown = λ p m. shown-too p (h.are.shown p m);
      each = λ p k. h.are.each p (shown-back p k);
    };
    first = h.first ∙ ap (take limit) (same-taken share [] h.all);
  }

  -- ---- fronts of the one kind are those of the other

  front-too : (base : List ℕ) (price : ℤ) (d : Duty) (old : Shown) (new : Entries) → IsShownAs old new → PlainFronts.IsFrontAt s t base price d old → LongFronts.IsFrontAt s t base price d new
  front-too base price d old new h f =
      let right : PlainFronts.IsFrontAt s t base price d h.entries = front-permuted _ _ _ _ old h.entries h.permuted f in
      subst (LongFronts.IsFrontAt s t base price d) (sym h.same)
      (front-to-long s t base price sound (not-long s plain) d h.entries (subst (λ x. PlainFronts.IsFrontAt x t base price d h.entries) (sym (own-settings s plain)) right))

  front-back : (base : List ℕ) (price : ℤ) (d : Duty) (old : Shown) (new : Entries) → IsShownAs old new → LongFronts.IsFrontAt s t base price d new → PlainFronts.IsFrontAt s t base price d old
  front-back base price d old new h f =
      let long = subst (LongFronts.IsFrontAt s t base price d) h.same f in
      let sums = front-from-long s t base price sound (not-long s plain) d (with_no_pasts h.entries) long in
      let right : PlainFronts.IsFrontAt s t base price d h.entries =
      subst (λ x. PlainFronts.IsFrontAt x t base price d h.entries) (own-settings s plain) (subst (PlainFronts.IsFrontAt Own t base price d) (sums-again h.entries) sums) in
      front-permuted _ _ _ _ h.entries old (λ e. ((h.permuted e).1, (h.permuted e).0)) right

  module _ (ds : List Duty) (net : Net) (are : AreDuties s t ds) (built : IsNetOf s t ds net) (sweeps : List BaseSweep) (bases : List BaseFronts) (each : AreOfSweeps sweeps bases) (nets : Each (λ (b : BaseFronts). b.net ≡ net) bases) where
    as-shown : (base : List ℕ) (d : Duty) → IsDuty s (flights_of t) d → IsShownAs (PlainSolutions.front_among sweeps base d) (front_among bases base d)
    as-shown base d legal = shown-as sweeps bases each base d (each-known net d (legal-known s t ds net are built d legal) bases nets)

    pub fronts-too : Plain.AreFronts s t (PlainSolutions.front_among sweeps) → Long.AreFronts s t (front_among bases)
    fronts-too h = λ base price d based legal. front-too base price d _ _ (as-shown base d legal) (h base price d based legal)

    pub fronts-back : Long.AreFronts s t (front_among bases) → Plain.AreFronts s t (PlainSolutions.front_among sweeps)
    fronts-back h = λ base price d based legal. front-back base price d _ _ (as-shown base d legal) (h base price d based legal)

  pub best-too : (best : Option PricedPairing) → Plain.IsBest s t best → Long.IsBest s t best
  best-too best h = best-to-long s t sound (not-long s plain) best (subst (λ x. Plain.IsBest x t best) (sym (own-settings s plain)) h)

-- ---- the solution of a plan of sweeps

pub solved-too : (plan : PlainPlans.Plan) (solution : PlainSolutions.Solution) (bases : List BaseFronts) → is_plain solution.net.settings ≡ true → PlainPlans.IsSolutionIn plan solution
    → AreOfSweeps solution.sweeps bases → Each (λ (b : BaseFronts). b.net ≡ solution.net) bases → IsSolutionIn (plan_by_sweeps plan) (record { net = solution.net; bases = bases; best = solution.best })
solved-too plan solution bases plain h each nets =
    record {
      network = λ s t of. h.network s t (record { network = of.network; prices = of.prices });
      scratch = λ s t checked sound of.
          let has = h.network s t (record { network = of.network; prices = of.prices }) in
          let own = subst (λ x. is_plain x ≡ true) has.2.settings plain in
          let k = h.scratch s t checked sound (record { network = of.network; prices = of.prices }) in
          record {
            fronts = fronts-too s t sound own has.0 solution.net has.1 has.2 solution.sweeps bases each nets k.fronts;
            best_is = best-too s t sound own solution.best k.best_is;
          };
    }

-- its network has the settings of the plan
pub still-plain : (plan : PlainPlans.Plan) (solution : PlainSolutions.Solution) → IsForSweeps plan → PlainPlans.IsSolutionIn plan solution → is_plain solution.net.settings ≡ true
still-plain plan solution for h =
    let has = h.network for.settings for.timetable for.planned in
    subst (λ x. is_plain x ≡ true) (for.planned.network.2.settings ∙ sym has.2.settings) for.short

-- ---- what it answers

abbrev pub AnswersTo : Solution → (Settings → Timetable → Type 0) → Type 0
AnswersTo x P = (s : Settings) (t : Timetable) → IsChecked s → IsSound t → HasNetOf s t x → Long.AreFronts s t (front_of x) → P s t

abbrev pub PlainlyAnswersTo : PlainSolutions.Solution → (Settings → Timetable → Type 0) → Type 0
PlainlyAnswersTo x P = (s : Settings) (t : Timetable) → IsChecked s → IsSound t → PlainSolutions.HasNetOf s t x → Plain.AreFronts s t (PlainSolutions.front_of x) → P s t

pub answer-too : (solution : PlainSolutions.Solution) (bases : List BaseFronts) (x : Solution) → IsSolved solution.net bases → IsBySweeps solution bases → x ≡ record { net = solution.net; bases = bases; best = solution.best }
    → (P Q : Settings → Timetable → Type 0) → ((s : Settings) (t : Timetable) → IsSound t → is_plain s ≡ true → P s t → Q s t) → PlainlyAnswersTo solution P → AnswersTo x Q
answer-too solution bases x solved by same P Q too h = λ s t checked sound has fronts.
    let here : HasNetOf s t (record { net = solution.net; bases = bases; best = solution.best }) = subst (HasNetOf s t) same has in
    let right : Long.AreFronts s t (front_among bases) = subst (λ (y : Solution). Long.AreFronts s t (front_of y)) same fronts in
    let plain = subst (λ z. is_plain z ≡ true) here.2.settings by.short in
    too s t sound plain (h s t checked sound here (fronts-back s t sound plain here.0 solution.net here.1 here.2 solution.sweeps bases by.each solved.nets right))
