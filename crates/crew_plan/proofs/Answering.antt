-- What a solution by passes answers.
use Rattle.std.proofs.Common.{◌≡◌, ◌∙◌, ◌<◌, ℕ, zero, suc, List, [], ◌∷◌, Option, None, ap, refl, sym, subst, take, length, arith}
use Rattle.std.specs.List.{flat_map}
use Rattle.crew_fronts.specs.crew_answers.Bests.{AreFronts, IsBest}
use Rattle.crew_net.specs.Nets.{IsNetOf, Net}
use Rattle.crew_fronts.specs.Fronts.{BaseFronts}
use Rattle.crew_plan.specs.Apart.{AreApart, AreApartOf, taken_from}
use Rattle.crew_plan.specs.Cheapest.{AreCheapest, AreCheapestOf, IsBestOf}
use Rattle.crew_plan.specs.Machinery.Homes.{AreFirstApart, alone, first_home, home_of}
use Rattle.crew_plan.specs.Machinery.Kept.{IsLaid, IsSolved}
use Rattle.crew_plan.specs.Plans.{AreAllIn, IsSolutionIn, Plan}
use Rattle.crew_plan.specs.Solutions.{HasNetOf, Solution, front_among, front_of}
use Rattle.crew_plan.proofs.Homing.{are-apart, are-apart-of, are-cheapest, are-cheapest-of, is-best, is-best-of}
use Rattle.crew_plan.proofs.Placed.{all-solved, fronts-are, keys-of}
use Rattle.crew_plan.proofs.Shorter.{AnswersTo, same-taken}
use Rattle.crew_rules.specs.declared.settings.Settings.{Settings}
use Rattle.crew_fronts.proofs.crew_solve_lemmas.Keeping.{kept-first, sorted}
use Rattle.crew_fronts.proofs.crew_solve_lemmas.Swept.{over-of}
use Rattle.crew_fronts.specs.crew_solve.Apart as Plain
use Rattle.crew_fronts.specs.crew_solve.Machinery.Homes.{least_of}
use Rattle.crew_fronts.specs.crew_solve.crew_vector.declared.priced.PricedPairing.{PricedPairing}

few-all : (n : ℕ) (ps : List PricedPairing) → length (take n ps) < n → take n ps ≡ ps
few-all zero ps h = absurd (omega (arith, h))
few-all (suc n) [] h = refl
few-all (suc n) (p ∷ ps) h = ap (λ (l : List PricedPairing). p ∷ l) (few-all n ps (omega (arith, h)))

-- those that are taken of a beginning that is all are taken of all
first-taken : (limit share : ℕ) (all ps : List PricedPairing) → AreFirstApart limit share all ps → ps ≡ take limit (taken_from share [] (sorted [] all))
first-taken limit share all ps h =
    let kept = kept-first h.0 all in
    let few = few-all h.0 (sorted [] all) (subst (λ (l : List PricedPairing). length l < h.0) kept h.1) in
    h.2 ∙ (ap (λ l. take limit (Plain.taken_from share [] l)) (kept ∙ few) ∙ ap (take limit) (same-taken share [] (sorted [] all)))

-- ---- the fronts of all bases of a plan make its solution

pub passed-in : (plan : Plan) (solution : Solution) → IsLaid plan.net plan.prices → AreAllIn plan solution.bases → solution.net ≡ plan.net
    → solution.best ≡ least_of None (flat_map (home_of plan.net.settings.trip_rig) solution.bases) → IsSolutionIn plan solution
passed-in plan solution laid are is best = record {
  network = λ s t of. (of.network.0, of.network.1, subst (IsNetOf s t of.network.0) (sym is) of.network.2);
  scratch = λ s t checked sound of.
      let net = plan.net in
      let bases = solution.bases in
      let ds = of.network.0 in
      let built = of.network.2 in
      let over = over-of s t ds net checked sound of.network.1 built laid.over.few in
      let solved = all-solved plan bases are (keys-of net plan.prices laid) in
      let fronts : AreFronts s t (front_among bases) = subst (λ x. AreFronts x t (front_among bases)) built.settings (fronts-are t plan bases over of.dated of.prices are) in
      let least : IsBest s t (least_of None (flat_map (home_of s.trip_rig) bases)) = is-best s t checked sound ds net bases solved of.network.1 built fronts in
      let same : solution.best ≡ least_of None (flat_map (home_of s.trip_rig) bases) = best ∙ ap (λ (x : Settings). least_of None (flat_map (home_of x.trip_rig) bases)) built.settings in
      record { fronts = fronts; best_is = subst (IsBest s t) (sym same) least };
}

-- ---- the first of what comes home to one base

module _ (x : Solution) (solved : IsSolved x.net x.bases) where
  abbrev Home : ℕ → List ℕ → List PricedPairing
  Home rate base = flat_map (home_of rate) (alone base x.bases)

  pub best-at : (base : List ℕ) (best : Option PricedPairing) → best ≡ least_of None (Home x.net.settings.trip_rig base) → AnswersTo x (λ s t. IsBestOf s t base best)
  best-at base best is = λ s t checked sound has fronts.
      let own = is ∙ ap (λ (y : Settings). least_of None (Home y.trip_rig base)) has.2.settings in
      subst (IsBestOf s t base) (sym own) (is-best-of s t checked sound has.0 x.net x.bases solved has.1 has.2 fronts base)

  pub cheapest-at : (base : List ℕ) (limit : ℕ) (ps : List PricedPairing) → ps ≡ first_home limit x.net.settings.trip_rig (alone base x.bases) → AnswersTo x (λ s t. AreCheapestOf s t base limit ps)
  cheapest-at base limit ps is = λ s t checked sound has fronts.
      let own = is ∙ ap (λ (y : Settings). first_home limit y.trip_rig (alone base x.bases)) has.2.settings in
      subst (AreCheapestOf s t base limit) (sym own) (are-cheapest-of s t checked sound has.0 x.net x.bases solved has.1 has.2 fronts base limit)

  pub apart-at : (base : List ℕ) (limit share : ℕ) (ps : List PricedPairing) → AreFirstApart limit share (Home x.net.settings.trip_rig base) ps → AnswersTo x (λ s t. AreApartOf s t base limit share ps)
  apart-at base limit share ps h = λ s t checked sound has fronts.
      let one = subst (λ (y : Settings). AreFirstApart limit share (Home y.trip_rig base) ps) has.2.settings h in
      are-apart-of s t checked sound has.0 x.net x.bases solved has.1 has.2 fronts base limit share ps (first-taken limit share (Home s.trip_rig base) ps one)

-- ---- the first of what comes home to all

module _ (net : Net) (bases : List BaseFronts) (best : Option PricedPairing) (x : Solution) (solved : IsSolved net bases) (same : x ≡ record { net = net; bases = bases; best = best }) where
  pub cheapest-home : (limit : ℕ) (ps : List PricedPairing) → ps ≡ first_home limit net.settings.trip_rig bases → AnswersTo x (λ s t. AreCheapest s t limit ps)
  cheapest-home limit ps is = λ s t checked sound has fronts.
      let here : HasNetOf s t (record { net = net; bases = bases; best = best }) = subst (HasNetOf s t) same has in
      let right : AreFronts s t (front_among bases) = subst (λ (y : Solution). AreFronts s t (front_of y)) same fronts in
      let all = is ∙ ap (λ (y : Settings). first_home limit y.trip_rig bases) here.2.settings in
      subst (AreCheapest s t limit) (sym all) (are-cheapest s t checked sound here.0 net bases solved here.1 here.2 right limit)

  pub apart-home : (limit share : ℕ) (ps : List PricedPairing) → AreFirstApart limit share (flat_map (home_of net.settings.trip_rig) bases) ps → AnswersTo x (λ s t. AreApart s t limit share ps)
  apart-home limit share ps h = λ s t checked sound has fronts.
      let here : HasNetOf s t (record { net = net; bases = bases; best = best }) = subst (HasNetOf s t) same has in
      let right : AreFronts s t (front_among bases) = subst (λ (y : Solution). AreFronts s t (front_of y)) same fronts in
      let one = subst (λ (y : Settings). AreFirstApart limit share (flat_map (home_of y.trip_rig) bases) ps) here.2.settings h in
      let first = first-taken limit share (flat_map (home_of s.trip_rig) bases) ps one in
      are-apart s t checked sound here.0 net bases solved here.1 here.2 right limit share ps first
