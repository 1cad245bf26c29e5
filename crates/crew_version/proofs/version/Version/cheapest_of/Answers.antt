use Rattle.std.proofs.Common.{◌≡◌, ◌∙◌, List, sym, ap, subst}
use Rattle.std.proofs.lemmas.Result.{IfOk-weaker}
use Rattle.crew_flights.specs.Timetable.{empty_timetable}
use Rattle.crew_rules.specs.Settings.{IsChecked}
use Rattle.crew_version.specs.Versions.{Snapshot, timetable_of}
use Rattle.crew_version.specs.Drafts.{IsSolutionOf}
use Rattle.crew_version.proofs.SolutionFacts.{none-of-at-start, timetable-sound}
use Rattle.crew_plan.specs.Cheapest.{AreCheapestOf}
use Rattle.crew_vector.specs.declared.priced.PricedPairing.{PricedPairing}
use Rattle.crew_version.proofs.version.Version.cheapest_of.Goals as goal

pub returns-in-None : goal.returns-in-None
returns-in-None c =
    let v = c.args.self.now in
    let solved : timetable_of c.self.inside.draft.entries ≡ empty_timetable = rw c.in-None.is at c.self.invariant.solved in
    subst (λ (l : List PricedPairing). AreCheapestOf v.settings (timetable_of v.entries) c.args.base c.args.limit l) (sym c.new.ensures.items)
    (none-of-at-start v.settings (timetable_of v.entries) c.args.base c.args.limit (sym (ap (λ (x : Snapshot). timetable_of x.entries) c.self.view_is) ∙ solved))

pub returns-in-Some : goal.returns-in-Some
returns-in-Some c =
    let v = c.args.self.now in
    let inside : IsSolutionOf c.self.inside.draft.settings (timetable_of c.self.inside.draft.entries) c.in-Some.solution.value = rw c.in-Some.is at c.self.invariant.solved in
    let lent = subst (λ x. IsSolutionOf c.self.inside.draft.settings (timetable_of c.self.inside.draft.entries) x) (sym c.deref.ensures) inside in
    let solved = subst (λ (x : Snapshot). IsSolutionOf x.settings (timetable_of x.entries) c.deref.result.now) c.self.view_is lent in
    let checked = subst (λ (x : Snapshot). IsChecked x.settings) c.self.view_is c.self.invariant.checked in
    IfOk-weaker c.cheapest_of.result _ _ (λ pairings h. h v.settings (timetable_of v.entries) checked (timetable-sound v.entries) solved.network solved.scratch.fronts) c.cheapest_of.ensures
