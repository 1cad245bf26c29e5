use Rattle.std.proofs.Common.{◌≡◌, ◌∙◌, sym, ap, subst}
use Rattle.std.specs.Option.{option_map}
use Rattle.crew_flights.specs.Timetable.{empty_timetable}
use Rattle.crew_version.specs.Machinery.Kept.{best_of}
use Rattle.crew_version.specs.Drafts.{IsSolutionOf}
use Rattle.crew_version.specs.Versions.{Snapshot, timetable_of}
use Rattle.crew_version.proofs.version.Version.solution.Goals as goal

pub returns-in-None-clause-none : goal.returns-in-None-clause-none
returns-in-None-clause-none c = λ _.
    let solved : timetable_of c.self.inside.draft.entries ≡ empty_timetable = rw c.in-None.is at c.self.invariant.solved in
    sym (ap (λ (v : Snapshot). timetable_of v.entries) c.self.view_is) ∙ solved

pub returns-in-Some-clause-scratch : goal.returns-in-Some-clause-scratch
returns-in-Some-clause-scratch c =
    let inside : IsSolutionOf c.self.inside.draft.settings (timetable_of c.self.inside.draft.entries) c.in-Some.solution.value = rw c.in-Some.is at c.self.invariant.solved in
    let lent = subst (λ x. IsSolutionOf c.self.inside.draft.settings (timetable_of c.self.inside.draft.entries) x) (sym c.deref.ensures) inside in
    let solved = subst (λ (x : Snapshot). IsSolutionOf x.settings (timetable_of x.entries) c.deref.result.now) c.self.view_is lent in
    solved.scratch

pub returns-in-Some-clause-best : goal.returns-in-Some-clause-best
returns-in-Some-clause-best c = ap (λ s. s.best) c.deref.ensures ∙ (sym (ap (λ o. best_of (option_map (λ a. a.value) o)) c.in-Some.is) ∙ ap (λ (x : Snapshot). x.best) c.self.view_is)

pub returns-in-Some-clause-network : goal.returns-in-Some-clause-network
returns-in-Some-clause-network c =
    let inside : IsSolutionOf c.self.inside.draft.settings (timetable_of c.self.inside.draft.entries) c.in-Some.solution.value = rw c.in-Some.is at c.self.invariant.solved in
    let lent = subst (λ x. IsSolutionOf c.self.inside.draft.settings (timetable_of c.self.inside.draft.entries) x) (sym c.deref.ensures) inside in
    let solved = subst (λ (x : Snapshot). IsSolutionOf x.settings (timetable_of x.entries) c.deref.result.now) c.self.view_is lent in
    solved.network
