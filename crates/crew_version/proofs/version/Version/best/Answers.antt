use Rattle.std.proofs.Common.{None, sym, subst}
use Rattle.crew_rules.specs.Settings.{IsChecked}
use Rattle.crew_plan.specs.crew_answers.Bests.{IsBest}
use Rattle.crew_version.specs.Drafts.{IsSolutionOf}
use Rattle.crew_version.specs.Versions.{IsRight, Snapshot, timetable_of}
use Rattle.crew_version.proofs.SolutionFacts.{best-costs-least, best-legal, best-none, best-right, timetable-sound}
use Rattle.crew_version.proofs.version.Version.best.Goals as goal

pub returns-in-None-clause-right : goal.returns-in-None-clause-right
returns-in-None-clause-right c = subst IsRight c.self.view_is (record { few = c.self.invariant.few; least = best-right _ _ _ c.self.invariant.solved })

pub returns-in-None-clause-none : goal.returns-in-None-clause-none
returns-in-None-clause-none c =
    let v = c.args.self.now in
    let none : IsBest v.settings (timetable_of v.entries) None = subst (λ (x : Snapshot). IsBest x.settings (timetable_of x.entries) None) c.self.view_is (best-right c.self.inside.draft.settings (timetable_of c.self.inside.draft.entries) None (rw c.in-None.is at c.self.invariant.solved)) in
    best-none v.settings (timetable_of v.entries) None none

pub returns-in-Some-clause-right : goal.returns-in-Some-clause-right
returns-in-Some-clause-right c = subst IsRight c.self.view_is (record { few = c.self.invariant.few; least = best-right _ _ _ c.self.invariant.solved })

pub returns-in-Some-clause-legal : goal.returns-in-Some-clause-legal
returns-in-Some-clause-legal c =
    let v = c.args.self.now in
    let inside : IsSolutionOf c.self.inside.draft.settings (timetable_of c.self.inside.draft.entries) c.in-Some.solution.value = rw c.in-Some.is at c.self.invariant.solved in
    let lent = subst (λ x. IsSolutionOf c.self.inside.draft.settings (timetable_of c.self.inside.draft.entries) x) (sym c.deref.ensures) inside in
    let solved = subst (λ (x : Snapshot). IsSolutionOf x.settings (timetable_of x.entries) c.deref.result.now) c.self.view_is lent in
    best-legal v.settings (timetable_of v.entries) c.best.result (subst (IsBest v.settings (timetable_of v.entries)) (sym c.best.ensures) solved.scratch.best_is)

pub returns-in-Some-clause-least : goal.returns-in-Some-clause-least
returns-in-Some-clause-least c =
    let v = c.args.self.now in
    let inside : IsSolutionOf c.self.inside.draft.settings (timetable_of c.self.inside.draft.entries) c.in-Some.solution.value = rw c.in-Some.is at c.self.invariant.solved in
    let lent = subst (λ x. IsSolutionOf c.self.inside.draft.settings (timetable_of c.self.inside.draft.entries) x) (sym c.deref.ensures) inside in
    let solved = subst (λ (x : Snapshot). IsSolutionOf x.settings (timetable_of x.entries) c.deref.result.now) c.self.view_is lent in
    let checked = subst (λ (x : Snapshot). IsChecked x.settings) c.self.view_is c.self.invariant.checked in
    best-costs-least v.settings (timetable_of v.entries) c.best.result checked (timetable-sound v.entries) (subst (IsBest v.settings (timetable_of v.entries)) (sym c.best.ensures) solved.scratch.best_is)

pub returns-in-Some-clause-none : goal.returns-in-Some-clause-none
returns-in-Some-clause-none c =
    let v = c.args.self.now in
    let inside : IsSolutionOf c.self.inside.draft.settings (timetable_of c.self.inside.draft.entries) c.in-Some.solution.value = rw c.in-Some.is at c.self.invariant.solved in
    let lent = subst (λ x. IsSolutionOf c.self.inside.draft.settings (timetable_of c.self.inside.draft.entries) x) (sym c.deref.ensures) inside in
    let solved = subst (λ (x : Snapshot). IsSolutionOf x.settings (timetable_of x.entries) c.deref.result.now) c.self.view_is lent in
    best-none v.settings (timetable_of v.entries) c.best.result (subst (IsBest v.settings (timetable_of v.entries)) (sym c.best.ensures) solved.scratch.best_is)
