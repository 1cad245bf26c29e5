use Rattle.std.proofs.Common.{◌≡◌, ◌∙◌, sym, ap, subst}
use Rattle.crew_flights.specs.Timetable.{empty_timetable}
use Rattle.crew_version.specs.Versions.{Snapshot, timetable_of}
use Rattle.crew_version.specs.Drafts.{IsSolutionOf}
use Rattle.crew_version.proofs.SolutionFacts.{front-shown, no-front-at-start}
use Rattle.crew_version.proofs.version.Version.front.Goals as goal

pub returns-in-None : goal.returns-in-None
returns-in-None c =
    let solved : timetable_of c.self.inside.draft.entries ≡ empty_timetable = rw c.in-None.is at c.self.invariant.solved in
    no-front-at-start c.args.self.now.settings (timetable_of c.args.self.now.entries) c.args.base c.args.key.now (sym (ap (λ (v : Snapshot). timetable_of v.entries) c.self.view_is) ∙ solved)

pub returns-in-Some : goal.returns-in-Some
returns-in-Some c =
    let v = c.args.self.now in
    let inside : IsSolutionOf c.self.inside.draft.settings (timetable_of c.self.inside.draft.entries) c.in-Some.solution.value = rw c.in-Some.is at c.self.invariant.solved in
    let lent = subst (λ x. IsSolutionOf c.self.inside.draft.settings (timetable_of c.self.inside.draft.entries) x) (sym c.deref.ensures) inside in
    let solved = subst (λ (x : Snapshot). IsSolutionOf x.settings (timetable_of x.entries) c.deref.result.now) c.self.view_is lent in
    front-shown v.settings (timetable_of v.entries) c.deref.result.now c.args.base c.args.key.now c.front.result solved c.front.ensures
