use Rattle.std.proofs.Common.{◌∙◌, sym}
use Rattle.crew_session.specs.Machinery.Journals.{state_of}
use Rattle.crew_session.proofs.OddFacts.{declined-odd}
use Rattle.crew_session.proofs.session.decline.Goals as goal

pub returns-then-not-branch-clause-fault : goal.returns-then-not-branch-clause-fault
returns-then-not-branch-clause-fault g c =
    let strange = sym c.may_be_strange.ensures ∙ c.if-may_be_strange.true in
    let few = rw (c.version.ensures, c.deref.ensures.value, c.requires.in_step.kept strange) at c.in_ok-has_too_many.ensures.few c.if-not-branch.true in
    let told = c.requires.told strange in
    rw c.stop.ensures (declined-odd g.E.Engine.MAY_BE_STRANGE (state_of c.args.journal.now (g.E.Engine.shown c.args.engine.now) (g.E.Engine.entries c.args.engine.now)) (g.E.Engine.entries c.args.engine.now) _ (sym c.requires.in_step.goes_on) strange (c.requires.found strange) few (told.0, _, told.1))
