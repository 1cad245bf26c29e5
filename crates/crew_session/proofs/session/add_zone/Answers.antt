use Rattle.crew_session.proofs.SessionFacts.{zone-begin}
use Rattle.std.proofs.Common.{◌∙◌, sym}
use Rattle.crew_session.proofs.session.add_zone.Goals as goal

pub returns-in-Some-clause-begun : goal.returns-in-Some-clause-begun
returns-in-Some-clause-begun g c =
    λ version taken. zone-begin c.write_refused.result _ _ c.args.number c.args.code c.args.zone c.args.journal.now version taken c.in-Some.fault (sym c.refusal.ensures ∙ c.in-Some.is) (rw c.number.ensures at c.write_refused.ensures.begun)
