use Rattle.crew_log.proofs.log.Log.receipt_at.Goals as goal

pub returns-in-Some-clause-ok : goal.returns-in-Some-clause-ok
returns-in-Some-clause-ok c = c.in-Some.ensures.some c.args.self.now c.requires
