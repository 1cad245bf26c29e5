use Rattle.std.proofs.lemmas.Result.{IfOk-weaker}
use Rattle.crew_solve.proofs.scratch.solve_listed.Goals as goal

pub returns-clause-scratch : goal.returns-clause-scratch
returns-clause-scratch g c = IfOk-weaker c.solve.result _ _ (λ solution h. h.scratch c.args.settings.now c.args.timetable.now c.requires.checked c.of.ensures.sound c.in_ok-plan.ensures.plan) c.solve.ensures

pub returns-clause-network : goal.returns-clause-network
returns-clause-network g c = IfOk-weaker c.solve.result _ _ (λ solution h. h.network c.args.settings.now c.args.timetable.now c.in_ok-plan.ensures.plan) c.solve.ensures
