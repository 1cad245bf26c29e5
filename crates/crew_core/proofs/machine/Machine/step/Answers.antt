use Rattle.std.proofs.Common.{IfOk, sym, subst}
use Rattle.crew_core.specs.Replies.{IsStep, act_of}
use Rattle.crew_core.proofs.machine.Machine.step.Goals as goal

pub returns-in-Ask-clause-ok : goal.returns-in-Ask-clause-ok
returns-in-Ask-clause-ok g c = subst (λ step. IfOk c.ask.result (λ reply. IsStep c.args.self.now (act_of step) reply c.args.self.now)) (sym c.in-Ask.is) c.ask.ensures
