use Rattle.std.proofs.lemmas.Result.{IfOk-at_ok, IfOk-weaker}
use Rattle.std.specs.Fork.Halves.{GivesFor}
use Rattle.crew_claims.proofs.Claimed.{done-more}
use Rattle.crew_claims.proofs.claims.+jobs.Goals as goal

pub returns : goal.returns
returns g t c =
    IfOk-weaker c.with_one-2.result _ _
    (λ all h. done-more g.G.Fn c.args.g.now c.args.jobs.items c.pop.new.self.items c.in-Some.job h.0.items all.items _ c.in-Some.ensures.items h.2
    (IfOk-at_ok (λ r. GivesFor g.G.Fn c.args.g.now c.pop.new.self.items r.items) h.1 c.join-y.ensures.second) c.join-y.ensures.first) c.with_one-2.ensures
