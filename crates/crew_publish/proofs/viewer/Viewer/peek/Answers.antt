use Rattle.std.proofs.Common.{◌++◌, ap}
use Rattle.crew_net.proofs.Oks.{IfOk-from}
use Rattle.crew_publish.proofs.Chains.{begins_seen, longer}
use Rattle.crew_publish.proofs.viewer.Viewer.peek.Goals as goal

pub invariant_of-self : goal.invariant_of-self
invariant_of-self c =
    let i = c.self.invariant in
    let g = c.look_at.ensures.grows in
    (g.0 ++ i.0, longer _ _ _ g.0 i.0 g.1 i.1)

pub returns-clause-ok : goal.returns-clause-ok
returns-clause-ok c =
    let i = c.self.invariant in
    IfOk-from _ _ c.look_at.result (λ a s. (s.0, begins_seen _ _ i.0 s.0 _ i.1 (ap (λ w. w.seen) c.self.view_is) s.4, (s.2, s.3))) c.look_at.ensures.ok
