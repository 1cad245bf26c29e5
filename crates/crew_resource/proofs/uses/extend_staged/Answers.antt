use Rattle.std.proofs.Common.{◌≡◌, ◌∙◌, ap}
use Rattle.crew_resource.proofs.StageFacts.{step_bound}
use Rattle.crew_resource.proofs.uses.extend_staged.Goals as goal

pub returns-clause-bound : goal.returns-clause-bound
returns-clause-bound g c =
    let r = c.args.resource.now in
    let v = c.args.value.now in
    let waited : c.wait-waited.result ≡ g.R.Staged.waited r v (g.P.Placed.arrives c.args.last.now) (g.P.Placed.leaves c.args.next.now) =
    c.wait-waited.ensures ∙ (ap (λ x. g.R.Staged.waited r v x c.departure.result) c.arrival.ensures ∙ ap (g.R.Staged.waited r v (g.P.Placed.arrives c.args.last.now)) c.departure.ensures) in
    step_bound _ _ _ _ _ _ _ _ _ _ _ _ _ _ _ _ (g.met.R.Staged.bounds r) v (g.P.Placed.arrives c.args.last.now) c.args.next.now c.board.result c.requires.follows c.requires.sound
    (c.board.ensures ∙ ap (λ w. g.R.Staged.boards r w c.args.next.now) waited)
