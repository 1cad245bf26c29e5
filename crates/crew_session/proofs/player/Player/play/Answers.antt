use Rattle.std.proofs.Common.{refl}
use Rattle.crew_session.proofs.PlayerFacts.{begun-by-step, came-by-step}
use Rattle.crew_session.proofs.player.Player.play.Goals as goal

pub returns-clause-steps : goal.returns-clause-steps
returns-clause-steps g c = λ s a stands. came-by-step c.write_reply.result s c.args.self.now _ a _ _ _ _ c.in_ok-reply.ensures.ok refl stands c.write_reply.ensures.written

pub returns-clause-begun : goal.returns-clause-begun
returns-clause-begun g c = λ s a stands. begun-by-step c.write_reply.result s c.args.self.now (record { zones = c.args.self.now.zones; machine = c.step.new.self }) a _ _ _ _ c.in_ok-reply.ensures.ok refl stands c.write_reply.ensures.begun
