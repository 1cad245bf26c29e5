use Rattle.std.proofs.Common.{refl}
use Rattle.crew_session.proofs.PlayerFacts.{refusal-begun, refusal-met, step-begun, step-met, zone-met}
use Rattle.crew_session.proofs.player.Player.meet.Goals as goal

pub returns-in_ok-add-in-Zone-clause-meets : goal.returns-in_ok-add-in-Zone-clause-meets
returns-in_ok-add-in-Zone-clause-meets g c = λ s a stands. zone-met s c.args.self.now _ a c.args.number c.in-Zone.code c.in-Zone.zone _ _ c.in-Zone.is c.in_ok-add-in-Zone.ensures.ok refl stands

pub returns-in-Play-clause-meets : goal.returns-in-Play-clause-meets
returns-in-Play-clause-meets g c = λ s a stands. step-met c.play.result s _ a c.args.number c.in-Play.step _ _ _ c.in-Play.is (c.play.ensures.steps s a stands)

pub returns-in-Play-clause-begun : goal.returns-in-Play-clause-begun
returns-in-Play-clause-begun g c = λ s a stands. step-begun c.play.result s a c.args.number c.in-Play.step _ _ _ c.in-Play.is (c.play.ensures.begun s a stands)

pub returns-in-Refuse-clause-meets : goal.returns-in-Refuse-clause-meets
returns-in-Refuse-clause-meets g c = λ s a stands. refusal-met c.write_refused.result s _ a c.args.number _ c.in-Refuse.fault _ _ _ c.in-Refuse.is c.number.ensures stands c.write_refused.ensures.written

pub returns-in-Refuse-clause-begun : goal.returns-in-Refuse-clause-begun
returns-in-Refuse-clause-begun g c = λ s a stands. refusal-begun c.write_refused.result s a c.args.number _ c.in-Refuse.fault _ _ _ c.in-Refuse.is c.number.ensures c.write_refused.ensures.begun
