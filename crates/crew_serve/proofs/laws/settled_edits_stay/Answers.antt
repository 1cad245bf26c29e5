use Rattle.crew_serve.proofs.TalkFacts.{all-later, converses-goes}
use Rattle.crew_serve.proofs.laws.settled_edits_stay.Goals as goal

pub returns : goal.returns
returns c = λ s name comings a b out edits h has. all-later a.client.version b.client.version edits (converses-goes s name comings a b out h) has
