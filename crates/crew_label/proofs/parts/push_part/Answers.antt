use Rattle.crew_label.proofs.Held.{placed_last, placed_more}
use Rattle.crew_label.proofs.parts.push_part.Goals as goal

pub returns-clause-placed : goal.returns-clause-placed
returns-clause-placed c k m = placed_last c.args.parts.now.items c.push.new.self.items c.args.places k c.in_ok-push.ensures.items m

pub returns-clause-stays : goal.returns-clause-stays
returns-clause-stays c k h = placed_more c.args.parts.now.items c.push.new.self.items c.args.places k c.in_ok-push.ensures.items h
