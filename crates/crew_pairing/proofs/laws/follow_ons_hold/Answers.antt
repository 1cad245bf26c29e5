use Rattle.crew_pairing.proofs.FollowOns.{hold}
use Rattle.crew_pairing.proofs.laws.follow_ons_hold.Goals as goal

pub returns : goal.returns
returns c = hold
