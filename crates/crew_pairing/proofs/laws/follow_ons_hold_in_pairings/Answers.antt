use Rattle.crew_pairing.proofs.FollowOns.{hold-in-pairings}
use Rattle.crew_pairing.proofs.laws.follow_ons_hold_in_pairings.Goals as goal

pub returns : goal.returns
returns c = hold-in-pairings
