-- Over two networks, of one resource and base, what is made of the same comes out the same.
use Rattle.std.proofs.Common.{ℕ, List}
use Rattle.crew_label.specs.Tables.{Leaving}
use Rattle.crew_net.specs.Nets.{Net}
use Rattle.crew_labelling.specs.Beside.{StayAlike}
use Rattle.crew_labelling.specs.Terms.{Terms}
use Rattle.crew_labelling.proofs.BesideArrivals.{arrivals-same, rested-same}
use Rattle.crew_labelling.proofs.BesideDepartures.{departures-same}
use Rattle.crew_labelling.proofs.BesideFronts.{fronts-same}
use Rattle.crew_labelling.proofs.BesideLabels.{ArePaired, beside}

pub stay-alike : {V : Type 0} (w : Terms V) (other : Net) (others : List ℕ) (leaving : Leaving) → ArePaired w (beside w other others leaving) → StayAlike w (beside w other others leaving)
stay-alike w other others leaving pair = record {
  fronts = fronts-same w other others leaving pair;
  arrivals = λ place there x at at-there. arrivals-same w other others leaving pair place there x at at-there;
  rested = λ place there x at at-there. rested-same w other others leaving pair place there x at at-there;
  departures = λ i j g a b at at-there window window-there alike. departures-same w other others leaving pair g a b window window-there alike i j at at-there;
}
