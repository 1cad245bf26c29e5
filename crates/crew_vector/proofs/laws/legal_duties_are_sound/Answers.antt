use Rattle.crew_vector.proofs.LegalDuties.{duties-sound}
use Rattle.crew_vector.proofs.laws.legal_duties_are_sound.Goals as goal

pub returns : goal.returns
returns c = duties-sound
