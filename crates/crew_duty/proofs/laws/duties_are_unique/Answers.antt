use Rattle.crew_pairing.specs.Duties.{flights_of}
use Rattle.crew_duty.proofs.Unique.{unique}
use Rattle.crew_duty.proofs.laws.duties_are_unique.Goals as goal

pub returns : goal.returns
returns c = λ s t ds es h k. unique s (flights_of t) ds es h k
