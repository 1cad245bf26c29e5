use Rattle.crew_session.proofs.OneText.{one-text}
use Rattle.crew_session.specs.Rows.{records_of}
use Rattle.crew_session.specs.Session.{start}
use Rattle.crew_session.proofs.laws.texts_are_unique.Goals as goal

pub returns : goal.returns
returns c = λ s bytes a b h k. one-text s 0 (start s) (records_of bytes) a b h k
