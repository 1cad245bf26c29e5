-- What the code of a talk keeps.
use Rattle.std.specs.Prelude.{ℕ}
use Rattle.crew_serve.specs.Conversations.{Talk}
use Rattle.crew_serve.specs.Machinery.Desks.{AtDesk, client_of}

-- the client's desk, and how many records it has sent
pub record Talking : Type 0 where
  pub desk : AtDesk
  pub records : ℕ

abbrev pub talk_of : Talking → Talk
talk_of t = record { client = client_of t.desk; records = t.records }
