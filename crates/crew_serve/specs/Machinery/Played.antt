-- How a session over a service ends.
use Rattle.std.specs.Prelude.{◌≤◌, ℕ, Bool, List, Option, Result, IfErr, IfSome, OnErr, OnOk, length}
use Rattle.std.specs.Io.KnownBytes.{Appends, IsAtEnd}
use Rattle.crew_rules.specs.declared.settings.Settings.{Settings}
use Rattle.crew_session.specs.Rows.{records_of}
use Rattle.crew_session.specs.Session.{Begins, IsSessionText, start}
use Rattle.crew_session.specs.declared.fault.SessionFault.{SessionFault}
use Rattle.crew_serve.specs.Workers.{EndsStrange}

-- the bytes that were to read and that are left, those that the writer held and holds, and whether
-- the reader and the writer have failed
pub record Streams : Type 0 where
  pub input : Option (List ℕ)
  pub left : Option (List ℕ)
  pub before : Option (List ℕ)
  pub after : Option (List ℕ)
  pub reader : Bool
  pub writer : Bool

abbrev pub played : Option (List ℕ) → Option (List ℕ) → Option (List ℕ) → Option (List ℕ) → Bool
    → Bool → Streams
played input left before after reader writer = record {
  input = input;
  left = left;
  before = before;
  after = after;
  reader = reader;
  writer = writer;
}

-- a session was played to its end, or wrote a beginning of its text
pub record IsPlayed (s : Settings) (io : Streams) (r : Result (Unit {0}) SessionFault) : Type 0 where
  pub output : OnOk r (IfSome io.input (λ bytes. (text : List ℕ) × Appends io.before io.after text
      × IsSessionText s bytes text))
  pub limit : OnOk r (IfSome io.input (λ bytes. length (records_of bytes) ≤ 2_000_000))
  pub end : OnOk r (IsAtEnd io.left)
  pub begun : OnErr r
      (IfSome io.input (λ bytes. Begins s (start s) (records_of bytes) io.before io.after))
  pub fault : IfErr r (EndsStrange s io.input io.reader io.writer)
