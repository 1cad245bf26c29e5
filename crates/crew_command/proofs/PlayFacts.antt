-- What a session comes to, over an engine that is never strange and beside workers.
use Rattle.std.proofs.Common.{◌≡◌, ◌<◌, Bool, List, Option, Result, Ok, Err, ℕ, zero, suc, arith}
use Rattle.std.specs.Prelude.{IfErr, IfSome, OnErr, OnOk}
use Rattle.std.specs.Io.KnownBytes.{Appends}
use Rattle.crew_rules.specs.declared.settings.Settings.{Settings}
use Rattle.crew_serve.specs.crew_session.Faults.{Never}
use Rattle.crew_serve.specs.crew_session.Rows.{records_of}
use Rattle.crew_serve.specs.crew_session.Session.{Begins, IsSessionText, start}
use Rattle.crew_serve.specs.crew_session.Stops.{IsSessionFault}
use Rattle.crew_serve.specs.crew_session.declared.fault.SessionFault.{SessionFault}
use Rattle.crew_serve.specs.crew_session.declared.fault.SessionFault.TheVariants.{Read, Write, Memory, Strange}
use Rattle.crew_command.specs.Program.{FailsAlone, FailsBeside, FailsWith, Streams, Wrote}

-- where no number is called for
never-strange : (Called : ℕ → Type 0) (input : Option (List ℕ)) (reader writer : Bool) (fault : SessionFault) → ((number : ℕ) → Called number → ⊥) → IsSessionFault Called input reader writer fault → IsSessionFault Never input reader writer fault
never-strange Called input reader writer Read none h = h
never-strange Called input reader writer Write none h = h
never-strange Called input reader writer Memory none h = h
never-strange Called input reader writer (Strange number) none h = none number h

fails-alone : (workers : ℕ) (s : Settings) (io : Streams) (fault : SessionFault) → workers ≡ 0 → FailsAlone io fault → FailsWith workers s io fault
fails-alone zero s io fault none h = h
fails-alone (suc more) s io fault none h = absurd (omega (arith, none))

pub wrote-plain : (r : Result (Unit {0}) SessionFault) (s : Settings) (workers : ℕ) (Called : ℕ → Type 0) (io : Streams) → workers ≡ 0 → ((number : ℕ) → Called number → ⊥)
    → OnOk r (IfSome io.input (λ bytes. (text : List ℕ) × Appends io.before io.after text × IsSessionText s bytes text))
    → OnErr r (IfSome io.input (λ bytes. Begins s (start s) (records_of bytes) io.before io.after))
    → IfErr r (IsSessionFault Called io.input io.reader io.writer) → Wrote (FailsWith workers s io) (IsSessionText s) (Begins s (start s)) io r
wrote-plain (Ok done) s workers Called io alone none output begun fault = output
wrote-plain (Err why) s workers Called io alone none output begun fault = (fails-alone workers s io why alone (never-strange Called io.input io.reader io.writer why none fault), begun)

fails-beside : (workers : ℕ) (s : Settings) (io : Streams) (fault : SessionFault) → 0 < workers → FailsBeside s io fault → FailsWith workers s io fault
fails-beside zero s io fault some h = absurd (omega (arith, some))
fails-beside (suc more) s io fault some h = h

pub wrote-beside : (r : Result (Unit {0}) SessionFault) (s : Settings) (workers : ℕ) (io : Streams) → 0 < workers
    → OnOk r (IfSome io.input (λ bytes. (text : List ℕ) × Appends io.before io.after text × IsSessionText s bytes text))
    → OnErr r (IfSome io.input (λ bytes. Begins s (start s) (records_of bytes) io.before io.after))
    → IfErr r (FailsBeside s io) → Wrote (FailsWith workers s io) (IsSessionText s) (Begins s (start s)) io r
wrote-beside (Ok done) s workers io some output begun fault = output
wrote-beside (Err why) s workers io some output begun fault = (fails-beside workers s io why some fault, begun)
