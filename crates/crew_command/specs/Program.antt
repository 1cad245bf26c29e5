-- How a run of the program ends.
use Rattle.std.specs.Prelude.{◌≡◌, ◌⊎◌, ◌∷◌, [], ℕ, zero, suc, Bool, List, Option, Result, Ok, Err, IfErr, IfSome, IsTrue, false}
use Rattle.std.specs.Io.KnownBytes.{Appends, Keeps}
use Rattle.clap.specs.Kinds.{IsAmong, Kinds}
use Rattle.clap.specs.Words.{Text, kind_of}
use Rattle.clap.specs.declared.error.Error.{Error}
use Rattle.clap.specs.declared.error.kind.ErrorKind.{ErrorKind}
use Rattle.clap.specs.declared.error.kind.ErrorKind.TheVariants as kind
use Rattle.crew_rules.specs.Settings.{check_of}
use Rattle.crew_rules.specs.declared.settings.BadSetting.{BadSetting}
use Rattle.crew_records.specs.Fields.{Fields}
use Rattle.crew_serve.specs.Serving.{IsServingFault}
use Rattle.crew_serve.specs.crew_session.Faults.{Never}
use Rattle.crew_serve.specs.crew_session.Replay.{IsReplayText, ReplayBegins}
use Rattle.crew_serve.specs.crew_session.Rows.{records_of}
use Rattle.crew_serve.specs.crew_session.Session.{Begins, IsSessionText, start}
use Rattle.crew_serve.specs.crew_session.Stops.{IsSessionFault}
use Rattle.crew_serve.specs.crew_session.Texts.{AppendsBeginning}
use Rattle.crew_serve.specs.crew_session.declared.fault.SessionFault.{SessionFault}
use Rattle.crew_command.specs.Faults.{fault_of, line_of, status_of}
use Rattle.crew_command.specs.declared.fault.Fault.{Fault}
use Rattle.crew_command.specs.declared.fault.Fault.TheVariants.{Read, Write, Usage, Word, Memory, Setting, Strange}
use Rattle.crew_serve.specs.Workers.{EndsStrange, IsUnbegun}
use Rattle.crew_rules.specs.declared.settings.Settings.{Settings}
use Rattle.crew_words.specs.Words.{faults_in, settings_of, task_of}
use Rattle.crew_words.specs.declared.task.Task.{Task}
use Rattle.crew_words.specs.declared.task.Task.TheVariants.{Run, Replay, Serve}

-- what a run comes to
abbrev pub Outcome : Type 0
Outcome = Result (Unit {0}) Fault

-- the status after it
abbrev pub status_after : Outcome → ℕ
status_after (Ok done) = 0
status_after (Err fault) = status_of fault

-- what a run has from the streams: the bytes that were to read, those that the writer held and
-- holds, and whether the reader and the writer have failed
pub record Streams : Type 0 where
  pub input : Option (List ℕ)
  pub before : Option (List ℕ)
  pub after : Option (List ℕ)
  pub reader : Bool
  pub writer : Bool

abbrev pub streams : Option (List ℕ) → Option (List ℕ) → Option (List ℕ) → Bool → Bool → Streams
streams input before after reader writer =
    record { input = input; before = before; after = after; reader = reader; writer = writer }

-- help was shown, or the writer failed, or there was no memory; the text is the parser's own
abbrev pub Shows : Bool → Outcome → Type 0
Shows writer (Ok done) = Unit {0}
Shows writer (Err Write) = IsTrue writer
Shows writer (Err Memory) = writer ≡ false
Shows writer (Err Read) = ⊥
Shows writer (Err (Usage error)) = ⊥
Shows writer (Err Word) = ⊥
Shows writer (Err (Setting bad)) = ⊥
Shows writer (Err Strange) = ⊥

-- words that the parser doesn't take: help goes to the writer, or the run fails and nothing is
-- written
abbrev pub Answers : ErrorKind → Error → Option (List ℕ) → Option (List ℕ) → Bool → Outcome → Type 0
Answers kind.OutOfMemory error before after writer r = (r ≡ Err Memory) × Keeps before after
Answers kind.DisplayHelp error before after writer r = Shows writer r
Answers kind.DisplayVersion error before after writer r = Shows writer r
Answers other error before after writer r = (r ≡ Err (Usage error)) × Keeps before after

-- what a session or a schedule wrote: the text of one of the bytes, or it failed so, and wrote a
-- beginning of the text of the first records
abbrev pub Wrote : (SessionFault → Type 0) → (List ℕ → List ℕ → Type 0) → (List Fields
    → Option (List ℕ) → Option (List ℕ) → Type 0) → Streams → Result (Unit {0}) SessionFault
    → Type 0
Wrote Fails IsText IsBegun io (Ok done) = IfSome io.input
    (λ bytes. (text : List ℕ) × Appends io.before io.after text × IsText bytes text)
Wrote Fails IsText IsBegun io (Err fault) =
    Fails fault × IfSome io.input (λ bytes. IsBegun (records_of bytes) io.before io.after)

-- it fails for the reader, the writer or want of memory: what works in one thread is never strange
abbrev pub FailsAlone : Streams → SessionFault → Type 0
FailsAlone io fault = IsSessionFault Never io.input io.reader io.writer fault

-- beside workers it fails for these too, or where a settle of the session found in the log, which
-- threads share, what no session brings about; or it didn't begin, and nothing was written
abbrev pub FailsBeside : Settings → Streams → SessionFault → Type 0
FailsBeside s io fault = EndsStrange s io.input io.reader io.writer fault
    ⊎ IsUnbegun io.before io.after fault

-- a session fails by whether it has workers
abbrev pub FailsWith : ℕ → Settings → Streams → SessionFault → Type 0
FailsWith zero s io fault = FailsAlone io fault
FailsWith (suc more) s io fault = FailsBeside s io fault

-- of what a service's clients are told it says nothing: that goes elsewhere
abbrev pub WroteOf : Task → Streams → Result (Unit {0}) SessionFault → Type 0
WroteOf (Run s sharing) io r =
    Wrote (FailsWith sharing.workers s io) (IsSessionText s) (Begins s (start s)) io r
WroteOf (Replay s) io r = Wrote (FailsAlone io) (IsReplayText s) (ReplayBegins s) io r
WroteOf (Serve s hosting) io r = IfErr r (IsServingFault io.reader)

-- what a task comes to
abbrev pub Played : Task → Streams → Outcome → Type 0
Played task io (Ok done) = WroteOf task io (Ok done)
Played task io (Err fault) = (f : SessionFault) × (fault ≡ fault_of f) × WroteOf task io (Err f)

-- the same, where settings out of their ranges are refused and nothing is written
abbrev pub Plays : Task → Result (Unit {0}) BadSetting → Streams → Outcome → Type 0
Plays task (Err bad) io r = (r ≡ Err (Setting bad)) × Keeps io.before io.after
Plays task (Ok checked) io r = Played task io r

-- what a run comes to by the kinds of fault in its words, the task that they ask for, and the
-- streams: the task where there is no fault, and else what is answered to an error of one of these
-- kinds
abbrev pub ComesBy : Kinds → Task → Streams → Outcome → Type 0
ComesBy [] task io r = Plays task (check_of (settings_of task)) io r
ComesBy (k ∷ ks) task io r = (error : Error) × IsAmong (kind_of error) (k ∷ ks)
    × Answers (kind_of error) error io.before io.after io.writer r

-- what a run comes to by its words, or there was no memory to read them
abbrev pub Comes : List Text → Streams → Outcome → Type 0
Comes words io r = ((r ≡ Err Memory) × Keeps io.before io.after)
    ⊎ ComesBy (faults_in words) (task_of words) io r

-- a line goes out whole, or the writer failed after a beginning of it
abbrev pub ReportsLine : Option (List ℕ) → Option (List ℕ) → Bool → List ℕ → Type 0
ReportsLine before after failed line = Appends before after line
    ⊎ (IsTrue failed × AppendsBeginning before after line)

-- what a run tells where faults go: nothing where it is done, and else the one line of its fault;
-- the text of a fault in the words is the parser's own
abbrev pub Reports : Outcome → Option (List ℕ) → Option (List ℕ) → Bool → Type 0
Reports (Ok done) before after failed = Keeps before after
Reports (Err fault) before after failed = IfSome (line_of fault) (ReportsLine before after failed)
