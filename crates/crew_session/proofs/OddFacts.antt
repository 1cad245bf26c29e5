-- What a session is stopped by, and where it stands then.
use Rattle.std.proofs.Common.{◌≡◌, ◌⊎◌, ◌<◌, ◌+◌, ◌++◌, ◌∙◌, ℕ, Bool, List, length, Option, Some, None, Ok, Err, refl, sym, ap, subst, arith, inl, inr}
use Rattle.std.specs.Prelude.{IfErr, IfSome, IsTrue, Result}
use Rattle.std.specs.Result.{IsErrAnd}
use Rattle.crew_flights.specs.declared.entries.Entry.{Entry}
use Rattle.crew_pairing.specs.Duties.{HasFew}
use Rattle.crew_records.specs.Commands.{command_of}
use Rattle.crew_records.specs.Fields.{Fields}
use Rattle.crew_records.specs.declared.command.Command.{Command}
use Rattle.crew_records.specs.declared.command.Command.TheVariants.{Settle}
use Rattle.crew_rules.specs.declared.settings.Settings.{Settings}
use Rattle.crew_session.specs.Engines.{IsFound, IsSettleFault}
use Rattle.crew_session.specs.Faults.{IsPlayFault, IsRecordFault, stop_of}
use Rattle.crew_session.specs.Oddities.{Found, IsOdd, IsSettledAt, IsTold, IsWhole, Made, MeetsOdd}
use Rattle.crew_session.specs.Rows.{TakesRow}
use Rattle.crew_session.specs.Session.{ObeysRow, State}
use Rattle.crew_session.specs.declared.engine_fault.EngineFault.{EngineFault}
use Rattle.crew_session.specs.declared.engine_fault.EngineFault.TheVariants.{TooManyDuties, LastVersion, SeatFull, Gap, OtherLog, NoView, Memory}
use Rattle.crew_session.specs.declared.fault.SessionFault.{SessionFault}
use Rattle.crew_session.specs.declared.fault.SessionFault.TheVariants as stop
use Rattle.crew_session.proofs.LeadFacts.{HasLed}
use Rattle.crew_version.specs.Versions.{Snapshot, timetable_of}

-- what was found is told by what the engine had, and by the entries that it took
abbrev pub TellsOf : List Entry → Found → Type 0
TellsOf taken found = (before : Made) × (after : Made) × IsTold before taken after found

-- and so where a session stands
told-there : (a : State) (taken : List Entry) (found : Found) → a.version.entries ++ a.entries ≡ taken → TellsOf taken found → IsTold found.before (a.version.entries ++ a.entries) found.after found
told-there a taken found all (before, after, h) =
    let one = subst (λ (m : Made). IsTold m taken after found) (sym h.from) h in
    let both = subst (λ (m : Made). IsTold found.before taken m found) (sym h.upto) one in
    subst (λ (es : List Entry). IsTold found.before es found.after found) (sym all) both

-- what is odd where a session stands
odd-there : (strange : Bool) (a : State) (taken : List Entry) (found : Found) (was : Result Snapshot EngineFault) (number : ℕ) → a.version.entries ++ a.entries ≡ taken → IsTrue strange → found.what ≡ was
    → IsOdd a.version (a.version.entries ++ a.entries) was number → TellsOf taken found → MeetsOdd strange (λ at. at ≡ a) found number
odd-there strange a taken found was number all s is odd told = (
  s,
  (
    a,
    refl,
    record { odd = subst (λ (r : Result Snapshot EngineFault). IsOdd a.version (a.version.entries ++ a.entries) r number) (sym is) odd; told = told-there a taken found all told },
  ),
)

-- it answered 40, and the entries that were sent come to few duties
pub declined-odd : (strange : Bool) (a : State) (taken : List Entry) (found : Found) → a.version.entries ++ a.entries ≡ taken → IsTrue strange → found.what ≡ Err TooManyDuties
    → HasFew a.version.settings (timetable_of (a.version.entries ++ a.entries)) → TellsOf taken found → MeetsOdd strange (λ at. at ≡ a) found 63
declined-odd strange a taken found all s is few told = odd-there strange a taken found (Err TooManyDuties) 63 all s is (refl, few) told

-- it found a version that isn't the next whole one
found-odd : (strange : Bool) (a : State) (taken : List Entry) (after : Snapshot) (found : Found) → a.version.entries ++ a.entries ≡ taken → IsTrue strange → found.what ≡ Ok after → ¬ (IsWhole a.version taken after)
    → TellsOf taken found → MeetsOdd strange (λ at. at ≡ a) found 63
found-odd strange a taken after found all s is other told =
    odd-there strange a taken found (Ok after) 63 all s is (refl, subst (λ (es : List Entry). ¬ (IsWhole a.version es after)) (sym all) other) told

-- the engine refuses, by another number than 40
pub refused-odd : (strange : Bool) (a : State) (taken : List Entry) (shown : Snapshot) (found : Found) (fault : EngineFault) → a.version.entries ++ a.entries ≡ taken → ¬ (fault ≡ TooManyDuties) → a.version.number < 18_446_744_073_709_551_615
    → IsSettleFault strange a.version taken fault → (IsTrue strange → IsFound a.version taken shown found (Err fault)) → (IsTrue strange → TellsOf taken found) → IsRecordFault (MeetsOdd strange (λ at. at ≡ a) found) (stop_of fault)
refused-odd strange a taken shown found TooManyDuties all other small why is told = absurd (other refl)
refused-odd strange a taken shown found LastVersion all other small (inl last) is told = absurd (omega (arith, last))
refused-odd strange a taken shown found LastVersion all other small (inr s) is told = odd-there strange a taken found (Err LastVersion) 57 all s (is s) refl (told s)
refused-odd strange a taken shown found SeatFull all other small why is told = absurd why
refused-odd strange a taken shown found (Gap place) all other small s is told = odd-there strange a taken found (Err (Gap place)) 62 all s (is s) refl (told s)
refused-odd strange a taken shown found OtherLog all other small s is told =
    let h = is s in found-odd strange a taken h.0 found all s h.1 h.2 (told s)
refused-odd strange a taken shown found NoView all other small s is told = odd-there strange a taken found (Err NoView) 65 all s (is s) refl (told s)
refused-odd strange a taken shown found Memory all other small why is told = tt

-- the engine shows a version with another number, or of other entries
pub shown-odd : (strange : Bool) (a : State) (taken : List Entry) (shown : Snapshot) (found : Found) (count : ℕ) → a.version.entries ++ a.entries ≡ taken → length taken ≡ count
    → ¬ ((shown.number ≡ a.version.number + 1) × (length shown.entries ≡ count)) → IsWhole a.version taken shown ⊎ IsTrue strange → (IsTrue strange → found.what ≡ Ok shown) → (IsTrue strange → TellsOf taken found)
    → MeetsOdd strange (λ at. at ≡ a) found 63
shown-odd strange a taken shown found count all long other (inl whole) is told = absurd (other (whole.number, ap length whole.entries ∙ long))
shown-odd strange a taken shown found count all long other (inr s) is told =
    found-odd strange a taken shown found all s (is s) (λ whole. other (whole.number, ap length whole.entries ∙ long)) (told s)

-- the same, under equal names
pub odd-of : (P : ℕ → Type 0) (Q : ℕ → Type 0) (fault : SessionFault) → ((n : ℕ) → P n → Q n) → IsRecordFault P fault → IsRecordFault Q fault
odd-of P Q stop.Read more h = h
odd-of P Q stop.Write more h = h
odd-of P Q stop.Memory more h = h
odd-of P Q (stop.Strange number) more h = more number h

-- what stops a record stops the play
pub play-fault : (P : ℕ → Type 0) (Q : ℕ → Type 0) (fault : SessionFault) → ((n : ℕ) → P n → Q n) → IsRecordFault P fault → IsPlayFault Q fault
play-fault P Q stop.Read more h = absurd h
play-fault P Q stop.Write more h = tt
play-fault P Q stop.Memory more h = tt
play-fault P Q (stop.Strange number) more h = more number h

pub played-of : (P : ℕ → Type 0) (Q : ℕ → Type 0) (fault : SessionFault) → ((n : ℕ) → P n → Q n) → IsPlayFault P fault → IsPlayFault Q fault
played-of P Q stop.Read more h = h
played-of P Q stop.Write more h = h
played-of P Q stop.Memory more h = h
played-of P Q (stop.Strange number) more h = more number h

-- an error that is handed on
pub handed-on : {U : Type 0} (r : Result U SessionFault) (fault : SessionFault) (P : SessionFault → Type 0) → IsErrAnd r (λ x. x ≡ fault) → P fault → IfErr r P
handed-on (Ok u) fault P is h = tt
handed-on (Err x) fault P is h = subst P (sym is) h

-- where the records led before a settle
settled-at : (s : Settings) (all before left : Option (List Fields)) (number : ℕ) (first a : State) (row : Fields) → HasLed (ObeysRow s) all before number first a → TakesRow before left row
    → command_of row ≡ Settle → number < 2_000_000 → IfSome all (λ rows. IsSettledAt s first rows a)
settled-at s None before left number first a row h r e small = tt
settled-at s (Some all) None left number first a row h r e small = absurd h
settled-at s (Some all) (Some rows) None number first a row h r e small = absurd r
settled-at s (Some all) (Some rows) (Some rest) number first a row h r e small =
    record { count = number; few = small; leads = h.1; row = row; rest = rest; next = h.0 ∙ r; settle = e }

-- what is odd at a record is met there by the session
pub met-at : (s : Settings) (strange : Bool) (all before left : Option (List Fields)) (number : ℕ) (first a : State) (row : Fields) (command : Command) (found : Found)
    → HasLed (ObeysRow s) all before number first a → TakesRow before left row → command ≡ command_of row → number < 2_000_000
    → (n : ℕ) → MeetsOdd strange (λ at. (command ≡ Settle) × (at ≡ a)) found n → MeetsOdd strange (λ at. IfSome all (λ rows. IsSettledAt s first rows at)) found n
met-at s strange all before left number first a row command found h r is small n (strange_so, (at, (settle, same), odd)) = (
  strange_so,
  (
    at,
    subst (λ (z : State). IfSome all (λ rows. IsSettledAt s first rows z)) (sym same) (settled-at s all before left number first a row h r (sym is ∙ settle) small),
    odd,
  ),
)
