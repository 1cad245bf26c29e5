-- How a session over a service ends.
use Rattle.std.proofs.Common.{◌≤◌, ◌⊎◌, ℕ, Bool, List, [], Option, Some, None, Result, Ok, Err, inl, length, lit≤, refl}
use Rattle.std.specs.Prelude.{IfErr, IfSome, OnErr, OnOk}
use Rattle.std.specs.Io.KnownBytes.{Appends, IsAtEnd, Keeps}
use Rattle.crew_rules.specs.declared.settings.Settings.{Settings}
use Rattle.crew_session.proofs.BeginFacts.{begins-nothing}
use Rattle.crew_session.specs.Oddities.{Found, IsCalledFor}
use Rattle.crew_session.specs.Rows.{records_of}
use Rattle.crew_session.specs.Session.{Begins, IsSessionText, start}
use Rattle.crew_session.specs.Stops.{IsSessionFault}
use Rattle.crew_session.specs.declared.fault.SessionFault.{SessionFault}
use Rattle.crew_session.specs.declared.fault.SessionFault.TheVariants.{Read, Write, Memory, Strange}
use Rattle.crew_serve.specs.Machinery.Played.{IsPlayed, Streams}
use Rattle.crew_serve.specs.Workers.{EndsStrange}

-- what any engine is called strange for, one that may be strange is
ends-strange : (strange : Bool) (s : Settings) (input : Option (List ℕ)) (found : Found) (reader writer : Bool) (fault : SessionFault)
    → IsSessionFault (IsCalledFor strange s input found) input reader writer fault → EndsStrange s input reader writer fault
ends-strange strange s input found reader writer Read h = (found, h)
ends-strange strange s input found reader writer Write h = (found, h)
ends-strange strange s input found reader writer Memory h = (found, h)
ends-strange strange s input found reader writer (Strange number) h = (found, (refl, h.1))

pub is-played : (r : Result (Unit {0}) SessionFault) (s : Settings) (io : Streams) (strange : Bool) (found : Found)
    → OnOk r (IfSome io.input (λ bytes. (text : List ℕ) × Appends io.before io.after text × IsSessionText s bytes text))
    → OnOk r (IfSome io.input (λ bytes. length (records_of bytes) ≤ 2_000_000))
    → OnOk r (IsAtEnd io.left)
    → OnErr r (IfSome io.input (λ bytes. Begins s (start s) (records_of bytes) io.before io.after))
    → IfErr r (IsSessionFault (IsCalledFor strange s io.input found) io.input io.reader io.writer) → IsPlayed s io r
is-played (Ok done) s io strange found output limit end begun fault = record { output = output; limit = limit; end = end; begun = tt; fault = tt }
is-played (Err why) s io strange found output limit end begun fault =
    record { output = tt; limit = tt; end = tt; begun = begun; fault = ends-strange strange s io.input found io.reader io.writer why fault }

pub keeps-self : (w : Option (List ℕ)) → Keeps w w
keeps-self None = tt
keeps-self (Some bytes) = refl

-- nothing begins each text
pub none-begun : (s : Settings) (input w : Option (List ℕ)) → IfSome input (λ bytes. Begins s (start s) (records_of bytes) w w)
none-begun s None w = tt
none-begun s (Some bytes) w = record { count = 0; few = lit≤ tt; text = []; first = refl; begun = begins-nothing w [] }

-- it ended for one of two reasons
pub ended-first : (r : Result (Unit {0}) SessionFault) (P Q : SessionFault → Type 0) → IfErr r P → IfErr r (λ fault. P fault ⊎ Q fault)
ended-first (Ok done) P Q h = tt
ended-first (Err why) P Q h = inl h
