-- Which fault ends a session whose work threads share.
use Rattle.std.specs.Prelude.{◌≡◌, ℕ, Bool, true, List, Option}
use Rattle.std.specs.Io.KnownBytes.{Keeps}
use Rattle.crew_rules.specs.declared.settings.Settings.{Settings}
use Rattle.crew_session.specs.Oddities.{Found, IsCalledFor}
use Rattle.crew_session.specs.Stops.{IsSessionFault}
use Rattle.crew_session.specs.declared.fault.SessionFault.{SessionFault}
use Rattle.crew_session.specs.declared.fault.SessionFault.TheVariants.{Memory}

-- a session didn't begin, and nothing was written: there was no memory for its service
pub record IsUnbegun (before after : Option (List ℕ)) (fault : SessionFault) : Type 0 where
  pub kept : Keeps before after
  pub why : fault ≡ Memory

-- a session ends as one over an engine that may be strange, by what some settle of it found
abbrev pub EndsStrange : Settings → Option (List ℕ) → Bool → Bool → SessionFault → Type 0
EndsStrange s input reader writer fault =
    (found : Found) × IsSessionFault (IsCalledFor true s input found) input reader writer fault
