-- Where a schedule in memory stands.
use Rattle.std.specs.Prelude.{◌≡◌, ℕ, List, Option}
use Rattle.std.specs.Io.KnownBytes.{Appends}
use Rattle.crew_core.specs.Machines.{IsMachineOf, settings_of}
use Rattle.crew_core.specs.Replies.{act_of}
use Rattle.crew_rules.specs.declared.settings.Settings.{Settings}
use Rattle.crew_session.specs.Machinery.Journals.{zones_of}
use Rattle.crew_session.specs.Replay.{Demand, Stage}
use Rattle.crew_session.specs.Replay as Spec
use Rattle.crew_session.specs.declared.demand.Demand.{Demand as InCode}
use Rattle.crew_session.specs.declared.demand.Demand.TheVariants as in_code
use Rattle.crew_session.specs.declared.player.Player.{Player}

-- what a record comes to, as the code has it
abbrev pub told_demand : InCode → Demand
told_demand (in_code.Zone code zone) = Spec.Zone code zone
told_demand (in_code.Play step) = Spec.Play (act_of step)
told_demand (in_code.Refuse fault) = Spec.Refuse fault

-- a player that stands for a stage, under some settings
pub record StandsFor (s : Settings) (player : Player) (a : Stage) : Type 0 where
  pub settings : settings_of player.machine ≡ s
  pub zones : zones_of player.zones ≡ a.zones
  pub machine : IsMachineOf player.machine a.machine

-- a player came to a stage, and wrote a text of this kind
pub record CameTo (s : Settings) (Does : Stage → List ℕ → Type 0) (old new : Option (List ℕ))
    (player : Player) : Type 0 where
  pub after : Stage
  pub text : List ℕ
  pub written : Appends old new text
  pub does : Does after text
  pub stands : StandsFor s player after
