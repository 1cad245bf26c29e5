-- What a schedule asks of the machine, and what it writes where the machine gives these replies.
use Rattle.std.specs.Prelude.{ℕ, ◌+◌, ◌++◌, List, [], ◌∷◌}
use Rattle.std.specs.FinMap as map
use Rattle.crew_machine.specs.Crew.{CrewAct, CrewReply}
use Rattle.crew_records.specs.Faults.{record_number}
use Rattle.crew_records.specs.Fields.{Fields}
use Rattle.crew_records.specs.Schedules.{step_of}
use Rattle.crew_rules.specs.declared.settings.Settings.{Settings}
use Rattle.crew_session.specs.Lines.{refused_line}
use Rattle.crew_session.specs.Replay.{Demand, Zone, Play, Refuse, demand_of}
use Rattle.crew_session.specs.ReplyLines.{reply_lines}
use Rattle.crew_session.specs.Zones.{Zones}

-- of one record, by what it comes to: the zones after it, the act, the lines, and the replies that
-- are left for the others
abbrev pub zones_after : Demand → Zones → Zones
zones_after (Zone code zone) zones = map.insert zones code zone
zones_after (Play act) zones = zones
zones_after (Refuse fault) zones = zones

abbrev pub acts_by : Demand → List CrewAct
acts_by (Zone code zone) = []
acts_by (Play act) = act ∷ []
acts_by (Refuse fault) = []

abbrev pub lines_by : ℕ → Demand → List CrewReply → List ℕ
lines_by number (Zone code zone) replies = []
lines_by number (Play act) [] = []
lines_by number (Play act) (reply ∷ replies) = reply_lines reply
lines_by number (Refuse fault) replies = refused_line number (record_number fault)

abbrev pub replies_after : Demand → List CrewReply → List CrewReply
replies_after (Zone code zone) replies = replies
replies_after (Play act) [] = []
replies_after (Play act) (reply ∷ replies) = replies
replies_after (Refuse fault) replies = replies

-- the acts of records, in order
abbrev pub acts_in : Settings → Zones → List Fields → List CrewAct
acts_in s zones [] = []
acts_in s zones (row ∷ rows) =
    acts_by (demand_of s zones (step_of row))
    ++ acts_in s (zones_after (demand_of s zones (step_of row)) zones) rows

-- what records write, where so many came before
abbrev pub text_in : Settings → ℕ → Zones → List Fields → List CrewReply → List ℕ
text_in s number zones [] replies = []
text_in s number zones (row ∷ rows) replies =
    lines_by (number + 1) (demand_of s zones (step_of row)) replies
    ++ text_in s (number + 1) (zones_after (demand_of s zones (step_of row)) zones) rows
    (replies_after (demand_of s zones (step_of row)) replies)
