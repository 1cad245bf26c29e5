-- What a schedule writes is told by a run of the machine.
use Rattle.std.proofs.Common.{◌≡◌, ◌∙◌, ◌+◌, ◌++◌, ℕ, List, [], ◌∷◌, ap, ap₂, refl, subst}
use Rattle.crew_machine.specs.Choices.{ChosenRun}
use Rattle.crew_machine.specs.Crew.{CrewReply, CrewState, crew}
use Rattle.crew_records.specs.Fields.{Fields}
use Rattle.crew_records.specs.Schedules.{step_of}
use Rattle.crew_rules.specs.declared.settings.Settings.{Settings}
use Rattle.crew_session.specs.Replay.{Demand, Meets, Performs, Stage, Zone, Play, Refuse, demand_of}
use Rattle.crew_session.specs.Replies.{acts_by, acts_in, lines_by, replies_after, text_in, zones_after}
use Rattle.crew_session.specs.Writes.{WritesBy}
use Rattle.crew_session.specs.Zones.{Zones}

-- from a stage on there is a run over the acts of records, whose replies tell the text
abbrev Runs : Settings → ℕ → Stage → List Fields → List ℕ → Type 0
Runs s number a rows text =
    (replies : List CrewReply) × (state : CrewState) × ChosenRun (crew s) a.machine (acts_in s a.zones rows) replies state × (text ≡ text_in s number a.zones rows replies)

-- the same, where the first record comes to this
abbrev RunsBy : Settings → ℕ → Demand → Stage → List Fields → List ℕ → Type 0
RunsBy s number d a rows text =
    (replies : List CrewReply) × (state : CrewState) × ChosenRun (crew s) a.machine (acts_by d ++ acts_in s (zones_after d a.zones) rows) replies state
    × (text ≡ lines_by (number + 1) d replies ++ text_in s (number + 1) (zones_after d a.zones) rows (replies_after d replies))

one-more : (s : Settings) (number : ℕ) (d : Demand) (a b : Stage) (rows : List Fields) (line rest text : List ℕ) → Meets s (number + 1) d a b line → Runs s (number + 1) b rows rest → text ≡ line ++ rest
    → RunsBy s number d a rows text
one-more s number (Zone code zone) a b rows line rest text m h e =
    let on = subst (λ (x : Stage). Runs s (number + 1) x rows rest) m.0 h in
    (on.0, on.1, on.2, e ∙ ap₂ (λ (x y : List ℕ). x ++ y) m.1 on.3)
one-more s number (Play act) a b rows line rest text m h e =
    let run = subst (λ (z : Zones). ChosenRun (crew s) b.machine (acts_in s z rows) h.0 h.1) m.zones h.2 in
    let told = h.3 ∙ ap (λ (z : Zones). text_in s (number + 1) z rows h.0) m.zones in
    (m.reply ∷ h.0, h.1, (b.machine, m.steps, run), e ∙ ap₂ (λ (x y : List ℕ). x ++ y) m.written told)
one-more s number (Refuse fault) a b rows line rest text m h e =
    let on = subst (λ (x : Stage). Runs s (number + 1) x rows rest) m.0 h in
    (on.0, on.1, on.2, e ∙ ap₂ (λ (x y : List ℕ). x ++ y) m.1 on.3)

pub runs : (s : Settings) (number : ℕ) (a : Stage) (rows : List Fields) (text : List ℕ) → WritesBy (Performs s) number a rows text → Runs s number a rows text
runs s number a [] text h = ([], a.machine, refl, h)
runs s number a (row ∷ rows) text h =
    one-more s number (demand_of s a.zones (step_of row)) a h.0 rows h.1 h.2 text h.3 (runs s (number + 1) h.0 rows h.2 h.4) h.5
