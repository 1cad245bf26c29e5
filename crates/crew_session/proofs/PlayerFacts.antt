-- What a player does with a record.
use Rattle.std.proofs.Common.{◌≡◌, ◌∙◌, ℕ, List, [], Option, Result, Ok, Err, refl, sym, ap, subst, inr}
use Rattle.std.specs.Prelude.{OnErr, OnOk}
use Rattle.std.specs.FinMap as map
use Rattle.std.specs.Io.KnownBytes.{Appends}
use Rattle.jiff_tz.specs.PosixText.{TzText}
use Rattle.crew_core.specs.Machines.{settings_of}
use Rattle.crew_core.specs.Replies.{IsReplyOf, IsStep, act_of}
use Rattle.crew_core.specs.declared.reply.Reply.{Reply}
use Rattle.crew_core.specs.declared.step.Step.{Step}
use Rattle.crew_machine.specs.Choices.{ChosenStep}
use Rattle.crew_machine.specs.Crew.{CrewAct, crew}
use Rattle.crew_records.specs.Faults.{record_number}
use Rattle.crew_records.specs.Fields.{Fields}
use Rattle.crew_records.specs.Schedules.{step_of}
use Rattle.crew_records.specs.declared.fault.RecordFault.{RecordFault}
use Rattle.crew_records.specs.declared.schedule.StepRecord.{StepRecord}
use Rattle.crew_rules.specs.declared.settings.Settings.{Settings}
use Rattle.crew_session.specs.Lines.{refused_line}
use Rattle.crew_session.specs.Machinery.Journals.{zones_of}
use Rattle.crew_session.specs.Machinery.Players.{CameTo, StandsFor, told_demand}
use Rattle.crew_session.specs.Machinery.Told.{told_lines}
use Rattle.crew_session.specs.Replay.{Demand, Meets, Performs, Stage, Steps, demand_of, with_zone}
use Rattle.crew_session.specs.ReplyLines.{reply_lines}
use Rattle.crew_session.specs.Texts.{AppendsBeginning, BeginsOne}
use Rattle.crew_session.specs.Zones.{Zones}
use Rattle.crew_session.specs.declared.demand.Demand.{Demand as InCode}
use Rattle.crew_session.specs.declared.demand.Demand.TheVariants as in_code
use Rattle.crew_session.specs.declared.player.Player.{Player}
use Rattle.crew_session.proofs.LineFacts.{appends-none}
use Rattle.crew_session.proofs.ReplyFacts.{lines-told}

-- ---- a step

-- the step of a machine that stands for a stage is one of the stage, and its reply is told
record Stepped (s : Settings) (old new : Player) (a : Stage) (act : CrewAct) (reply : Reply) : Type 0 where
  pub after : Stage
  pub text : List ℕ
  pub steps : Steps s act a after text
  pub told : told_lines reply ≡ text
  pub stands : StandsFor s new after

stepped : (s : Settings) (old new : Player) (a : Stage) (act : CrewAct) (reply : Reply) → IsStep old.machine act reply new.machine → zones_of new.zones ≡ zones_of old.zones → StandsFor s old a
    → Stepped s old new a act reply
stepped s old new a act reply step zones stands =
    let h = step a.machine stands.machine in
    let tells = subst (λ (z : Settings). IsReplyOf z reply h.answer) stands.settings h.tells in
    let steps = subst (λ (z : Settings). ChosenStep (crew z) a.machine act h.answer h.after) stands.settings h.steps in
    record {
      after = record { zones = a.zones; machine = h.after };
      text = reply_lines h.answer;
      steps = record { reply = h.answer; steps = steps; zones = refl; written = refl };
      told = lines-told s reply h.answer tells;
      stands = record { settings = h.settings ∙ stands.settings; zones = zones ∙ stands.zones; machine = h.shows };
    }

pub came-by-step : {F : Type 0} (r : Result (Unit {0}) F) (s : Settings) (old new : Player) (a : Stage) (act : CrewAct) (reply : Reply) (before after : Option (List ℕ))
    → IsStep old.machine act reply new.machine → zones_of new.zones ≡ zones_of old.zones → StandsFor s old a → OnOk r (Appends before after (told_lines reply)) → OnOk r (CameTo s (Steps s act a) before after new)
came-by-step (Ok u) s old new a act reply before after step zones stands written =
    let p = stepped s old new a act reply step zones stands in
    record { after = p.after; text = p.text; written = subst (Appends before after) p.told written; does = p.steps; stands = p.stands }
came-by-step (Err x) s old new a act reply before after step zones stands written = tt

pub begun-by-step : {F : Type 0} (r : Result (Unit {0}) F) (s : Settings) (old new : Player) (a : Stage) (act : CrewAct) (reply : Reply) (before after : Option (List ℕ))
    → IsStep old.machine act reply new.machine → zones_of new.zones ≡ zones_of old.zones → StandsFor s old a → OnErr r (AppendsBeginning before after (told_lines reply))
    → OnErr r (BeginsOne before after (λ text. (b : Stage) × Steps s act a b text))
begun-by-step (Ok u) s old new a act reply before after step zones stands begun = tt
begun-by-step (Err x) s old new a act reply before after step zones stands begun =
    let p = stepped s old new a act reply step zones stands in
    inr (p.text, (p.after, p.steps), subst (AppendsBeginning before after) p.told begun)

-- ---- what a record comes to

pub zone-met : (s : Settings) (old new : Player) (a : Stage) (number : ℕ) (code : List ℕ) (zone : TzText) (demand : InCode) (w : Option (List ℕ)) → demand ≡ in_code.Zone code zone
    → zones_of new.zones ≡ map.insert (zones_of old.zones) code zone → new.machine ≡ old.machine → StandsFor s old a → CameTo s (Meets s number (told_demand demand) a) w w new
zone-met s old new a number code zone demand w is zones machine stands =
    record {
      after = with_zone code zone a;
      text = [];
      written = appends-none w;
      does = subst (λ (d : InCode). Meets s number (told_demand d) a (with_zone code zone a) []) (sym is) (refl, refl);
      stands = record {
        settings = ap settings_of machine ∙ stands.settings;
        zones = zones ∙ ap (λ (z : Zones). map.insert z code zone) stands.zones;
        machine = rw machine stands.machine;
      };
    }

pub step-met : {F : Type 0} (r : Result (Unit {0}) F) (s : Settings) (new : Player) (a : Stage) (number : ℕ) (step : Step) (demand : InCode) (before after : Option (List ℕ)) → demand ≡ in_code.Play step
    → OnOk r (CameTo s (Steps s (act_of step) a) before after new) → OnOk r (CameTo s (Meets s number (told_demand demand) a) before after new)
step-met r s new a number step demand before after is came =
    subst (λ (d : InCode). OnOk r (CameTo s (Meets s number (told_demand d) a) before after new)) (sym is) came

pub step-begun : {F : Type 0} (r : Result (Unit {0}) F) (s : Settings) (a : Stage) (number : ℕ) (step : Step) (demand : InCode) (before after : Option (List ℕ)) → demand ≡ in_code.Play step
    → OnErr r (BeginsOne before after (λ text. (b : Stage) × Steps s (act_of step) a b text)) → OnErr r (BeginsOne before after (λ text. (b : Stage) × Meets s number (told_demand demand) a b text))
step-begun r s a number step demand before after is begun =
    subst (λ (d : InCode). OnErr r (BeginsOne before after (λ text. (b : Stage) × Meets s number (told_demand d) a b text))) (sym is) begun

-- a record that is refused
refusal : (s : Settings) (a : Stage) (number why : ℕ) (fault : RecordFault) (demand : InCode) → demand ≡ in_code.Refuse fault → why ≡ record_number fault
    → Meets s number (told_demand demand) a a (refused_line number why)
refusal s a number why fault demand is same =
    subst (λ (d : InCode). Meets s number (told_demand d) a a (refused_line number why)) (sym is) (refl, ap (refused_line number) same)

pub refusal-met : {F : Type 0} (r : Result (Unit {0}) F) (s : Settings) (player : Player) (a : Stage) (number why : ℕ) (fault : RecordFault) (demand : InCode) (before after : Option (List ℕ)) → demand ≡ in_code.Refuse fault
    → why ≡ record_number fault → StandsFor s player a → OnOk r (Appends before after (refused_line number why)) → OnOk r (CameTo s (Meets s number (told_demand demand) a) before after player)
refusal-met (Ok u) s player a number why fault demand before after is same stands written =
    record { after = a; text = refused_line number why; written = written; does = refusal s a number why fault demand is same; stands = stands }
refusal-met (Err x) s player a number why fault demand before after is same stands written = tt

pub refusal-begun : {F : Type 0} (r : Result (Unit {0}) F) (s : Settings) (a : Stage) (number why : ℕ) (fault : RecordFault) (demand : InCode) (before after : Option (List ℕ)) → demand ≡ in_code.Refuse fault
    → why ≡ record_number fault → OnErr r (AppendsBeginning before after (refused_line number why)) → OnErr r (BeginsOne before after (λ text. (b : Stage) × Meets s number (told_demand demand) a b text))
refusal-begun (Ok u) s a number why fault demand before after is same begun = tt
refusal-begun (Err x) s a number why fault demand before after is same begun = inr (refused_line number why, (a, refusal s a number why fault demand is same), begun)

-- what a record does is what it comes to
pub performed : (s : Settings) (number : ℕ) (row : Fields) (asked : StepRecord) (demand : Demand) (zones : Zones) (a b : Stage) (text : List ℕ) → demand ≡ demand_of s zones asked → zones ≡ a.zones → asked ≡ step_of row
    → Meets s number demand a b text → Performs s number row a b text
performed s number row asked demand zones a b text is same read met =
    subst (λ (d : Demand). Meets s number d a b text) (is ∙ ap (λ (z : Zones). demand_of s z asked) same ∙ ap (demand_of s a.zones) read) met

pub performed-begun : (s : Settings) (number : ℕ) (row : Fields) (asked : StepRecord) (demand : Demand) (zones : Zones) (a : Stage) (before after : Option (List ℕ)) → demand ≡ demand_of s zones asked → zones ≡ a.zones
    → asked ≡ step_of row → BeginsOne before after (λ text. (b : Stage) × Meets s number demand a b text) → BeginsOne before after (λ text. (b : Stage) × Performs s number row a b text)
performed-begun s number row asked demand zones a before after is same read begun =
    subst (λ (d : Demand). BeginsOne before after (λ text. (b : Stage) × Meets s number d a b text)) (is ∙ ap (λ (z : Zones). demand_of s z asked) same ∙ ap (demand_of s a.zones) read) begun
