use Rattle.std.proofs.Common.{◌≡◌, ◌∙◌, ◌++◌, ◌∷◌, [], List, map, sym, ap, subst}
use Rattle.std.specs.Arc.{arc_value}
use Rattle.crew_core.proofs.Stepped as by
use Rattle.crew_core.specs.Machines.{IsMachineOf}
use Rattle.crew_flights.specs.declared.entries.Entry.{Entry}
use Rattle.crew_board.specs.crew_job.Jobs.{Job}
use Rattle.crew_core.specs.contracts.machine.Machine.{the_view}
use Rattle.crew_machine.specs.Crew.{crew}
use Rattle.crew_machine.specs.Steps as Steps
use Rattle.crew_board.specs.crew_version.Versions.{Snapshot}
use Rattle.crew_board.specs.crew_version.Versions as Versions
use Rattle.crew_core.proofs.machine.Machine.new.Goals as goal

starts : (c : goal.After-new-3) → IsMachineOf (the_view (record { log = c.new.result; board = c.new-2.result; jobs = c.new-3.result; published = c.push.new.self })) (Steps.start (crew c.args.settings.now))
starts c =
    let s = c.args.settings.now in
    let first : arc_value c.in_ok-opening.opening ≡ Versions.opening s = c.in_ok-opening.ensures in
    let items : c.push.new.self.items ≡ c.in_ok-try_clone.field-0 ∷ [] = c.in_ok-push.ensures.items ∙ ap (λ vs. vs ++ c.in_ok-try_clone.field-0 ∷ []) c.in_ok-published.ensures.items in
    let versions : map arc_value c.push.new.self.items ≡ Versions.opening s ∷ [] = ap (map arc_value) items ∙ ap (λ (v : Snapshot). v ∷ []) (c.in_ok-try_clone.ensures ∙ first) in
    let is = by.starts s c.requires c.new-2.result (c.new-2.ensures.sealed ∙ first) c.new-2.ensures.round (map arc_value c.push.new.self.items) versions in
    subst (λ (es : List Entry). IsMachineOf (record { log = es; board = c.new-2.result; jobs = c.new-3.result.items; published = map arc_value c.push.new.self.items }) (Steps.start (crew s))) (sym c.new.ensures.items)
    (subst (λ (js : List Job). IsMachineOf (record { log = []; board = c.new-2.result; jobs = js; published = map arc_value c.push.new.self.items }) (Steps.start (crew s))) (sym c.new-3.ensures.items) is)

pub invariant_of-result : goal.invariant_of-result
invariant_of-result c = (Steps.start (crew c.args.settings.now), starts c)

pub returns-clause-starts : goal.returns-clause-starts
returns-clause-starts c = starts c
