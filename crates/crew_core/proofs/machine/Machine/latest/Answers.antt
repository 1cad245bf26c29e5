use Rattle.std.proofs.Common.{◌≡◌, ◌∙◌, List, Some, None, map, ap, subst}
use Rattle.std.specs.Arc.{arc_value}
use Rattle.std.specs.Option.{option_map}
use Rattle.crew_core.proofs.Stepped as by
use Rattle.crew_core.proofs.Stepped.{with_board}
use Rattle.crew_core.specs.Machines.{ShownMachine}
use Rattle.crew_core.specs.contracts.machine.Machine.{the_view}
use Rattle.crew_machine.specs.Steps as Steps
use Rattle.crew_board.specs.crew_version.Versions.{Snapshot}
use Rattle.crew_core.proofs.machine.Machine.latest.Goals as goal

pub unreachable-requires : goal.unreachable-requires
unreachable-requires c =
    let m : ShownMachine = the_view c.self.inside in
    let values : List Snapshot = map arc_value c.self.inside.published.items in
    let last : Steps.last_of c.self.inside.published.items ≡ None = by.none-last c.deref.result.now c.self.inside.published.items c.deref.ensures.value c.last.result c.last.ensures.value c.in-None.is in
    by.some-last m c.self.invariant.0 c.self.invariant.1 (by.last-map arc_value c.self.inside.published.items ∙ ap (option_map arc_value) last)

pub returns : goal.returns
returns c =
    let m : ShownMachine = the_view c.self.inside in
    let last : Steps.last_of c.self.inside.published.items ≡ Some c.in-Some.version.now = by.some-item c.deref.result.now c.self.inside.published.items c.deref.ensures.value c.last.result c.last.ensures.value c.in-Some.version c.in-Some.is in
    subst (λ (z : ShownMachine). Steps.last_of z.published ≡ Some (arc_value c.in-Some.version.now)) c.self.view_is (by.last-map arc_value c.self.inside.published.items ∙ ap (option_map arc_value) last)
