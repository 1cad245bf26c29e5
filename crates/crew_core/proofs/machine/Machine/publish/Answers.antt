use Rattle.std.proofs.Common.{◌≡◌, ◌∙◌, ◌++◌, ◌∷◌, [], List, Some, map, sym, ap, subst}
use Rattle.std.specs.Arc.{arc_value}
use Rattle.crew_core.proofs.Kept.{map-push}
use Rattle.crew_core.proofs.Stepped as by
use Rattle.crew_core.proofs.Stepped.{with_board}
use Rattle.crew_core.proofs.Wanting.{err-told, may-publish}
use Rattle.crew_core.specs.Machines.{IsMachineOf, ShownMachine}
use Rattle.crew_core.specs.Memory.{MayPublish}
use Rattle.crew_core.specs.Replies.{HasStepped, IsStep}
use Rattle.crew_core.specs.contracts.machine.Machine.{the_view}
use Rattle.crew_core.specs.declared.reply.Reply.TheVariants as Told
use Rattle.crew_machine.specs.Steps as Steps
use Rattle.crew_board.specs.crew_version.Versions.{Snapshot}
use Rattle.crew_core.proofs.machine.Machine.publish.Goals as goal

pub returns-then-is_published-clause-ok : goal.returns-then-is_published-clause-ok
returns-then-is_published-clause-ok c = λ state is. by.nothing-new c.args.self.now state is ((c.is_published.ensures state is).0 c.if-is_published.true)

pub returns-in_err-reserve-clause-memory : goal.returns-in_err-reserve-clause-memory
returns-in_err-reserve-clause-memory c =
    let m = c.args.self.now in
    let state = c.self.invariant.0 in
    let is = subst (λ (z : ShownMachine). IsMachineOf z state) c.self.view_is c.self.invariant.1 in
    err-told (MayPublish m) c.from_residual.result (may-publish m state is c.is_published.result (c.is_published.ensures state is) c.if-is_published.false)

pub returns-in_err-version-clause-memory : goal.returns-in_err-version-clause-memory
returns-in_err-version-clause-memory c =
    let m = c.args.self.now in
    let state = c.self.invariant.0 in
    let is = subst (λ (z : ShownMachine). IsMachineOf z state) c.self.view_is c.self.invariant.1 in
    err-told (MayPublish m) c.from_residual-in_err-version.result (may-publish m state is c.is_published.result (c.is_published.ensures state is) c.if-is_published.false)

pub returns-in_err-shared-clause-memory : goal.returns-in_err-shared-clause-memory
returns-in_err-shared-clause-memory c =
    let m = c.args.self.now in
    let state = c.self.invariant.0 in
    let is = subst (λ (z : ShownMachine). IsMachineOf z state) c.self.view_is c.self.invariant.1 in
    err-told (MayPublish m) c.from_residual-in_err-shared.result (may-publish m state is c.is_published.result (c.is_published.ensures state is) c.if-is_published.false)

abbrev next : goal.After-push_reserved → ShownMachine
next c = record { log = (the_view c.self.inside).log; board = (the_view c.self.inside).board; jobs = (the_view c.self.inside).jobs; published = map arc_value c.push_reserved.new.self.items }

stepped : (c : goal.After-push_reserved) → IsStep (the_view c.self.inside) Steps.Publish (Told.Published c.in_ok-version.version) (next c)
stepped c =
    let m : ShownMachine = the_view c.self.inside in
    let value : arc_value c.in_ok-version.version ≡ m.board.sealed = c.in_ok-version.ensures ∙ c.sealed.ensures.sealed in
    let items : c.push_reserved.new.self.items ≡ c.self.inside.published.items ++ c.in_ok-shared.shared ∷ [] = c.push_reserved.ensures.items ∙ ap (λ vs. vs ++ c.in_ok-shared.shared ∷ []) c.in_ok-reserve.ensures.items in
    let grown : m.published ++ arc_value c.in_ok-version.version ∷ [] ≡ map arc_value c.push_reserved.new.self.items =
    sym (ap (map arc_value) items ∙ (map-push arc_value c.self.inside.published.items c.in_ok-shared.shared ∙ ap (λ (v : Snapshot). m.published ++ v ∷ []) c.in_ok-shared.ensures)) in
    λ state is.
    (
    let is-new : Steps.last_of state.published ≡ Some state.board.sealed → ⊥ = λ last. by.no-more c.is_published.result ((c.is_published.ensures state (subst (λ (z : ShownMachine). IsMachineOf z state) c.self.view_is is)).1 last) c.if-is_published.false in
    subst (λ (vs : List Snapshot). HasStepped m state Steps.Publish (Told.Published c.in_ok-version.version) (record { log = m.log; board = m.board; jobs = m.jobs; published = vs })) grown
    (by.published m state is is-new (arc_value c.in_ok-version.version) (Told.Published c.in_ok-version.version) (λ v e. e) value))

pub invariant_of-self-2 : goal.invariant_of-self-2
invariant_of-self-2 c = by.kept (the_view c.self.inside) (next c) Steps.Publish (Told.Published c.in_ok-version.version) c.self.invariant (stepped c)

pub returns-clause-ok : goal.returns-clause-ok
returns-clause-ok c = subst (λ (z : ShownMachine). IsStep z Steps.Publish (Told.Published c.in_ok-version.version) (next c)) c.self.view_is (stepped c)
