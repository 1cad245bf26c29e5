use Rattle.std.proofs.Common.{◌≡◌, ◌∙◌, ◌++◌, ◌∷◌, [], List, length, sym, ap, subst}
use Rattle.crew_core.proofs.Stepped as by
use Rattle.crew_core.proofs.Stepped.{with_board}
use Rattle.crew_core.specs.Machines.{ShownMachine}
use Rattle.crew_core.specs.Replies.{HasStepped, IsStep}
use Rattle.crew_core.specs.contracts.machine.Machine.{the_view}
use Rattle.crew_core.specs.declared.reply.Reply.TheVariants as Told
use Rattle.crew_flights.specs.declared.entries.Entry.{Entry}
use Rattle.crew_machine.specs.Steps as Steps
use Rattle.crew_core.proofs.machine.Machine.push.Goals as goal

grown : (c : goal.After-push_reserved) → c.push_reserved.new.self.items ≡ c.self.inside.log.items ++ c.args.entry ∷ []
grown c = c.push_reserved.ensures.items ∙ ap (λ (es : List Entry). es ++ c.args.entry ∷ []) c.in_ok-reserve.ensures.items

stepped : (c : goal.After-push_reserved) → IsStep (the_view c.self.inside) (Steps.Push c.args.entry) (Told.Pushed c.len-place.result) (record { log = c.push_reserved.new.self.items; board = c.self.inside.board; jobs = c.self.inside.jobs.items; published = (the_view c.self.inside).published })
stepped c =
    let m : ShownMachine = the_view c.self.inside in
    let place : length m.log ≡ c.len-place.result = sym (c.len-place.ensures ∙ c.self.inside.log.ok.0) in
    λ state is. subst (λ (es : List Entry). HasStepped m state (Steps.Push c.args.entry) (Told.Pushed c.len-place.result) (record { log = es; board = m.board; jobs = m.jobs; published = m.published })) (sym (grown c))
    (subst (λ k. HasStepped m state (Steps.Push c.args.entry) (Told.Pushed k) (record { log = m.log ++ c.args.entry ∷ []; board = m.board; jobs = m.jobs; published = m.published })) place (by.pushed m state is c.args.entry))

pub invariant_of-self-2 : goal.invariant_of-self-2
invariant_of-self-2 c = by.kept (the_view c.self.inside) (record { log = c.push_reserved.new.self.items; board = c.self.inside.board; jobs = c.self.inside.jobs.items; published = (the_view c.self.inside).published }) (Steps.Push c.args.entry) (Told.Pushed c.len-place.result) c.self.invariant (stepped c)

pub returns-clause-ok : goal.returns-clause-ok
returns-clause-ok c = subst (λ (z : ShownMachine). IsStep z (Steps.Push c.args.entry) (Told.Pushed c.len-place.result) (record { log = c.push_reserved.new.self.items; board = c.self.inside.board; jobs = c.self.inside.jobs.items; published = (the_view c.self.inside).published })) c.self.view_is (stepped c)
