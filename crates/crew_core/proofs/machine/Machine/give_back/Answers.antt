use Rattle.std.proofs.Common.{◌≡◌, List, Some, length, subst}
use Rattle.crew_core.proofs.Stepped as by
use Rattle.crew_core.proofs.Stepped.{with_board}
use Rattle.crew_core.specs.Machines.{ShownMachine}
use Rattle.crew_core.specs.Replies.{IsStep}
use Rattle.crew_core.specs.contracts.machine.Machine.{the_view}
use Rattle.crew_core.specs.declared.reply.Reply.TheVariants as Told
use Rattle.std.specs.List.{slice_get}
use Rattle.std.specs.Prelude.{◌≤◌}
use Rattle.crew_board.specs.crew_job.Jobs.{Job}
use Rattle.crew_machine.specs.Steps as Steps
use Rattle.crew_core.proofs.machine.Machine.give_back.Goals as goal

pub returns-in_default : goal.returns-in_default
returns-in_default c =
    let m : ShownMachine = the_view c.self.inside in
    let none : length m.jobs ≤ c.args.job = subst (λ (js : List Job). length js ≤ c.args.job) c.deref.ensures.value (by.none-there c.deref.result.now c.args.job c.get.result c.in_default.is c.get.ensures.lookup) in
    let step : IsStep m (Steps.Give_back c.args.job) (Told.NotGivenBack c.args.job) m = λ state is. by.not-given-back m state is c.args.job none in
    subst (λ (z : ShownMachine). IsStep z (Steps.Give_back c.args.job) (Told.NotGivenBack c.args.job) z) c.self.view_is step

stepped : (c : goal.After-give_back-freed) → IsStep (the_view c.self.inside) (Steps.Give_back c.args.job) (Told.GivenBack c.args.job c.give_back-freed.result) (with_board (the_view c.self.inside) c.give_back-freed.new.self)
stepped c =
    let m : ShownMachine = the_view c.self.inside in
    let found = c.in-Some.found.now in
    let at : slice_get m.jobs c.args.job ≡ Some found = subst (λ (js : List Job). slice_get js c.args.job ≡ Some found) c.deref.ensures.value (by.there c.deref.result.now c.args.job c.in-Some.found c.in-Some.ensures.lookup) in
    λ state is. by.given-back m state is c.args.job found at c.give_back-freed.result c.give_back-freed.new.self c.give_back-freed.ensures.sealed c.give_back-freed.ensures.given_back

pub invariant_of-self : goal.invariant_of-self
invariant_of-self c = by.kept (the_view c.self.inside) (with_board (the_view c.self.inside) c.give_back-freed.new.self) (Steps.Give_back c.args.job) (Told.GivenBack c.args.job c.give_back-freed.result) c.self.invariant (stepped c)

pub returns : goal.returns
returns c = subst (λ (z : ShownMachine). IsStep z (Steps.Give_back c.args.job) (Told.GivenBack c.args.job c.give_back-freed.result) (with_board (the_view c.self.inside) c.give_back-freed.new.self)) c.self.view_is (stepped c)
