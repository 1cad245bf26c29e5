use Rattle.std.proofs.Common.{subst}
use Rattle.crew_core.proofs.Stepped as by
use Rattle.crew_core.proofs.Stepped.{with_board}
use Rattle.crew_core.specs.Machines.{ShownMachine}
use Rattle.crew_core.specs.Replies.{IsStep}
use Rattle.crew_core.specs.contracts.machine.Machine.{the_view}
use Rattle.crew_core.specs.declared.reply.Reply.TheVariants as Told
use Rattle.crew_machine.specs.Steps as Steps
use Rattle.crew_core.proofs.machine.Machine.abandon.Goals as goal

stepped : (c : goal.After-abandon) → IsStep (the_view c.self.inside) Steps.Abandon (Told.Abandoned c.abandon.result) (with_board (the_view c.self.inside) c.abandon.new.self)
stepped c = λ state is. by.abandoned (the_view c.self.inside) state is c.abandon.result c.abandon.new.self c.abandon.ensures.sealed (c.abandon.ensures.abandoned state.board is.board)

pub invariant_of-self : goal.invariant_of-self
invariant_of-self c = by.kept (the_view c.self.inside) (with_board (the_view c.self.inside) c.abandon.new.self) Steps.Abandon (Told.Abandoned c.abandon.result) c.self.invariant (stepped c)

pub returns : goal.returns
returns c = subst (λ (z : ShownMachine). IsStep z Steps.Abandon (Told.Abandoned c.abandon.result) (with_board (the_view c.self.inside) c.abandon.new.self)) c.self.view_is (stepped c)
