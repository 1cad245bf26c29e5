use Rattle.std.proofs.Common.{◌≡◌, List, Some, IfOk, OnErr, sym, subst}
use Rattle.crew_core.proofs.Stepped as by
use Rattle.crew_core.proofs.Stepped.{with_board}
use Rattle.crew_core.proofs.Wanting.{err-to, may-open}
use Rattle.crew_core.specs.Machinery.Refused.{begin_reply}
use Rattle.crew_core.specs.Memory.{MayOpen}
use Rattle.crew_board.specs.declared.fault.BeginFault.TheVariants.{Ground}
use Rattle.crew_board.specs.crew_job.declared.fault.GroundFault.TheVariants.{Memory}
use Rattle.crew_core.specs.Machines.{ShownMachine}
use Rattle.crew_core.specs.Replies.{IsStep}
use Rattle.crew_core.specs.contracts.machine.Machine.{the_view}
use Rattle.crew_core.specs.declared.reply.Reply.TheVariants as Told
use Rattle.crew_board.specs.Boards.{ShownBoard}
use Rattle.crew_board.specs.Calls.{HasBegun, IsBeginFault}
use Rattle.crew_core.proofs.machine.Machine.begin.Given.{Over}
use Rattle.crew_flights.specs.declared.entries.Entry.{Entry}
use Rattle.crew_machine.specs.Steps as Steps
use Rattle.crew_core.proofs.machine.Machine.begin.Goals as goal

pub not_begun-requires : goal.not_begun-requires
not_begun-requires g c =
    let h = c.self.invariant in
    by.not-shorter (the_view c.self.inside) h.0 h.1 c.in-Err.fault (subst (λ (es : List Entry). IsBeginFault c.self.inside.board h.0.board es c.in-Err.fault) c.deref.ensures.value (c.in-Err.ensures.fault h.0.board h.1.board))

pub returns-in-Err-clause-ok : goal.returns-in-Err-clause-ok
returns-in-Err-clause-ok g c =
    let m : ShownMachine = the_view c.self.inside in
    by.ok-of (λ reply. IsStep c.args.self.now Steps.Begin reply (with_board m c.begin.new.self)) c.not_begun.result
    (λ reply e.
    (
    let told : begin_reply c.in-Err.fault ≡ Some reply = subst (λ r. IfOk r (λ reply. begin_reply c.in-Err.fault ≡ Some reply)) e c.not_begun.ensures.told in
    let step : IsStep m Steps.Begin reply m = λ state is. by.not-begun m state is c.in-Err.fault reply told (subst (λ (es : List Entry). IsBeginFault c.self.inside.board state.board es c.in-Err.fault) c.deref.ensures.value (c.in-Err.ensures.fault state.board is.board)) in
    subst (λ (z : ShownMachine). IsStep z Steps.Begin reply (with_board m c.begin.new.self)) c.self.view_is (subst (λ (b : ShownBoard). IsStep m Steps.Begin reply (with_board m b)) (sym c.in-Err.ensures.err) step)))

pub returns-in-Err-clause-memory : goal.returns-in-Err-clause-memory
returns-in-Err-clause-memory g c =
    let m : ShownMachine = the_view c.self.inside in
    let h = c.self.invariant in
    let fault : IsBeginFault m.board h.0.board m.log c.in-Err.fault = subst (λ (es : List Entry). IsBeginFault m.board h.0.board es c.in-Err.fault) c.deref.ensures.value (c.in-Err.ensures.fault h.0.board h.1.board) in
    subst (λ (z : ShownMachine). OnErr c.not_begun.result (MayOpen z.board)) c.self.view_is
    (err-to (c.in-Err.fault ≡ Ground Memory) (MayOpen m.board) c.not_begun.result (λ wants. may-open m h.0 h.1 (subst (IsBeginFault m.board h.0.board m.log) wants fault)) c.not_begun.ensures.memory)

stepped : (g : Over) (c : goal.In_default g) → IsStep (the_view c.self.inside) Steps.Begin Told.Begun (with_board (the_view c.self.inside) c.begin.new.self)
stepped g c = λ state is. by.begun (the_view c.self.inside) state is c.begin.new.self c.begin.ensures.sealed (subst (λ (es : List Entry). HasBegun c.self.inside.board state.board es c.begin.new.self) c.deref.ensures.value (c.in_default.ensures.ok state.board is.board))

pub invariant_of-self-2 : goal.invariant_of-self-2
invariant_of-self-2 g c = by.kept (the_view c.self.inside) (with_board (the_view c.self.inside) c.begin.new.self) Steps.Begin Told.Begun c.self.invariant (stepped g c)

pub returns-clause-ok : goal.returns-clause-ok
returns-clause-ok g c = subst (λ (z : ShownMachine). IsStep z Steps.Begin Told.Begun (with_board (the_view c.self.inside) c.begin.new.self)) c.self.view_is (stepped g c)
