use Rattle.std.proofs.Common.{◌≡◌, ◌∙◌, Some, IfOk, OnErr, length, sym, ap, subst}
use Rattle.std.specs.Arc.{arc_value}
use Rattle.crew_core.proofs.Stepped as by
use Rattle.crew_core.proofs.Stepped.{with_board}
use Rattle.crew_core.proofs.Wanting.{err-to, may-close}
use Rattle.crew_core.specs.Machinery.Refused.{seal_reply}
use Rattle.crew_core.specs.Memory.{MayClose}
use Rattle.crew_board.specs.Calls.{IsSealFault}
use Rattle.crew_board.specs.declared.fault.SealFault.TheVariants as Seal
use Rattle.crew_core.specs.Machines.{ShownMachine}
use Rattle.crew_core.specs.Replies.{IsStep}
use Rattle.crew_core.specs.contracts.machine.Machine.{the_view}
use Rattle.crew_core.specs.declared.reply.Reply.TheVariants as Told
use Rattle.crew_board.specs.Boards.{ShownBoard}
use Rattle.crew_machine.specs.Steps as Steps
use Rattle.crew_board.specs.crew_version.Versions.{Snapshot}
use Rattle.crew_core.proofs.machine.Machine.seal.Goals as goal

pub returns-in-Err-clause-ok : goal.returns-in-Err-clause-ok
returns-in-Err-clause-ok c =
    let m : ShownMachine = the_view c.self.inside in
    by.ok-of (λ reply. IsStep c.args.self.now Steps.Seal reply (with_board m c.seal.new.self)) c.not_sealed.result
    (λ reply e.
    (
    let told : seal_reply c.in-Err.fault ≡ Some reply = subst (λ r. IfOk r (λ reply. seal_reply c.in-Err.fault ≡ Some reply)) e c.not_sealed.ensures.told in
    let step : IsStep m Steps.Seal reply m = λ state is. by.not-sealed m state is c.in-Err.fault reply told (c.in-Err.ensures.fault state.board is.board) in
    subst (λ (z : ShownMachine). IsStep z Steps.Seal reply (with_board m c.seal.new.self)) c.self.view_is (subst (λ (b : ShownBoard). IsStep m Steps.Seal reply (with_board m b)) (sym c.in-Err.ensures.err) step)))

pub returns-in-Err-clause-memory : goal.returns-in-Err-clause-memory
returns-in-Err-clause-memory c =
    let m : ShownMachine = the_view c.self.inside in
    let h = c.self.invariant in
    subst (λ (z : ShownMachine). OnErr c.not_sealed.result (MayClose z.board)) c.self.view_is
    (err-to (c.in-Err.fault ≡ Seal.Memory) (MayClose m.board) c.not_sealed.result (λ wants. may-close m h.0 h.1 (subst (IsSealFault m.board h.0.board) wants (c.in-Err.ensures.fault h.0.board h.1.board))) c.not_sealed.ensures.memory)

stepped : (c : goal.In-Ok) → IsStep (the_view c.self.inside) Steps.Seal (Told.Sealed c.count-settled.result c.in-Ok.version) (with_board (the_view c.self.inside) c.seal.new.self)
stepped c =
    let m : ShownMachine = the_view c.self.inside in
    let value : c.deref.result.now ≡ c.self.inside.board.sealed = c.deref.ensures ∙ c.sealed.ensures.sealed in
    let settled : c.count-settled.result ≡ length m.board.sealed.entries = c.count-settled.ensures ∙ ap (λ (v : Snapshot). length v.entries) value in
    λ state is. by.sealed m state is (arc_value c.in-Ok.version) (Told.Sealed c.count-settled.result c.in-Ok.version) (λ v e. (settled ∙ by.entries-long m state is, e)) c.seal.new.self c.in-Ok.ensures.sealed (c.in-Ok.ensures.ok state.board is.board)

pub invariant_of-self-2 : goal.invariant_of-self-2
invariant_of-self-2 c = by.kept (the_view c.self.inside) (with_board (the_view c.self.inside) c.seal.new.self) Steps.Seal (Told.Sealed c.count-settled.result c.in-Ok.version) c.self.invariant (stepped c)

pub returns-clause-ok : goal.returns-clause-ok
returns-clause-ok c = subst (λ (z : ShownMachine). IsStep z Steps.Seal (Told.Sealed c.count-settled.result c.in-Ok.version) (with_board (the_view c.self.inside) c.seal.new.self)) c.self.view_is (stepped c)
