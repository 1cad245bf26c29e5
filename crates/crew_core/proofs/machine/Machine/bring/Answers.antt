use Rattle.std.proofs.Common.{◌≡◌, List, Some, length, subst}
use Rattle.crew_core.proofs.Stepped as by
use Rattle.crew_core.proofs.Stepped.{with_board}
use Rattle.crew_core.specs.Machines.{ShownMachine}
use Rattle.crew_core.specs.Replies.{IsStep}
use Rattle.crew_core.specs.contracts.machine.Machine.{the_view}
use Rattle.crew_core.specs.declared.reply.Reply.TheVariants as Told
use Rattle.std.specs.List.{slice_get}
use Rattle.std.specs.Prelude.{◌≤◌}
use Rattle.crew_board.specs.Boards.{IsBoardOf}
use Rattle.crew_board.specs.Calls.{HasBrought}
use Rattle.crew_board.specs.crew_job.Jobs.{IsJobOf, Job}
use Rattle.crew_machine.specs.Crew.{CrewBoard, DutyWork, Entries, IsLocalOf}
use Rattle.crew_machine.specs.Steps as Steps
use Rattle.crew_core.proofs.machine.Machine.bring.Goals as goal

pub returns-in_default-clause-ok : goal.returns-in_default-clause-ok
returns-in_default-clause-ok c =
    let m : ShownMachine = the_view c.self.inside in
    let none : length m.jobs ≤ c.args.job = subst (λ (js : List Job). length js ≤ c.args.job) c.deref.ensures.value (by.none-there c.deref.result.now c.args.job c.get.result c.in_default.is c.get.ensures.lookup) in
    let step : IsStep m (Steps.Bring c.args.job) (Told.NotBrought c.args.job) m = λ state is. by.not-brought m state is c.args.job none in
    subst (λ (z : ShownMachine). IsStep z (Steps.Bring c.args.job) (Told.NotBrought c.args.job) z) c.self.view_is step

stepped : (c : goal.After-bring-brought) → IsStep (the_view c.self.inside) (Steps.Bring c.args.job) (Told.Brought c.args.job c.bring-brought.result) (with_board (the_view c.self.inside) c.bring-brought.new.self)
stepped c =
    let m : ShownMachine = the_view c.self.inside in
    let found = c.in-Some.found.now in
    let at : slice_get m.jobs c.args.job ≡ Some found = subst (λ (js : List Job). slice_get js c.args.job ≡ Some found) c.deref.ensures.value (by.there c.deref.result.now c.args.job c.in-Some.found c.in-Some.ensures.lookup) in
    let same : c.in_ok-done.done ≡ found = c.in_ok-done.ensures.job in
    let front = c.in_ok-done.ensures.front in
    let leaves : (work : DutyWork) → IsJobOf found work → IsLocalOf work front.0 = subst (λ (j : Job). (work : DutyWork) → IsJobOf j work → IsLocalOf work front.0) same front.1 in
    let board = c.bring-brought.new.self in
    let brought : (b : CrewBoard) (work : DutyWork) (leaves : Entries) → IsBoardOf m.board b → IsJobOf found work → IsLocalOf work leaves → HasBrought m.board b work leaves c.bring-brought.result board =
    subst (λ (j : Job). (b : CrewBoard) (work : DutyWork) (leaves : Entries) → IsBoardOf m.board b → IsJobOf j work → IsLocalOf work leaves → HasBrought m.board b work leaves c.bring-brought.result board) same c.bring-brought.ensures.brought in
    λ state is. by.brought m state is c.args.job found at front.0 leaves c.bring-brought.result board c.bring-brought.ensures.sealed brought

pub invariant_of-self : goal.invariant_of-self
invariant_of-self c = by.kept (the_view c.self.inside) (with_board (the_view c.self.inside) c.bring-brought.new.self) (Steps.Bring c.args.job) (Told.Brought c.args.job c.bring-brought.result) c.self.invariant (stepped c)

pub returns-clause-ok : goal.returns-clause-ok
returns-clause-ok c = subst (λ (z : ShownMachine). IsStep z (Steps.Bring c.args.job) (Told.Brought c.args.job c.bring-brought.result) (with_board (the_view c.self.inside) c.bring-brought.new.self)) c.self.view_is (stepped c)
