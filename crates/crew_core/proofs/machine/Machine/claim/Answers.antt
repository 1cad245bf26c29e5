use Rattle.std.proofs.Common.{◌≡◌, ◌∙◌, ◌++◌, ◌∷◌, [], List, Some, None, length, sym, ap, subst}
use Rattle.crew_core.proofs.Stepped as by
use Rattle.crew_core.proofs.Stepped.{with_board}
use Rattle.crew_core.specs.Machines.{ShownMachine}
use Rattle.crew_core.specs.Replies.{HasStepped, IsStep}
use Rattle.crew_core.specs.contracts.machine.Machine.{the_view}
use Rattle.crew_core.specs.declared.reply.Reply.TheVariants as Told
use Rattle.std.specs.Prelude.{Option}
use Rattle.crew_board.specs.Boards.{IsBoardOf, ShownBoard}
use Rattle.crew_board.specs.Calls.{HasClaimed}
use Rattle.crew_board.specs.crew_job.Jobs.{Job}
use Rattle.crew_machine.specs.Crew.{CrewBoard}
use Rattle.crew_machine.specs.Steps as Steps
use Rattle.crew_core.proofs.machine.Machine.claim.Goals as goal

pub returns-in_default-clause-ok : goal.returns-in_default-clause-ok
returns-in_default-clause-ok c =
    let m : ShownMachine = the_view c.self.inside in
    let told : (b : CrewBoard) → IsBoardOf m.board b → HasClaimed m.board b None c.claim.new.self = subst (λ (o : Option Job). (b : CrewBoard) → IsBoardOf m.board b → HasClaimed m.board b o c.claim.new.self) c.in_default.is c.in_ok-job.ensures.ok in
    let same : c.claim.new.self ≡ m.board = (told c.self.invariant.0.board c.self.invariant.1.board).1 in
    let step : IsStep m Steps.Claim Told.NoneReady m = λ state is. by.none-claimed m state is (told state.board is.board).0 in
    let board : IsStep m Steps.Claim Told.NoneReady (with_board m c.claim.new.self) = subst (λ (b : ShownBoard). IsStep m Steps.Claim Told.NoneReady (with_board m b)) (sym same) step in
    let jobs : IsStep m Steps.Claim Told.NoneReady (record { log = m.log; board = c.claim.new.self; jobs = c.reserve.new.self.items; published = m.published }) = subst (λ (js : List Job). IsStep m Steps.Claim Told.NoneReady (record { log = m.log; board = c.claim.new.self; jobs = js; published = m.published })) (sym c.in_ok-reserve.ensures.items) board in
    subst (λ (z : ShownMachine). IsStep z Steps.Claim Told.NoneReady (record { log = m.log; board = c.claim.new.self; jobs = c.reserve.new.self.items; published = m.published })) c.self.view_is jobs

abbrev next : goal.After-push_reserved → ShownMachine
next c = record { log = (the_view c.self.inside).log; board = c.claim.new.self; jobs = c.push_reserved.new.self.items; published = (the_view c.self.inside).published }

stepped : (c : goal.After-push_reserved) → IsStep (the_view c.self.inside) Steps.Claim (Told.Claimed c.len-number.result c.node_of-node.result) (next c)
stepped c =
    let m : ShownMachine = the_view c.self.inside in
    let job = c.in-Some.job in
    let told : (b : CrewBoard) → IsBoardOf m.board b → HasClaimed m.board b (Some job) c.claim.new.self = subst (λ (o : Option Job). (b : CrewBoard) → IsBoardOf m.board b → HasClaimed m.board b o c.claim.new.self) c.in-Some.is c.in_ok-job.ensures.ok in
    let number : length m.jobs ≡ c.len-number.result = sym (c.len-number.ensures ∙ c.self.inside.jobs.ok.0) in
    let grown : m.jobs ++ job ∷ [] ≡ c.push_reserved.new.self.items = sym (c.push_reserved.ensures.items ∙ ap (λ (js : List Job). js ++ job ∷ []) c.in_ok-reserve.ensures.items) in
    λ state is. subst (λ (js : List Job). HasStepped m state Steps.Claim (Told.Claimed c.len-number.result c.node_of-node.result) (record { log = m.log; board = c.claim.new.self; jobs = js; published = m.published })) grown
    (subst (λ k. HasStepped m state Steps.Claim (Told.Claimed k c.node_of-node.result) (record { log = m.log; board = c.claim.new.self; jobs = m.jobs ++ job ∷ []; published = m.published })) number
    (by.claimed m state is job c.node_of-node.result c.claim.new.self c.claim.ensures.sealed c.node_of-node.ensures (told state.board is.board)))

pub invariant_of-self-2 : goal.invariant_of-self-2
invariant_of-self-2 c = by.kept (the_view c.self.inside) (next c) Steps.Claim (Told.Claimed c.len-number.result c.node_of-node.result) c.self.invariant (stepped c)

pub returns-clause-ok : goal.returns-clause-ok
returns-clause-ok c = subst (λ (z : ShownMachine). IsStep z Steps.Claim (Told.Claimed c.len-number.result c.node_of-node.result) (next c)) c.self.view_is (stepped c)
