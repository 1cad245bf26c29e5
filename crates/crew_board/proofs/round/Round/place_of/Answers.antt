use Rattle.std.proofs.Common.{◌≡◌, ℕ, MatchOption, subst}
use Rattle.std.specs.Prelude.{slice_get}
use Rattle.crew_board.proofs.Inside.{marked_of}
use Rattle.crew_board.proofs.Likes.{like-plan, told-as}
use Rattle.crew_board.proofs.Turned.{nowhere-none}
use Rattle.crew_board.specs.Machinery.Held.{Marked}
use Rattle.crew_board.specs.Machinery.Turns.{IsNowhere}
use Rattle.crew_job.specs.Grounds.{Ground, nodes_in}
use Rattle.crew_job.specs.Jobs.{job_node}
use Rattle.crew_job.specs.crew_plan.Plans.{Plan}
use Rattle.crew_board.proofs.round.Round.place_of.Goals as goal

pub returns-then-is_same_round : goal.returns-then-is_same_round
returns-then-is_same_round c =
    let job = c.args.job.now in
    let plan = like-plan c.args.like job.ground c.args.self.now.ground (c.is_same_round.ensures.0 c.if-is_same_round.true) c.requires in
    subst (λ (p : Plan). slice_get (nodes_in p.net) c.place.result ≡ job_node job) plan c.place.ensures.place

pub returns-else-is_same_round : goal.returns-else-is_same_round
returns-else-is_same_round c =
    let r = marked_of c.self.inside in
    let job = c.args.job.now in
    let found = c.place_of.result in
    let told = subst (λ (g : Ground). MatchOption found ((place : ℕ) → slice_get (nodes_in g.plan.net) place ≡ job_node job → ⊥) (λ place. slice_get (nodes_in g.plan.net) place ≡ job_node job)) c.deref.ensures c.place_of.ensures in
    let here = told-as found _ (IsNowhere r job) _ (λ place. slice_get (nodes_in r.ground.plan.net) place ≡ job_node job) (nowhere-none r c.self.invariant.marked job c.ground-ground.ensures.ground c.ground-ground.ensures.placed) (λ place e. e) told in
    subst (λ (z : Marked). MatchOption found (IsNowhere z job) (λ place. slice_get (nodes_in z.ground.plan.net) place ≡ job_node job)) c.self.view_is here
