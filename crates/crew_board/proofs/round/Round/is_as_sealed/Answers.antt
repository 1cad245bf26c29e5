use Rattle.std.proofs.Common.{◌≡◌, Some, sym, subst}
use Rattle.std.specs.Prelude.{◌↔◌, IsTrue, slice_get}
use Rattle.crew_board.proofs.Inside.{marked_of}
use Rattle.crew_board.proofs.Turned.{kept-told}
use Rattle.crew_board.specs.Machinery.Held.{Marked}
use Rattle.crew_board.specs.Machinery.Turns.{IsOwnPlace}
use Rattle.crew_job.specs.Grounds.{Ground, IsGround, nodes_in}
use Rattle.crew_job.specs.Jobs.{IsKeptAt, IsPlaced, Job}
use Rattle.crew_job.specs.Shown.{IsAsSealed}
use Rattle.crew_machine.specs.Crew.{DutyNode}
use Rattle.crew_board.proofs.round.Round.is_as_sealed.Goals as goal

pub returns : goal.returns
returns c =
    let r = marked_of c.self.inside in
    let job = c.args.done.now in
    let place = c.args.place in
    let front = c.front-front.result in
    let own : IsOwnPlace r job place = subst (λ (z : Marked). IsOwnPlace z job place) (sym c.self.view_is) (record { before = c.requires.before; own = c.requires.own }) in
    let ground = subst (λ (j : Job). IsGround j.ground) c.job.ensures c.ground-ground.ensures.ground in
    let placed = subst IsPlaced c.job.ensures c.ground-ground.ensures.placed in
    let told = subst (λ (g : Ground). IsTrue c.has_kept.result ↔ IsKeptAt g place front) c.deref.ensures c.has_kept.ensures in
    let here : (n : DutyNode) → slice_get (nodes_in r.ground.plan.net) place ≡ Some n → IsTrue c.has_kept.result ↔ IsAsSealed r.ground n = λ n at.
    (let k = kept-told r c.self.invariant.marked job ground placed place front own c.front-front.ensures.local n at in (λ e. k.0 (told.0 e), λ a. told.1 (k.1 a))) in
    subst (λ (z : Marked). (n : DutyNode) → slice_get (nodes_in z.ground.plan.net) place ≡ Some n → IsTrue c.has_kept.result ↔ IsAsSealed z.ground n) c.self.view_is here
