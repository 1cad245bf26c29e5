use Rattle.std.proofs.Common.{◌≡◌, ◌∙◌, Some, sym, subst}
use Rattle.crew_board.proofs.Likes.{as-sealed-alike, like-round, one-round-back}
use Rattle.crew_board.proofs.Works.{some-work-of}
use Rattle.crew_job.specs.Grounds.{IsGround}
use Rattle.crew_job.specs.Jobs.{IsPlaced, Job, job_node}
use Rattle.crew_board.proofs.round.Round.is_kept.Goals as goal

pub returns-then-is_same_round : goal.returns-then-is_same_round
returns-then-is_same_round c = λ n at.
    let job = c.args.done.now in
    let g = c.args.self.now.ground in
    let ground = subst (λ (j : Job). IsGround j.ground) c.job.ensures c.ground-ground.ensures.ground in
    let placed = subst IsPlaced c.job.ensures c.ground-ground.ensures.placed in
    let w = some-work-of job ground placed in
    let named : job_node job ≡ Some n = w.1.node ∙ (sym (c.requires.own.own w.0 w.1).node ∙ at) in
    let same = like-round c.args.like job.ground g (c.is_same_round.ensures.0 c.if-is_same_round.true) c.requires.like in
    let told = c.is_kept.ensures n named in (
      λ t. as-sealed-alike job.ground g same n (told.0 t),
      λ a. told.1 (as-sealed-alike g job.ground (one-round-back job.ground g same) n a),
    )
