use Rattle.std.proofs.Common.{◌∙◌, ap, subst}
use Rattle.crew_board.specs.Machinery.Held.{Marked}
use Rattle.crew_board.specs.Machinery.Likes.{AreLike}
use Rattle.crew_job.specs.Grounds.{Ground}
use Rattle.crew_board.proofs.round.Round.give_back.Goals as goal

pub take_back-requires : goal.take_back-requires
take_back-requires c =
    let like = c.likeness_of-like.result in
    let own = c.deref.ensures ∙ ap (λ (z : Marked). z.ground) c.self.view_is in
    subst (λ (g : Ground). AreLike like c.args.job.now.ground g) own (subst (λ (g : Ground). AreLike like g c.deref.result.now) c.ground.ensures.value c.likeness_of-like.ensures)
