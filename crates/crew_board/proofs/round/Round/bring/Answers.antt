use Rattle.std.proofs.Common.{◌∙◌, ap, subst}
use Rattle.crew_board.specs.Machinery.Held.{Marked}
use Rattle.crew_board.specs.Machinery.Likes.{AreLike}
use Rattle.crew_job.specs.Grounds.{Ground}
use Rattle.crew_job.specs.Jobs.{Job}
use Rattle.crew_board.proofs.round.Round.bring.Goals as goal

pub take_in-requires : goal.take_in-requires
take_in-requires c =
    let like = c.likeness_of-like.result in
    let value = c.ground.ensures.value ∙ ap (λ (j : Job). j.ground) c.job.ensures in
    let own = c.deref.ensures ∙ ap (λ (z : Marked). z.ground) c.self.view_is in
    subst (λ (g : Ground). AreLike like c.args.done.ground g) own (subst (λ (g : Ground). AreLike like g c.deref.result.now) value c.likeness_of-like.ensures)
