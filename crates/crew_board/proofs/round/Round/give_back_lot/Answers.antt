use Rattle.std.proofs.Common.{◌≡◌, ◌∙◌, ◌++◌, ◌∷◌, [], ◌+◌, List, ap, arith, subst, sym, take}
use Rattle.std.proofs.lemmas.List.{take_more}
use Rattle.crew_board.proofs.Each.{freed-few, freed-more, takes-back-ground, takes-back-more}
use Rattle.crew_board.proofs.Likes.{like-each}
use Rattle.crew_board.specs.Lots.{freed_of}
use Rattle.crew_board.specs.Machinery.Likes.{AreLike}
use Rattle.crew_board.specs.Machinery.Turns.{TakesBackEach}
use Rattle.crew_job.specs.Grounds.{Ground}
use Rattle.crew_job.specs.Jobs.{Job}
use Rattle.crew_resource.proofs.Members.{Member-get_or}
use Rattle.crew_resource.specs.Members.{Member}
use Rattle.crew_board.proofs.round.Round.give_back_lot.Goals as goal

pub take_back-requires : goal.take_back-requires
take_back-requires c =
    let items = c.jobs-job-items.result.now in
    let job = c.job-item.result in
    let like = c.likeness_to-like.result in
    let here : Member items job = Member-get_or items c.loop-job.job-index job c.loop-job-test.true (sym c.job-item.is) in
    let there = subst (λ (l : List Job). Member l job) c.jobs-job-items.ensures.jobs here in
    let own = like-each c.ground.result (λ g. g.now) like c.args.lot.now c.args.self.now.ground c.ground.ensures c.likeness_to-like.ensures job there in
    subst (λ (g : Ground). AreLike like job.ground g) (sym c.loop-job.invariant.0) own

pub count_if-count-requires : goal.count_if-count-requires
count_if-count-requires c =
    let few = c.loop-job.invariant.1 in
    let test = c.loop-job-test.true in
    let fits = c.jobs-job-items.type_inv.0 in
    omega (arith, few, test, fits)

pub loop-job-preserved : goal.loop-job-preserved
loop-job-preserved c =
    let items = c.jobs-job-items.result.now in
    let job = c.job-item.result in
    let k = c.loop-job.job-index in
    let new = c.take_back.new.self in
    let freed = c.take_back.result in
    let was = c.loop-job.invariant in
    let each = takes-back-more c.args.self.now c.loop-job.self new (take k items) was.2.0 job freed was.2.1 c.take_back.ensures in
    let more : take (k + 1) items ≡ take k items ++ job ∷ [] = take_more items k job c.loop-job-test.true ∙ ap (λ (j : Job). take k items ++ j ∷ []) (sym c.job-item.is) in
    let few = was.1 in
    let one = freed-few freed in
    let count = c.count_if-count.ensures in (
      takes-back-ground c.loop-job.self job freed new c.take_back.ensures ∙ was.0,
      omega (arith, few, one, count),
      (
        was.2.0 ++ freed ∷ [],
        subst (λ (l : List Job). TakesBackEach c.args.self.now l (was.2.0 ++ freed ∷ []) new) (sym more) each,
        count ∙ (ap (λ n. n + freed_of (freed ∷ [])) was.2.2 ∙ sym (freed-more was.2.0 freed)),
      ),
    )
