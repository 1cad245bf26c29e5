use Rattle.std.proofs.Common.{◌∙◌, ◌++◌, ◌∷◌, [], ◌+◌, List, ap, arith, length, subst, sym}
use Rattle.std.proofs.lemmas.Iterator.Adapters.{YieldsList-from_vec}
use Rattle.std.proofs.lemmas.Iterator.Consumers.{YieldsList-turn}
use Rattle.crew_board.proofs.Each.{takes-ground, takes-long, takes-more, tally-more, tally-total}
use Rattle.crew_board.proofs.Likes.{like-each}
use Rattle.crew_board.specs.Lots.{counted}
use Rattle.crew_board.specs.Machinery.Likes.{AreLike}
use Rattle.crew_board.specs.declared.tally.Tally.{Tally}
use Rattle.crew_job.specs.Grounds.{Ground}
use Rattle.crew_job.specs.Jobs.{Job}
use Rattle.crew_resource.proofs.Members.{Member-get_or}
use Rattle.crew_resource.specs.Members.{Member}
use Rattle.crew_board.proofs.round.Round.bring_lot.Goals as goal

pub take_in-requires : goal.take_in-requires
take_in-requires c =
    let v = c.into_results-one-items.result in
    let gives = c.into_iter-one-iterator.ensures.into_iter_gives in
    let one = c.in-Some.one in
    let like = c.likeness_to-like.result in
    let at = YieldsList-turn (YieldsList-from_vec {s = c.into_iter-one-iterator.result} v.items gives.0 (gives.1 ∙ v.ok.0)) c.loop-one.yielded c.loop-one.one-iterator c.loop-one.yielded_by c.next.result c.next.new.self one c.in-Some.is c.next.ensures.steps in
    let here : Member v.items one = Member-get_or v.items (length c.loop-one.yielded) one at.0 (sym at.1) in
    let there = subst (λ (l : List Job). Member l one) c.into_results-one-items.ensures.results here in
    let own = like-each c.ground.result (λ g. g.now) like c.args.done c.args.self.now.ground c.ground.ensures c.likeness_to-like.ensures one there in
    subst (λ (g : Ground). AreLike like one.ground g) (sym c.loop-one.invariant.0) own

pub count-tally-requires : goal.count-tally-requires
count-tally-requires c =
    let v = c.into_results-one-items.result in
    let gives = c.into_iter-one-iterator.ensures.into_iter_gives in
    let one = c.in-Some.one in
    let at = YieldsList-turn (YieldsList-from_vec {s = c.into_iter-one-iterator.result} v.items gives.0 (gives.1 ∙ v.ok.0)) c.loop-one.yielded c.loop-one.one-iterator c.loop-one.yielded_by c.next.result c.next.new.self one c.in-Some.is c.next.ensures.steps in
    let was = c.loop-one.invariant.1 in
    let low = at.0 in
    let all = ap length c.into_results-one-items.ensures.results in
    let len = c.len-count.ensures in
    let fits = c.len-count.type_inv in
    let long = takes-long c.args.self.now c.loop-one.self c.loop-one.yielded was.0 was.1 in
    let total = ap (λ (t : Tally). t.stored + t.again + t.stale) was.2 ∙ tally-total was.0 in
    omega (arith, low, all, len, fits, long, total)

pub loop-one-preserved : goal.loop-one-preserved
loop-one-preserved c =
    let one = c.in-Some.one in
    let new = c.take_in.new.self in
    let what = c.take_in.result in
    let was = c.loop-one.invariant in (
      takes-ground c.loop-one.self one what new c.take_in.ensures ∙ was.0,
      (
        was.1.0 ++ what ∷ [],
        takes-more c.args.self.now c.loop-one.self new c.loop-one.yielded was.1.0 one what was.1.1 c.take_in.ensures,
        c.count-tally.ensures ∙ (ap (counted what) was.1.2 ∙ sym (tally-more was.1.0 what)),
      ),
    )
