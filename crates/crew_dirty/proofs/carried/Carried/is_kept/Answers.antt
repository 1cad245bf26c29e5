use Rattle.std.proofs.Common.{◌∙◌, sym}
use Rattle.crew_dirty.proofs.Nodes.{kept-at}
use Rattle.crew_dirty.proofs.carried.Carried.is_kept.Goals as goal

pub returns-in-Some : goal.returns-in-Some
returns-in-Some c = λ t u old over.
    let net = c.args.net.now in
    let node = c.args.node.now in
    let place = c.in-Some.ensures.is in
    let at = c.in-Some.place in
    let d = place.is_rank.0 in
    let told = kept-at t u old net c.args.self.now over at.base at.rank node d place.is_base place.is_rank.2 place.is_rank.1.key in
    (λ e. told.0 (sym c.is_kept_at.ensures.flags ∙ e), λ k. c.is_kept_at.ensures.flags ∙ told.1 k)
