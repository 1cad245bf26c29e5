use Rattle.std.proofs.Common.{◌<◌, ℕ, length, rules, subst}
use Rattle.crew_net.proofs.Firsts.{read-rank, read-start}
use Rattle.crew_net.proofs.Slices.{get-at}
use Rattle.crew_net.proofs.events.first_of.Goals as goal

pub index-requires-2 : goal.index-requires-2
index-requires-2 c =
    let t = c.requires.timeline in
    let p : c.index.result.now < length c.args.timeline.now.places.items = read-start t.0 c.args.timeline.now t.2 c.args.event c.index.result.now c.requires.event c.index.ensures in
    search rules

pub at-requires : goal.at-requires
at-requires c =
    let t = c.requires.timeline in
    let p = read-rank t.0 c.args.timeline.now t.2 c.args.event c.index.result.now c.index-2.result.now c.requires.event c.index.ensures c.index-2.ensures in
    subst (λ (n : ℕ). c.index-2.result.now < n) t.1 p.0

pub returns : goal.returns
returns c = λ ats it.
    let t = c.requires.timeline in
    let rank = c.index-2.result.now in
    let few = read-rank t.0 c.args.timeline.now t.2 c.args.event c.index.result.now rank c.requires.event c.index.ensures c.index-2.ensures in
    let p = read-rank ats c.args.timeline.now it c.args.event c.index.result.now rank c.requires.event c.index.ensures c.index-2.ensures in
    let within : rank < length c.args.duties.now = subst (λ (n : ℕ). rank < n) t.1 few.0 in
    (rank, within, λ e. get-at c.args.duties.now rank c.at.result.now e c.at.ensures, p.1)
