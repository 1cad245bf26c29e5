use Rattle.std.proofs.Common.{List, subst}
use Rattle.crew_net.specs.Machinery.Ranking.{IsRankOf}
use Rattle.crew_net.specs.Nets.{IsRankOfKey, Net}
use Rattle.crew_net.proofs.Ranking.{rank-of-key}
use Rattle.crew_pairing.specs.declared.duty.Duty.{Duty}
use Rattle.crew_net.proofs.net.Net.rank_of_key.Goals as goal

pub returns : goal.returns
returns c =
    let n = c.self.inside in
    let key = c.args.key.now in
    let rank = subst (λ (l : List Duty). IsRankOf l key c.rank_of.result) c.deref.ensures c.rank_of.ensures in
    subst (λ (net : Net). IsRankOfKey net.duties key c.rank_of.result) c.self.view_is (rank-of-key n.duties.value key c.rank_of.result rank)
