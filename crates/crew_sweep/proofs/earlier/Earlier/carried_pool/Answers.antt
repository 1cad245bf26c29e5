use Rattle.std.specs.Arc.{arc_value}
use Rattle.std.specs.Global.{Global}
use Rattle.std.specs.declared.sync.Arc.{Arc}
use Rattle.std.proofs.Common.{ℕ, List, Option, get_or, subst, sym, [], true}
use Rattle.crew_pairing.specs.declared.vector.PairingVector.{PairingVector}
use Rattle.crew_pool.specs.Counted.{AreCounted}
use Rattle.crew_pool.specs.declared.label_walk.LabelWalk.{LabelWalk}
use Rattle.crew_sweep.specs.Machinery.Renewing.{IsPositionPool}
use Rattle.crew_sweep.proofs.KeptSteps.{AreCarried, AreRankedNow, if-carried}
use Rattle.crew_sweep.proofs.earlier.Earlier.carried_pool.Goals as goal

pub returns-clause-pool : goal.returns-clause-pool
returns-clause-pool c =
    let Labels = List (PairingVector × LabelWalk) in
    let old = c.args.self.now.sweep.now in
    let net = c.args.ground.now.net.now in
    let t = c.args.self.now.twins.now in
    if-carried c.share.result _ _ _ (λ (p : Arc Labels Global). IsPositionPool old net c.share.new.to c.args.position (arc_value p)) c.share.ensures.labels c.share.ensures.counted c.share.ensures.ranked
    (λ (p : Arc Labels Global) labels counts ranked.
    let pool = arc_value p in
    let now = c.share.new.to in
    let was = get_or old.pools c.args.position [] in
    let given : AreCarried c.ranks-ranks.result.now c.walks-from.result.now (arc_value c.shared-pool.result.now) now pool = labels in
    let by-ranks : AreCarried t.ranks c.walks-from.result.now (arc_value c.shared-pool.result.now) now pool = subst (λ (rs : List (Option ℕ)). AreCarried rs c.walks-from.result.now (arc_value c.shared-pool.result.now) now pool) c.ranks-ranks.ensures given in
    let by-walks : AreCarried t.ranks old.walks (arc_value c.shared-pool.result.now) now pool = subst (λ (ws : List (List ℕ)). AreCarried t.ranks ws (arc_value c.shared-pool.result.now) now pool) c.walks-from.ensures by-ranks in
    let carried : AreCarried t.ranks old.walks was now pool = subst (λ (ls : Labels). AreCarried t.ranks old.walks ls now pool) c.shared-pool.ensures.same by-walks in
    let own : AreCounted (λ (v : PairingVector). v.duties) c.walks-from.result.now true (arc_value c.shared-pool.result.now) = subst (λ (ws : List (List ℕ)). AreCounted (λ (v : PairingVector). v.duties) ws true (arc_value c.shared-pool.result.now)) (sym c.walks-from.ensures) c.shared-pool.ensures.kept.counts in
    let all-ranked : AreRankedNow c.ranks-ranks.result.now now pool = ranked in
    let twins = c.requires.beside.earlier.twins.ranks in
    record {
      labels = carried old.net.duties net.duties twins;
      counts = counts (λ (v : PairingVector). v.duties) own;
      ranked = subst (λ (rs : List (Option ℕ)). AreRankedNow rs now pool) c.ranks-ranks.ensures all-ranked old.net.duties net.duties twins;
    })
