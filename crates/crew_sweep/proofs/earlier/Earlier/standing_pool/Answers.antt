use Rattle.std.specs.Arc.{arc_value}
use Rattle.std.proofs.Common.{List, refl, subst, sym}
use Rattle.crew_carry.specs.Spans.{AreWithin}
use Rattle.crew_pairing.specs.declared.vector.PairingVector.{PairingVector}
use Rattle.crew_pool.specs.declared.label_walk.LabelWalk.{LabelWalk}
use Rattle.crew_sweep.specs.Machinery.Renewing.{IsPositionPool}
use Rattle.crew_sweep.proofs.Standing.{standing}
use Rattle.crew_sweep.proofs.earlier.Earlier.standing_pool.Goals as goal

pub returns-clause-pool : goal.returns-clause-pool
returns-clause-pool c =
    let Labels = List (PairingVector × LabelWalk) in
    let old = c.args.self.now.sweep.now in
    let net = c.args.ground.now.net.now in
    let t = c.args.self.now.twins.now in
    let pool = arc_value c.shared-pool.result.now in
    let span = c.digest.result.span in
    let same = c.shared-pool.ensures.same in
    let within = subst (λ (ls : Labels). AreWithin span ls) (sym same) c.digest.ensures.span in
    let stands = standing old net t.ranks c.requires.beside.earlier.twins.ranks c.args.walks.now c.args.carrier.now c.requires.carried c.args.position pool same c.shared-pool.ensures.kept.counts span within (c.if-not-stands.ensures refl) in
    subst (λ (ls : Labels). IsPositionPool old net c.args.walks.now c.args.position ls) (sym c.in_ok-try_clone.ensures) stands
