use Rattle.std.proofs.Common.{subst}
use Rattle.std.specs.Arc.{arc_value}
use Rattle.crew_publish.specs.Chain.{Extends}
use Rattle.crew_version.specs.Versions.{Snapshot}
use Rattle.crew_publish.proofs.Chains.{extends_told}
use Rattle.crew_publish.proofs.viewer.Viewer.learn.Goals as goal

pub returns-clause-told : goal.returns-clause-told
returns-clause-told g c =
    let s = c.in_ok-see_past.ensures.ok in
    let next = arc_value c.in_ok-see_past.field-0 in
    (next, s.1.1, subst (λ (v : Snapshot). Extends v next) c.version.ensures.value s.2)

pub returns-clause-kept : goal.returns-clause-kept
returns-clause-kept g c told met =
    let s = c.in_ok-see_past.ensures.ok in
    (_, s.1.1, extends_told c.args.self.now told _ _ met s.0 s.1)
