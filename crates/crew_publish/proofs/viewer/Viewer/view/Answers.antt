use Rattle.std.proofs.Common.{sym, subst}
use Rattle.crew_version.specs.Versions.{Snapshot}
use Rattle.crew_publish.specs.Chain.{Extends}
use Rattle.crew_publish.proofs.Chains.{extends_told}
use Rattle.crew_publish.proofs.viewer.Viewer.view.Goals as goal

pub returns-clause-told : goal.returns-clause-told
returns-clause-told c told met =
    let s = c.in_ok-version.ensures.ok in
    subst (λ (v : Snapshot). Extends told v) (sym c.of.ensures.0) (extends_told c.args.self.now told c.see.new.self.seen _ met s.0 s.1)
