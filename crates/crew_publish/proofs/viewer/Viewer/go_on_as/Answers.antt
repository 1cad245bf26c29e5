use Rattle.std.proofs.Common.{subst}
use Rattle.std.specs.Arc.{arc_value}
use Rattle.crew_version.specs.Versions.{Snapshot}
use Rattle.crew_publish.specs.Chain.{Extends}
use Rattle.crew_publish.proofs.Chains.{extends_told, extends_trans}
use Rattle.crew_publish.proofs.viewer.Viewer.go_on_as.Goals as goal

pub returns-clause-kept : goal.returns-clause-kept
returns-clause-kept c told met =
    let p = c.in_ok-shown.ensures.ok in
    let s = c.in_ok-see_past.ensures.ok in
    let shown = arc_value c.in_ok-shown.shown in
    let next = arc_value c.in_ok-see_past.field-0 in
    let before = extends_told c.args.self.now told p.0 shown met p.1 p.2 in
    let after = subst (λ (v : Snapshot). Extends v next) c.deref.ensures s.2 in
    (next, s.1.1, extends_trans told shown next before after)
