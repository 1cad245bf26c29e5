use Rattle.std.proofs.Common.{List, ◌++◌, sym, ap, ◌∙◌, subst, rules}
use mathlib.Core.List.{IsPrefix}
use Rattle.std.specs.Arc.{arc_value}
use Rattle.left_right.specs.Sides.{view}
use Rattle.crew_version.specs.Versions.{Snapshot}
use Rattle.crew_publish.specs.Machinery.Rule.{seen_by}
use Rattle.crew_publish.specs.Views.{IsViewOf}
use Rattle.crew_publish.proofs.Chains.{begins_seen, longer}
use Rattle.crew_publish.proofs.viewer.Viewer.see_past.Goals as goal

pub invariant_of-self : goal.invariant_of-self
invariant_of-self c =
    let i = c.self.invariant in
    let g = c.look_at.ensures.grows in
    (g.0 ++ i.0, longer _ _ _ g.0 i.0 g.1 i.1)

pub invariant_of-self-then-not-extends : goal.invariant_of-self-then-not-extends
invariant_of-self-then-not-extends c =
    let i = c.self.invariant in
    let g = c.look_at.ensures.grows in
    (g.0 ++ i.0, longer _ _ _ g.0 i.0 g.1 i.1)

pub returns-clause-ok : goal.returns-clause-ok
returns-clause-ok c =
    let i = c.self.invariant in
    let s = c.in_ok-version.ensures.ok in
    let first = begins_seen _ _ i.0 s.0 _ i.1 (ap (λ w. w.seen) c.self.view_is) s.4 in
    let list = sym (ap (λ r. seen_by (view r.place)) c.of.ensures ∙ ap seen_by s.1) in (
      subst (λ (l : List Snapshot). IsPrefix c.args.self.now.seen l) list first,
      subst (λ (l : List Snapshot). IsViewOf l (arc_value c.in_ok-version.version)) list (s.2, s.3),
      search rules,
    )
