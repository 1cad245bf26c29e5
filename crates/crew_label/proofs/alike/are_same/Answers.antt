use Rattle.std.proofs.Common.{◌≡◌, map, sym, ◌∙◌, ap}
use Rattle.crew_label.specs.declared.label.Label.{Label}
use Rattle.crew_label.proofs.TwinLabels.{same_labels}
use Rattle.crew_label.proofs.alike.are_same.Goals as goal

pub returns-then-have_same_links : goal.returns-then-have_same_links
returns-then-have_same_links g c =
    let before = λ (l : Label g.row.R-Value.Denot). l.before in
    let links : map before c.args.pool.now ≡ map before c.args.other.now =
    sym (ap (map before) c.as_slice.ensures.all) ∙ (c.have_same_links.ensures.0 c.if-have_same_links.true ∙ ap (map before) c.as_slice-2.ensures.all) in (
      λ t.
          let alike = c.are_alike.ensures.0 t in (
            same_labels c.args.twins.now (g.T.Trails.trail c.args.here.now) (g.U.Trails.trail c.args.there.now) c.args.pool.now c.args.other.now links alike,
            alike,
          ),
      λ h. c.are_alike.ensures.1 h.1,
    )
