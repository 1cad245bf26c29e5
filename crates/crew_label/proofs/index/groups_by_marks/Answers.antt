use Rattle.crew_label.specs.declared.seen.Seen.{Seen}
use Rattle.crew_label.proofs.Indexed.{entry_within}
use Rattle.crew_label.proofs.index.groups_by_marks.Goals as goal

pub returns : goal.returns
returns g c e m =
    c.in_ok-groups.ensures e m (c.in_ok-divide.ensures.placed e.place
    (c.in_ok-places.ensures e.place (entry_within (λ (s : Seen g.row.R-Value.Denot). s.marks.now) c.args.list.now e m)))
