use Rattle.std.proofs.lemmas.Slice.Eq.{slice_eq-Decides}
use Rattle.crew_step.proofs.Sames.{entry-decides}
use Rattle.crew_step.proofs.same.are_same_entries.Goals as goal

pub returns : goal.returns
returns c = slice_eq-Decides entry-decides c.args.a.now c.args.b.now c.eq.result c.eq.ensures
