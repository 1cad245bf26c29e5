use Rattle.std.proofs.Common.{sym, subst}
use Rattle.crew_sweep.specs.Machinery.Parts.{AreSuffixes}
use Rattle.crew_sweep.proofs.Parts.{suffixes-fewer}
use Rattle.crew_sweep.proofs.slide.Slide.begin_at.Goals as goal

pub returns-then-reaches-clause-stacked : goal.returns-then-reaches-clause-stacked
returns-then-reaches-clause-stacked c =
    let was = c.args.self.now in
    let stacked = c.requires.sliding.stacked in
    record {
      ordered = stacked.ordered;
      before = subst (AreSuffixes c.args.walks.now c.args.held.now was.middle) (sym c.truncate.ensures.items) (suffixes-fewer c.args.walks.now c.args.held.now was.middle was.before.items _ stacked.before);
      after = stacked.after;
    }
