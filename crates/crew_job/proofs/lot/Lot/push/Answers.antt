use Rattle.std.proofs.Common.{sym, subst}
use Rattle.crew_job.proofs.Lots.{lot-more}
use Rattle.crew_job.specs.Lots.{IsLot, StandOn}
use Rattle.crew_job.proofs.lot.Lot.push.Goals as goal

pub invariant_of-self-2 : goal.invariant_of-self-2
invariant_of-self-2 c =
    subst IsLot (sym c.in_ok-push.ensures.items) (lot-more c.self.inside.jobs.items c.args.job (subst (StandOn c.args.job.ground) (sym c.self.view_is) c.requires))
