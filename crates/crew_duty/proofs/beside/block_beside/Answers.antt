use Rattle.crew_duty.specs.Machinery.Held.{held}
use Rattle.crew_duty.proofs.beside.block_beside.Goals as goal

pub at-requires : goal.at-requires
at-requires c = (c.args.plan.now.settings.now, held c.args.plan.now, c.requires.kept, c.requires.place)
