use Rattle.crew_solve.proofs.OneNet.{one-net}
use Rattle.crew_solve.proofs.alike.are_one.Goals as goal

pub returns : goal.returns
returns c = λ all.
    one-net c.args.old.now c.args.net.now c.args.twins.now c.requires.settings c.requires.twins c.size_of.ensures c.size_of-2.ensures (c.are_alike.ensures c.if-not-are_alike.false) (c.have_twins.ensures all)
