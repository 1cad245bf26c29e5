use Rattle.std.proofs.Common.{sym}
use Rattle.crew_resource.proofs.Members.{Member-get_or}
use Rattle.crew_audit.proofs.flight_list.covering.Goals as goal

pub returns-then-covers-clause-there : goal.returns-then-covers-clause-there
returns-then-covers-clause-there c =
    let lookup = c.in_ok-block.ensures.lookup in
    Member-get_or c.args.blocks.now c.in_ok-place.place c.in_ok-block.block.now lookup.3.0 (sym lookup.1)
