use Rattle.std.proofs.Common.{List, subst}
use Rattle.crew_resource.specs.Members.{Member}
use Rattle.crew_audit.specs.Machinery.Leaving.{departs_within}
use Rattle.crew_audit.specs.declared.flight_list.Block.{Block}
use Rattle.crew_audit.proofs.Leaving.{among-made, blocks-more}
use Rattle.crew_audit.proofs.flight_list.add_block.Goals as goal

pub returns : goal.returns
returns c b m =
    let new : Block = record { span = c.args.span; flights = c.in_ok-flights.flights } in
    blocks-more c.args.flights.now c.args.blocks.now.items new c.requires
    (among-made (departs_within c.args.span) c.args.flights.now c.in_ok-flights.flights.items c.in_ok-flights.ensures) b
    (subst (λ (bs : List Block). Member bs b) c.in_ok-push.ensures.items m)
