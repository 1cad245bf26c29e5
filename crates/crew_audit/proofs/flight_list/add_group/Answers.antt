use Rattle.std.proofs.Common.{List, subst}
use Rattle.crew_resource.specs.Members.{Member}
use Rattle.crew_audit.specs.declared.flight_list.Leaving.{Leaving}
use Rattle.crew_audit.proofs.Leaving.{groups-more}
use Rattle.crew_audit.proofs.flight_list.add_group.Goals as goal

pub returns-in_ok-push : goal.returns-in_ok-push
returns-in_ok-push c g m =
    groups-more c.args.flights.now c.args.groups.now.items _ c.requires c.in_ok-group_of.ensures g
    (subst (λ (gs : List Leaving). Member gs g) c.in_ok-push.ensures.items m)
